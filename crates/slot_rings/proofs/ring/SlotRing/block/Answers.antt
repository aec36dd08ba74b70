use Rattle.std.proofs.Common.{◌∙◌, ap, get_or, None}
use Rattle.slot_rings.specs.Places.{PlaceValue, blocks_seen}
use Rattle.slot_rings.proofs.SeenLemmas.{block_there}
use Rattle.slot_rings.proofs.ring.SlotRing.block.Goals as goal

pub returns : goal.returns
returns c ep = c.block.ensures
    ∙ block_there c.args.self.now c.args.slot c.blocks-2.result
    (λ k. c.blocks-2.ensures k ∙ ap (λ (p : PlaceValue). get_or (blocks_seen p c.args.slot) k None) c.place.ensures.value)
    c.args.symbol c.args.prb c.number-number.result ep c.number-number.ensures.value
