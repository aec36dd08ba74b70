use Rattle.std.proofs.Common.{◌∙◌, ap, get_or, None}
use Rattle.slot_rings.specs.Places.{PlaceValue, blocks_seen}
use Rattle.slot_rings.proofs.SeenLemmas.{all_seen}
use Rattle.slot_rings.proofs.ring.SlotRing.has_all.Goals as goal

pub returns : goal.returns
returns c ep = c.all_there.ensures
    ∙ all_seen c.args.self.now c.args.slot c.blocks-2.result
    (λ k. c.blocks-2.ensures k ∙ ap (λ (p : PlaceValue). get_or (blocks_seen p c.args.slot) k None) c.place.ensures.value)
    c.args.symbol c.args.first c.args.count c.number-base.result ep c.number-base.ensures.value
