use Rattle.std.proofs.Common.{◌∙◌, ap, arith, Option}
use Rattle.fh_base.specs.declared.values.Slot.{Slot}
use Rattle.slot_rings.specs.Places.{PlaceValue, cell_number, is_place_of}
use Rattle.slot_rings.specs.Rings.{RingValue}
use Rattle.slot_rings.proofs.JudgeLemmas.{cell_apart}
use Rattle.slot_rings.proofs.RingLemmas.{symbols_are, block_other}
use Rattle.slot_rings.proofs.ring.SlotRing.fill.Goals as goal

pub fill_place-requires-clause-symbol : goal.fill_place-requires-clause-symbol
fill_place-requires-clause-symbol c = omega (arith, symbols_are c.args.self.now.endpoint.numerology, c.requires.symbol)

pub returns-clause-others : goal.returns-clause-others
returns-clause-others c cell is at ne =
    block_other c.args.self.now c.fill_place.new.self c.args.slot cell (cell_number c.args.self.now.endpoint.prbs c.args.symbol c.args.prb)
    (ap (λ (r : RingValue). r.endpoint) c.fill_place.ensures.only) c.requires.has
    (ap (λ (o : Option Slot). is_place_of o c.args.slot) (ap (λ (p : PlaceValue). p.slot) c.fill_place.ensures.kept) ∙ c.requires.has) at
    (λ e. let q = cell_apart cell.symbol c.args.symbol c.args.self.now.endpoint.prbs cell.prb c.args.prb is.prb c.requires.prb e in ne q.0 q.1)
    c.fill_place.ensures.others
