use Rattle.std.proofs.Common.{◌∙◌, ap, arith, Option}
use Rattle.fh_base.specs.declared.values.Slot.{Slot}
use Rattle.slot_rings.specs.Places.{PlaceValue, cell_number, is_place_of}
use Rattle.slot_rings.specs.Rings.{RingValue}
use Rattle.slot_rings.proofs.RunLemmas.{cells_outside}
use Rattle.slot_rings.proofs.RingLemmas.{symbols_are, block_still}
use Rattle.slot_rings.proofs.ring.SlotRing.fill_run.Goals as goal

pub fill_run_place-requires-clause-symbol : goal.fill_run_place-requires-clause-symbol
fill_run_place-requires-clause-symbol c = omega (arith, symbols_are c.args.self.now.endpoint.numerology, c.requires.symbol)

pub returns-clause-others : goal.returns-clause-others
returns-clause-others c cell is at ne =
    let prbs = c.args.self.now.endpoint.prbs in
    block_still c.args.self.now c.fill_run_place.new.self c.args.slot cell
    (ap (λ (r : RingValue). r.endpoint) c.fill_run_place.ensures.only) c.requires.has
    (ap (λ (o : Option Slot). is_place_of o c.args.slot) (ap (λ (p : PlaceValue). p.slot) c.fill_run_place.ensures.kept) ∙ c.requires.has) at
    (c.fill_run_place.ensures.others (cell_number prbs cell.symbol cell.prb)
    (cells_outside cell.symbol c.args.symbol prbs cell.prb c.args.first c.args.run.now.count is.prb c.requires.prbs ne))
