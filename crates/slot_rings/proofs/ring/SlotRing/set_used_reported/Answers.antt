use Rattle.std.proofs.Common.{◌≡◌, ◌∙◌, ap, arith, Option}
use Rattle.fh_base.specs.declared.values.Slot.{Slot}
use Rattle.slot_rings.specs.Places.{PlaceValue, cell_number, is_place_of}
use Rattle.slot_rings.specs.Rings.{RingValue, has_slot}
use Rattle.slot_rings.proofs.ReportedLemmas.{prb_behind}
use Rattle.slot_rings.proofs.RunLemmas.{cells_outside}
use Rattle.slot_rings.proofs.RingLemmas.{claims_still, symbols_are, reported_still, used_reported}
use Rattle.slot_rings.proofs.ring.SlotRing.set_used_reported.Goals as goal
use Rattle.slot_rings.proofs.ring.SlotRing.set_used_reported.Goals.{After-report_place}

pub report_place-requires-clause-symbol : goal.report_place-requires-clause-symbol
report_place-requires-clause-symbol c =
    let symbols = symbols_are c.args.self.now.endpoint.numerology in
    omega (arith, symbols, c.requires.symbol)

endpoint_is : (c : After-report_place) → c.report_place.new.self.endpoint ≡ c.args.self.now.endpoint
endpoint_is c = ap (λ (r : RingValue). r.endpoint) c.report_place.ensures.only

has_still : (c : After-report_place) → has_slot c.report_place.new.self c.args.slot ≡ has_slot c.args.self.now c.args.slot
has_still c = ap (λ (o : Option Slot). is_place_of o c.args.slot) (ap (λ (p : PlaceValue). p.slot) c.report_place.ensures.kept)

pub returns-clause-here : goal.returns-clause-here
returns-clause-here c ep prb below =
    used_reported c.args.self.now c.report_place.new.self c.args.slot c.args.symbol ep prb (endpoint_is c) c.requires.has (has_still c ∙ c.requires.has)
    (c.report_place.ensures.here prb below)

pub returns-clause-others : goal.returns-clause-others
returns-clause-others c cell is at behind =
    let prbs = c.args.self.now.endpoint.prbs in
    let outside = cells_outside cell.symbol c.args.symbol prbs cell.prb 0 c.args.count is.prb (omega (arith, c.requires.count))
    (λ same. prb_behind c.args.count cell.prb (behind same)) in
    reported_still c.args.self.now c.report_place.new.self c.args.slot cell (endpoint_is c) c.requires.has (has_still c ∙ c.requires.has) at
    (c.report_place.ensures.others (cell_number prbs cell.symbol cell.prb) outside)

pub returns-clause-claims : goal.returns-clause-claims
returns-clause-claims c = claims_still c.args.self.now c.report_place.new.self c.args.slot (endpoint_is c) c.report_place.ensures.kept c.report_place.ensures.claims
