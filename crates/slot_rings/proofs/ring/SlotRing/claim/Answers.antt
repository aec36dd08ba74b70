use Rattle.std.proofs.Common.{◌∙◌, ap, Option}
use Rattle.fh_base.specs.declared.values.Slot.{Slot}
use Rattle.slot_rings.specs.Places.{cell_number, is_place_of}
use Rattle.slot_rings.specs.Rings.{RingValue}
use Rattle.slot_rings.proofs.RingLemmas.{reported_still, ring_accepted}
use Rattle.slot_rings.proofs.ring.SlotRing.claim.Goals as goal

pub claim_place-requires-clause-accepted : goal.claim_place-requires-clause-accepted
claim_place-requires-clause-accepted c = ring_accepted c.args.self.now c.args.a.now c.requires.endpoint c.requires.accepted

pub returns-clause-reported : goal.returns-clause-reported
returns-clause-reported c cell at =
    reported_still c.args.self.now c.claim_place.new.self c.args.a.now.slot cell (ap (λ (r : RingValue). r.endpoint) c.claim_place.ensures.only) c.requires.has
    (ap (λ (o : Option Slot). is_place_of o c.args.a.now.slot) c.claim_place.ensures.slot ∙ c.requires.has) at
    (c.claim_place.ensures.reported (cell_number c.args.self.now.endpoint.prbs cell.symbol cell.prb))
