use Rattle.slot_rings.specs.Rings.{RingValue}
use Rattle.slot_rings.proofs.PendingLemmas.{no_flags_at}
use Rattle.slot_rings.proofs.StartLemmas.{due_from_at}
use Rattle.slot_rings.proofs.ring.SlotRing.earliest_at.Goals as goal

pub returns-then-has_any_of : goal.returns-then-has_any_of
returns-then-has_any_of c =
    let r : RingValue = record { endpoint = c.self.inside.endpoint; places = c.self.inside.places.items } in
    due_from_at r c.args.self.now c.self.inside.starts c.args.index c.at.result c.self.view_is c.self.invariant.0 c.self.invariant.3 c.at.ensures

pub returns-else-has_any_of : goal.returns-else-has_any_of
returns-else-has_any_of c slot symbol ep at within =
    let r : RingValue = record { endpoint = c.self.inside.endpoint; places = c.self.inside.places.items } in
    no_flags_at r c.args.self.now c.self.inside.pending ep slot symbol c.args.index c.self.view_is c.self.invariant.0 c.self.invariant.1 at
    (c.has_any_of.ensures c.if-has_any_of.false) within
