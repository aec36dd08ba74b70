use Rattle.slot_rings.specs.Rings.{RingValue}
use Rattle.slot_rings.proofs.PendingLemmas.{no_flags}
use Rattle.slot_rings.proofs.StartLemmas.{due_from_least}
use Rattle.slot_rings.proofs.ring.SlotRing.earliest.Goals as goal

pub returns-then-has_any : goal.returns-then-has_any
returns-then-has_any c =
    let r : RingValue = record { endpoint = c.self.inside.endpoint; places = c.self.inside.places.items } in
    due_from_least r c.args.self.now c.self.inside.starts c.earliest.result c.self.view_is c.self.invariant.0 c.self.invariant.3 c.earliest.ensures

pub returns-else-has_any : goal.returns-else-has_any
returns-else-has_any c slot symbol ep any within =
    let r : RingValue = record { endpoint = c.self.inside.endpoint; places = c.self.inside.places.items } in
    no_flags r c.args.self.now c.self.inside.pending ep slot symbol c.self.view_is c.self.invariant.0 c.self.invariant.1 (c.has_any.ensures c.if-has_any.false) within
