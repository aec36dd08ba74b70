use Rattle.std.proofs.Common.{get_or, subst, sym}
use Rattle.slot_rings.specs.Places.{blank}
use Rattle.slot_rings.specs.Rings.{RingValue}
use Rattle.slot_rings.specs.Starts.{StartsFrom}
use Rattle.slot_rings.proofs.StartLemmas.{starts_anew}
use Rattle.slot_rings.proofs.ring.SlotRing.renew_start.Goals as goal

pub invariant_of-self : goal.invariant_of-self
invariant_of-self c =
    let r : RingValue = record { endpoint = c.self.inside.endpoint; places = c.self.inside.places.items } in (
      c.self.invariant.0,
      c.self.invariant.1,
      c.self.invariant.2,
      starts_anew r c.self.inside.starts c.put.new.self c.index-index.result c.first_start-start.result.0 c.self.invariant.3 c.put.ensures.size c.put.ensures.here
          c.put.ensures.others
          (subst (λ (x : RingValue). StartsFrom x (get_or x.places c.index-index.result blank) c.first_start-start.result.0) (sym c.self.view_is) c.first_start-start.ensures),
    )
