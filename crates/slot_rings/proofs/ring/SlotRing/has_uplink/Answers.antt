use Rattle.std.proofs.Common.{◌≡◌, ℕ, [], arith, subst}
use Rattle.std.proofs.lemmas.Bool.Decides.{nat_tests}
use Rattle.slot_rings.specs.Counts.{HasSections}
use Rattle.slot_rings.specs.Rings.{RingValue, ring_uplink}
use Rattle.slot_rings.proofs.CountLemmas.{none_held}
use Rattle.slot_rings.proofs.ring.SlotRing.has_uplink.Goals as goal

pub returns : goal.returns
returns c off slot =
    let r : RingValue = record { endpoint = c.self.inside.endpoint; places = c.self.inside.places.items } in
    let none : c.self.inside.sections ≡ 0 = grind (arith, nat_tests) in
    subst (λ (x : RingValue). ring_uplink x slot ≡ []) c.self.view_is (none_held r slot c.self.invariant.0 (subst (λ (n : ℕ). HasSections r n) none c.self.invariant.2))
