use Rattle.std.proofs.Common.{◌≡◌, ap, arith, length}
use Rattle.std.proofs.lemmas.Bool.Decides.{nat_tests}
use Rattle.slot_rings.specs.Rings.{RingValue}
use Rattle.slot_rings.proofs.CountLemmas.{none_held_at}
use Rattle.slot_rings.proofs.ring.SlotRing.has_uplink_at.Goals as goal

pub returns : goal.returns
returns c off slot at =
    let r : RingValue = record { endpoint = c.self.inside.endpoint; places = c.self.inside.places.items } in
    let none : length c.index.result.now.uplink ≡ 0 = grind (arith, nat_tests) in
    none_held_at r c.args.self.now slot c.args.index c.index.result.now c.self.view_is (omega (arith, c.requires, ap (λ (x : RingValue). length x.places) c.self.view_is)) c.index.ensures at none
