-- Two slots that are live have two places.
use Rattle.std.proofs.Common.{◌≡◌, ℕ, ℤ, pos, ◌<◌, ◌+ℤ◌, ◌<ℤ◌, length, arith}
use Rattle.std.proofs.lemmas.Int.{ints}
use Rattle.fh_base.specs.Numbering.{IsSlotOf, slot_number}
use Rattle.fh_base.specs.declared.numerology.Numerology.{Numerology}
use Rattle.fh_base.specs.declared.values.Slot.{Slot}
use Rattle.fh_base.proofs.Order.{same_slot}
use Rattle.window_config.specs.declared.delays.Delays.{Delays}
use Rattle.unit_model.specs.Terms.{Side}
use Rattle.unit_model.specs.Proper.{IsSlot}
use Rattle.unit_model.specs.Sides.{IsLiveOn}
use Rattle.slot_rings.specs.Rings.{RingValue, SharePlace}
use Rattle.unit_cells.specs.Cells.{HoldsLive}
use Rattle.unit_cells.proofs.NumberLemmas.{near_signed}

pub is_slot_of : (n : Numerology) (slot : Slot) → IsSlot n slot → IsSlotOf n slot
is_slot_of n slot is = record { subframe = is.subframe; slot = is.slot_is }

some_places : (x : ℤ) (n : ℕ) → x <ℤ (x +ℤ pos n) → 0 < n
some_places x n h = omega (arith, ints)

pub one_slot : (side : Side) (d : Delays) (r : RingValue) (clock : ℤ) (a b : Slot) → HoldsLive side d r → IsSlot r.endpoint.numerology a → IsSlot r.endpoint.numerology b
    → IsLiveOn side d r.endpoint clock a → IsLiveOn side d r.endpoint clock b → SharePlace r a b → a ≡ b
one_slot side d r clock a b holds is_a is_b live_a live_b share =
    let n = r.endpoint.numerology in
    let slot_a = is_slot_of n a is_a in
    let slot_b = is_slot_of n b is_b in
    let some = some_places (slot_number n a) (length r.places) (holds clock a a slot_a slot_a live_a live_a) in
    same_slot n b a slot_b slot_a
    (near_signed (slot_number n a) (slot_number n b) (length r.places) some share (holds clock b a slot_b slot_a live_b live_a) (holds clock a b slot_a slot_b live_a live_b))
