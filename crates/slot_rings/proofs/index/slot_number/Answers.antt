use Rattle.std.proofs.Common.{◌≡◌, ℕ, ℤ, ◌<◌, ◌≤◌, ◌*◌, ◌≤ℤ◌, pos, neg_ℤ, ◌*ℤ◌, arith, rules, to_z, of_z}
use Rattle.std.proofs.lemmas.Int.{ints, unsigned_abs-mul, fits_signed_from_abs}
use Rattle.std.proofs.lemmas.Nat.{mul-le}
use Rattle.std.specs.Int.RustNames.{unsigned_abs}
use mir.Syntax.{w64}
use Rattle.slot_rings.proofs.index.slot_number.Goals as goal

small : (a b : ℤ) (n : ℕ) → neg_ℤ (pos 10000000) ≤ℤ a → a ≤ℤ pos 10000009 → b ≡ pos n → n < 256
    → unsigned_abs (to_z w64 (of_z w64 a) *ℤ to_z w64 (of_z w64 b)) ≤ 10000009 * 255
small a b n low high is few = rw unsigned_abs-mul (mul-le _ _ 10000009 255 (omega (arith, ints)) (omega (arith, ints)))

pub overflow_mul-result : goal.overflow_mul-result
overflow_mul-result c =
    fits_signed_from_abs w64 _ (omega (arith, small _ _ _ c.subframe_number.ensures.low c.subframe_number.ensures.high c.from.ensures (search rules)))

pub overflow_add-result : goal.overflow_add-result
overflow_add-result c =
    let h = small _ _ _ c.subframe_number.ensures.low c.subframe_number.ensures.high c.from.ensures (search rules) in
    let few : c.args.slot.slot < 256 = search rules in
    fits_signed_from_abs w64 _ (omega (arith, ints))

pub returns : goal.returns
returns c =
    let h = small _ _ _ c.subframe_number.ensures.low c.subframe_number.ensures.high c.from.ensures (search rules) in
    let few : c.args.slot.slot < 256 = search rules in
    let a : to_z w64 (of_z w64 c.subframe_number.result) ≡ c.subframe_number.result = omega (arith, ints) in
    let b : to_z w64 (of_z w64 c.from.result) ≡ c.from.result = omega (arith, ints) in
    let most = rw (a, b, c.subframe_number.ensures.value, c.from.ensures, c.shape.ensures) at h in
    rw (a, b, c.subframe_number.ensures.value, c.from.ensures, c.shape.ensures) (omega (arith, ints))
