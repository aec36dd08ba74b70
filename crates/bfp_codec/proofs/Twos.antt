-- Signed numbers as numbers of w bits.
use Rattle.std.proofs.Common.{◌≡◌, ℕ, ℤ, pos, negsuc, suc, ◌+◌, ◌-◌, ◌*◌, ◌/◌, ◌%◌, ◌^◌, ◌<◌, ◌≤◌, ◌-ℤ◌, ◌*ℤ◌, ◌≤ℤ◌, ◌<ℤ◌, inl, inr, refl, sym, ap, ◌∙◌, arith, ltb, true, false, bit_and, subst, add-zero}
use Rattle.std.proofs.lemmas.Int.{ints, fits_signed_mul, to_z_pos}
use Rattle.std.specs.Int.{w16, w32}
use Rattle.std.proofs.Math.Facts.{to_z-neg}
use Rattle.std.proofs.Math.Nat.{mod-eq_of_lt, mul-mod_left}
use Rattle.std.proofs.Math.Pow.{mod-mod-pow}
use mir.Val.{to_z, of_z}
use Rattle.std.specs.Prelude.{FitsSigned}
use Rattle.bfp_codec.proofs.Magnitudes.{power_le}
use Rattle.std.proofs.lemmas.Bool.Decides.{nat_tests}
use Rattle.std.proofs.lemmas.Bool.{le-ltb, lt-ltb, cases_lt, cond-true, cond-false}
use Rattle.std.proofs.lemmas.Nat.{pow_pos, pow-add, one_shl, and_mask, mod_low, shl_below, shl-shr, div-mul-add, mul-le, mod-pow-add}
use Rattle.std.proofs.lemmas.Nat.Bits.{ones_shr}
use Rattle.bfp_codec.specs.Field.{signed}
use Rattle.bfp_codec.specs.Exponent.{Within, floor_of}
use Rattle.bfp_codec.specs.Layout.{twos}
use Rattle.bfp_codec.specs.Magnitude.{magnitude_of}

pub ones_is : (w : ℕ) → w ≤ 16 → 65535 / 2 ^ (16 - w) + 1 ≡ 2 ^ w
ones_is w h =
    let e = ones_shr 16 (16 - w) (omega arith) in
    let back : 16 - (16 - w) ≡ w = omega arith in
    omega (arith, e ∙ ap (λ k. 2 ^ k - 1) back, pow_pos w)

-- a power and its half
pub half : (w : ℕ) → 1 ≤ w → 2 ^ w ≡ 2 ^ (w - 1) + 2 ^ (w - 1)
half w h = let e : w ≡ w - 1 + 1 = omega arith in omega (arith, ap (λ k. 2 ^ k) e, pow-add 2 (w - 1) 1)

pub twos_negative : (w ones : ℕ) (z : ℤ) → ones + 1 ≡ 2 ^ w → z <ℤ pos 0 → ones - magnitude_of z ≡ twos w z
twos_negative w ones (pos n) e h = absurd (omega (arith, ints, h))
twos_negative w ones (negsuc n) e h = omega arith

pub twos_positive : (w : ℕ) (z : ℤ) → pos 0 ≤ℤ z → magnitude_of z ≡ twos w z
twos_positive w (pos n) h = refl
twos_positive w (negsuc n) h = absurd (omega (arith, ints, h))

pub magnitude_fits : (w : ℕ) (z : ℤ) → Within w z → magnitude_of z < 2 ^ (w - 1)
magnitude_fits w (pos n) h = omega (arith, ints, h.high)
magnitude_fits w (negsuc n) h = omega (arith, ints, h.low)

pub twos_fits : (w : ℕ) (z : ℤ) → 1 ≤ w → Within w z → twos w z < 2 ^ w
twos_fits w (pos n) low h = omega (arith, half w low, magnitude_fits w (pos n) h)
twos_fits w (negsuc n) low h = omega (arith, half w low, pow_pos w)

-- what is written is read
pub signed_twos : (w : ℕ) (z : ℤ) → 1 ≤ w → Within w z → signed w (twos w z) ≡ z
signed_twos w (pos n) low h = let small = magnitude_fits w (pos n) h in grind (arith, nat_tests)
signed_twos w (negsuc n) low h =
    let small = magnitude_fits w (negsuc n) h in
    let both = half w low in
    let big : ltb (2 ^ w - suc n) (2 ^ (w - 1)) ≡ false = le-ltb _ _ (omega arith) in
    rw big (omega (arith, ints))

pub signed_within : (w x : ℕ) → 1 ≤ w → x < 2 ^ w → Within w (signed w x)
signed_within w x low h =
    let both = half w low in
    record { low = grind (arith, ints, nat_tests); high = grind (arith, ints, nat_tests) }

pub within_16 : (w : ℕ) (z : ℤ) → w ≤ 16 → Within w z → Within 16 z
within_16 w z high h =
    let most : 2 ^ (w - 1) ≤ 2 ^ 15 = power_le (w - 1) 15 (omega arith) in
    record { low = omega (arith, ints, h.low); high = omega (arith, ints, h.high) }

pub scaled_fits : (z : ℤ) (e : ℕ) → Within 16 z → e ≤ 15 → FitsSigned w32 (z *ℤ pos (2 ^ e))
scaled_fits z e h small =
    fits_signed_mul w32 z (pos (2 ^ e)) (2 ^ 15) (2 ^ 15) (omega (arith, ints, h.low, h.high)) (omega (arith, power_le e 15 small)) (omega arith)

-- `1 << e`
pub one_at : (e : ℕ) → e ≤ 15 → to_z w32 (1 * 2 ^ e % 2 ^ 32) ≡ pos (2 ^ e)
one_at e small = rw (one_shl e 32 (omega arith)) (to_z_pos w32 (2 ^ e) (omega (arith, power_le e 15 small)))

-- the last w bits of a number's 16
pub masked : (w : ℕ) (z : ℤ) → 1 ≤ w → w ≤ 16 → Within w z → bit_and (of_z w16 z) (2 ^ w - 1) ≡ twos w z
masked w (pos n) low high h = and_mask n w ∙ mod-eq_of_lt (twos_fits w (pos n) low h)
masked w (negsuc n) low high h =
    let rest = 2 ^ (16 - w) in
    let small = magnitude_fits w (negsuc n) h in
    let both = half w low in
    let sum : 16 ≡ (16 - w) + w = omega arith in
    let power : 2 ^ 16 ≡ rest * 2 ^ w = ap (λ k. 2 ^ k) sum ∙ pow-add 2 (16 - w) w in
    let one : rest ≡ (rest - 1) + 1 = omega (arith, pow_pos (16 - w)) in
    let split : rest * 2 ^ w ≡ (rest - 1) * 2 ^ w + 2 ^ w = ap (λ x. x * 2 ^ w) one ∙ (let r : (rest - 1 + 1) * 2 ^ w ≡ (rest - 1) * 2 ^ w + 2 ^ w = grind arith in r) in
    let number : 2 ^ 16 - suc n ≡ (rest - 1) * 2 ^ w + (2 ^ w - suc n) = omega (arith, power, split, small, both) in
    and_mask (2 ^ 16 - suc n) w ∙ ap (λ x. x % 2 ^ w) number ∙ mod_low (rest - 1) w (2 ^ w - suc n) (omega (arith, small, both, pow_pos w))

pub of_bits : (x : ℤ) (w e : ℕ) (floor : ℤ) (bits ones : ℕ) → 1 ≤ w → w ≤ 16 → Within w (floor_of x e) → floor ≡ floor_of x e → bits ≡ of_z w16 floor → ones ≡ 2 ^ w - 1 → bit_and bits ones ≡ twos w (floor_of x e)
of_bits x w e floor bits ones low high h f b o = ap (λ n. bit_and n ones) (b ∙ ap (of_z w16) f) ∙ ap (bit_and (of_z w16 (floor_of x e))) o ∙ masked w (floor_of x e) low high h

-- the top bits of 32, shifted down with their sign
pub sign_extended : (w y : ℕ) → 1 ≤ w → w ≤ 16 → y < 2 ^ w → floor_of (to_z w32 (y * 2 ^ (32 - w))) (32 - w) ≡ signed w y
sign_extended w y low high h =
    let s = 32 - w in
    let both = half w low in
    elim (cases_lt y (2 ^ (w - 1))) [
      | inl small ↦
          let sum : w - 1 + s ≡ 31 = omega arith in
          let fits : y * 2 ^ s < 2 ^ 31 = subst (λ k. y * 2 ^ s < 2 ^ k) sum (shl_below y (w - 1) s small) in
          let plus : ltb y (2 ^ (w - 1)) ≡ true = lt-ltb y (2 ^ (w - 1)) small in
          ap (λ z. floor_of z s) (to_z_pos w32 (y * 2 ^ s) fits) ∙ ap pos (shl-shr y s) ∙ sym (cond-true _ (pos y) (pos y -ℤ pos (2 ^ w)) plus)
      | inr large ↦
          let r = 2 ^ w - y - 1 in
          let k = r * 2 ^ s + (2 ^ s - 1) in
          let y_is : 2 ^ w ≡ y + (r + 1) = omega (arith, h) in
          let sum : 32 ≡ w + s = omega arith in
          let power : 2 ^ 32 ≡ (y + (r + 1)) * 2 ^ s = ap (λ j. 2 ^ j) sum ∙ pow-add 2 w s ∙ ap (λ x. x * 2 ^ s) y_is in
          let split : (y + (r + 1)) * 2 ^ s ≡ y * 2 ^ s + (r * 2 ^ s + 2 ^ s) = grind arith in
          let value : y * 2 ^ s ≡ 2 ^ 32 - suc k = omega (arith, power, split, pow_pos s) in
          let r_small : r < 2 ^ (w - 1) = omega (arith, both, large) in
          let half_sum : w - 1 + s ≡ 31 = omega arith in
          let top : (r + 1) * 2 ^ s ≤ 2 ^ (w - 1) * 2 ^ s = mul-le (r + 1) (2 ^ s) (2 ^ (w - 1)) (2 ^ s) (omega (arith, r_small)) (omega arith) in
          let top_split : (r + 1) * 2 ^ s ≡ r * 2 ^ s + 2 ^ s = grind arith in
          let top_power : 2 ^ (w - 1) * 2 ^ s ≡ 2 ^ 31 = sym (pow-add 2 (w - 1) s) ∙ ap (λ j. 2 ^ j) half_sum in
          let fits : k < 2 ^ 31 = omega (arith, top, top_split, top_power, pow_pos s) in
          let minus : ltb y (2 ^ (w - 1)) ≡ false = le-ltb _ _ large in
          ap (λ n. floor_of (to_z w32 n) s) value ∙ ap (λ z. floor_of z s) (to_z-neg w32 k fits) ∙ ap negsuc (div-mul-add r (2 ^ s) (2 ^ s - 1) (omega (arith, pow_pos s)))
          ∙ (let n : negsuc r ≡ pos y -ℤ pos (2 ^ w) = omega (arith, ints, y_is) in n) ∙ sym (cond-false _ (pos y) (pos y -ℤ pos (2 ^ w)) minus)
    ]

-- the last w bits of a number, put on top of 32
pub top_bits : (w n : ℕ) → w ≤ 16 → bit_and n 65535 * 2 ^ (32 - w) % 2 ^ 32 ≡ n % 2 ^ w * 2 ^ (32 - w)
top_bits w n high =
    let s = 32 - w in
    let m = bit_and n 65535 in
    let m_is : m ≡ n % 2 ^ 16 = and_mask n 16 in
    let sum : 16 ≡ (16 - w) + w = omega arith in
    let last : m % 2 ^ w ≡ n % 2 ^ w = ap (λ x. x % 2 ^ w) (m_is ∙ ap (λ k. n % 2 ^ k) sum) ∙ mod-mod-pow n (16 - w) w in
    let whole : 32 ≡ w + s = omega arith in
    let zeros : m * 2 ^ s % 2 ^ s ≡ 0 = mul-mod_left m (2 ^ s) in
    ap (λ k. m * 2 ^ s % 2 ^ k) whole ∙ mod-pow-add (m * 2 ^ s) w s ∙ ap (λ x. x % 2 ^ w * 2 ^ s + m * 2 ^ s % 2 ^ s) (shl-shr m s)
    ∙ ap (λ x. m % 2 ^ w * 2 ^ s + x) zeros ∙ add-zero (m % 2 ^ w * 2 ^ s) ∙ ap (λ x. x * 2 ^ s) last
