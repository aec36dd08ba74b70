-- A magnitude and the exponent at which it fits.
use Rattle.std.proofs.Common.{◌≡◌, ℕ, ℤ, pos, negsuc, ◌+◌, ◌-◌, ◌*◌, ◌/◌, ◌%◌, ◌^◌, ◌<◌, ◌≤◌, ap, arith, inl, inr, List, bit_or}
use Rattle.std.proofs.lemmas.Int.{ints}
use Rattle.std.proofs.lemmas.Bool.{cases_lt}
use Rattle.std.proofs.lemmas.Nat.{pow_pos, pow-add, shr_below, shr_split, mod_below, leading_length, mul-le, or_lt, le_or_l, le_or_r}
use Rattle.std.proofs.Math.Nat.{pow-le-pow_right}
use Rattle.std.specs.Int.{leading_zeros, w16}
use Rattle.bfp_codec.specs.declared.samples.Iq.{Iq}
use Rattle.bfp_codec.specs.Samples.{component}
use Rattle.bfp_codec.specs.Exponent.{Within, floor_of, IsExponent}
use Rattle.bfp_codec.specs.Magnitude.{magnitude_of, HasDigits}

pub power_le : (i j : ℕ) → i ≤ j → 2 ^ i ≤ 2 ^ j
power_le i j h = pow-le-pow_right {n = 2} (omega arith) {i = i} {j = j} h

pub within_of : (w e : ℕ) (z : ℤ) → magnitude_of z < 2 ^ (w - 1 + e) → Within w (floor_of z e)
within_of w e (pos n) h =
    let below = shr_below n (w - 1) e h in
    record { low = omega (arith, ints); high = omega (arith, ints) }
within_of w e (negsuc n) h =
    let below = shr_below n (w - 1) e h in
    record { low = omega (arith, ints); high = omega (arith, ints) }

-- what is below a quotient is below the product
pub under : (n e p : ℕ) → n / 2 ^ e < 2 ^ p → n < 2 ^ (p + e)
under n e p h =
    let rest : n % 2 ^ e < 2 ^ e = mod_below n (2 ^ e) (pow_pos e) in
    let most : (n / 2 ^ e + 1) * 2 ^ e ≤ 2 ^ p * 2 ^ e = mul-le (n / 2 ^ e + 1) (2 ^ e) (2 ^ p) (2 ^ e) (omega arith) (omega arith) in
    omega (arith, shr_split n e, pow-add 2 p e)

pub of_within : (w e : ℕ) (z : ℤ) → Within w (floor_of z e) → magnitude_of z < 2 ^ (w - 1 + e)
of_within w e (pos n) h = under n e (w - 1) (omega (arith, ints, h.high))
of_within w e (negsuc n) h = under n e (w - 1) (omega (arith, ints, h.low))

pub record Least (w a r : ℕ) : Type 0 where
  pub small : r ≤ 15
  pub fits : a < 2 ^ (w - 1 + r)
  pub least : (e : ℕ) → e < r → 2 ^ (w - 1 + e) ≤ a

pub least_exponent : (w a r : ℕ) → 1 ≤ w → a < 2 ^ 15 → r ≡ (16 - leading_zeros w16 a + 1) - w → Least w a r
least_exponent w a r low small r_is =
    let digits = leading_length 16 a (omega arith) in
    let m = digits.0 in
    let r_m : r ≡ (m + 1) - w = omega (arith, digits.1) in
    let few : m ≤ 15 = elim (cases_lt m 16) [ inl lt ↦ omega arith | inr le ↦ absurd (omega (arith, power_le 16 m le, digits.3)) ] in
    record {
      small = omega arith;
      fits = omega (arith, power_le m (w - 1 + r) (omega arith), digits.2);
      least = λ e h. omega (arith, power_le (w - 1 + e + 1) m (omega arith), pow-add 2 (w - 1 + e) 1, digits.3);
    }

pub no_digits : (block : List Iq) → HasDigits block 0 0
no_digits block = record { small = omega arith; each = λ j h. absurd (omega arith); least = λ n h. pow_pos n }

pub more_digits : (block : List Iq) (k all a b : ℕ) → HasDigits block k all → a ≡ magnitude_of (component block (2 * k)) → b ≡ magnitude_of (component block (2 * k + 1))
    → a < 2 ^ 15 → b < 2 ^ 15 → HasDigits block (k + 1) (bit_or all (bit_or a b))
more_digits block k all a b before a_is b_is a_small b_small =
    let size : ℕ → ℕ = λ j. magnitude_of (component block j) in
    record {
      small = or_lt 15 all (bit_or a b) before.small (or_lt 15 a b a_small b_small);
      each = λ j h. elim (cases_lt j (2 * k)) [
        | inl lt ↦ omega (arith, before.each j lt, le_or_l all (bit_or a b))
        | inr ge ↦ elim (cases_lt j (2 * k + 1)) [
          | inl lt ↦ let is : j ≡ 2 * k = omega arith in omega (arith, ap size is, a_is, le_or_l a b, le_or_r all (bit_or a b))
          | inr gt ↦ let is : j ≡ 2 * k + 1 = omega arith in omega (arith, ap size is, b_is, le_or_r a b, le_or_r all (bit_or a b))
        ]
      ];
      least = λ n h. or_lt n all (bit_or a b) (before.least n (λ j lt. h j (omega arith)))
          (or_lt n a b (omega (arith, a_is, h (2 * k) (omega arith))) (omega (arith, b_is, h (2 * k + 1) (omega arith))));
    }

pub exponent_found : (w r all : ℕ) (block : List Iq) → HasDigits block 12 all → Least w all r → IsExponent w block r
exponent_found w r all block digits found = record {
  small = found.small;
  fits = λ k h. within_of w r (component block k) (omega (arith, found.fits, digits.each k (omega arith)));
  least = λ e lt fits. let below = digits.least (w - 1 + e) (λ j h. of_within w e (component block j) (fits j h)) in absurd (omega (arith, below, found.least e lt));
}
