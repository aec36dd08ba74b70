-- A mask made of a test has exactly the elements that pass.
use Rattle.std.proofs.Common.{◌≡◌, ℕ, zero, suc, ◌+◌, ◌*◌, ◌-◌, ◌/◌, ◌%◌, ◌^◌, ◌<◌, Bool, true, false, refl, ap, ◌∙◌, arith}
use Rattle.std.specs.Prelude.{◌==◌, if◌then◌else◌}
use Rattle.fh_base.proofs.Orders.{bit_small}
use Rattle.unit_model.specs.Claims.{in_mask}
use Rattle.schedule_laws.specs.Cells.{mask_below}
use Rattle.explain_model.specs.Silent.{bits_below}
use Rattle.replay_laws.proofs.MaskLemmas.{IsShifted, by_one, shift_more, shift_back, last_bit}

abbrev bit_of : (ℕ → Bool) → ℕ → ℕ
bit_of test re = if test re then 1 else 0

module _ (test : ℕ → Bool) where
  next_below : (n : ℕ) → mask_below test (suc n) ≡ 2 * mask_below test n + bit_of test n
  unfolding mask_below
  next_below n = refl

  shifted : (n k : ℕ) → IsShifted (mask_below test (n + k)) (mask_below test n) k
  shifted n zero =
      let same : n + 0 ≡ n = omega arith in
      record { low = 0; is = by_one (mask_below test (n + 0)) (mask_below test n) (ap (mask_below test) same); below = omega arith }
  shifted n (suc k) =
      let place : n + suc k ≡ suc (n + k) = omega arith in
      shift_more (mask_below test (n + k)) (mask_below test n) k (bit_of test (n + k)) (mask_below test (n + suc k)) (shifted n k)
      (bit_small (test (n + k))) (ap (mask_below test) place ∙ next_below (n + k))

  mask_bit : (re : ℕ) → re < 12 → mask_below test 12 / 2 ^ (11 - re) % 2 ≡ bit_of test re
  mask_bit re small =
      let size : 12 ≡ suc re + (11 - re) = omega arith in
      let high : mask_below test 12 / 2 ^ (11 - re) ≡ mask_below test (suc re) =
      ap (λ (n : ℕ). mask_below test n / 2 ^ (11 - re)) size
      ∙ shift_back (mask_below test (suc re + (11 - re))) (mask_below test (suc re)) (11 - re) (shifted (suc re) (11 - re)) in
      last_bit (mask_below test re) (bit_of test re) (mask_below test 12 / 2 ^ (11 - re)) (bit_small (test re)) (high ∙ next_below re)

  one_set : (b : Bool) → ((if b then 1 else 0) == 1) ≡ b
  one_set true = refl
  one_set false = refl

  pub mask_is : (re : ℕ) → re < 12 → in_mask (mask_below test 12) re ≡ test re
  mask_is re small = ap (λ (n : ℕ). n == 1) (mask_bit re small) ∙ one_set (test re)

  pub bits_are : (n : ℕ) → bits_below test n ≡ mask_below test n
  unfolding bits_below mask_below
  bits_are zero = refl
  bits_are (suc n) = ap (λ (m : ℕ). 2 * m + (let k : ℕ = if test n then 1 else 0 in k)) (bits_are n)

  pub bits_is : (re : ℕ) → re < 12 → in_mask (bits_below test 12) re ≡ test re
  bits_is re small = ap (λ (m : ℕ). in_mask m re) (bits_are 12) ∙ mask_is re small

  pub no_bits : (n : ℕ) → ((re : ℕ) → re < n → test re ≡ false) → bits_below test n ≡ 0
  unfolding bits_below
  no_bits zero none = refl
  no_bits (suc n) none =
      let rest : bits_below test n ≡ 0 = no_bits n (λ re h. none re (omega arith)) in
      let last : (let k : ℕ = if test n then 1 else 0 in k) ≡ 0 = ap (λ (b : Bool). let k : ℕ = if b then 1 else 0 in k) (none n (omega arith)) in
      omega (arith, rest, last)
