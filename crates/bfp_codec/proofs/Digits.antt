-- Fields of equal width, one after the other.
use Rattle.std.proofs.Common.{◌≡◌, ℕ, zero, suc, ◌+◌, ◌*◌, ◌/◌, ◌%◌, ◌^◌, ◌<◌, ◌≤◌, inl, inr, List, bit_or, sym, ap, ◌∙◌, arith, add-one}
use Rattle.std.proofs.Math.Nat.{mul-suc, mul-zero, mul_comm}
use Rattle.std.proofs.lemmas.Nat.{pow-add, shr_high, mod_low, mul-add-lt, shl_whole, or_shifted}
use Rattle.std.proofs.lemmas.Bool.{cases_lt}
use Rattle.bfp_codec.specs.Field.{field, digits}
use Rattle.bfp_codec.proofs.Field.{field_split, field_fits}

-- a field of n numbers of w bits
pub field_digits : (bytes : List ℕ) (i w n : ℕ) → field bytes i (w * n) ≡ digits w (λ k. field bytes (i + w * k) w) n
unfolding digits field
field_digits bytes i w zero = ap (field bytes i) (mul-zero w)
field_digits bytes i w (suc n) =
    ap (field bytes i) (mul-suc w n) ∙ field_split bytes i (w * n) w ∙ ap (λ x. x * 2 ^ w + field bytes (i + w * n) w) (field_digits bytes i w n)

pub digits_fit : (w : ℕ) (f : ℕ → ℕ) (n : ℕ) → ((k : ℕ) → k < n → f k < 2 ^ w) → digits w f n < 2 ^ (w * n)
unfolding digits
digits_fit w f zero h = rw (mul-zero w) (omega arith)
digits_fit w f (suc n) h =
    let before = digits_fit w f n (λ k lt. h k (omega arith)) in
    let power : 2 ^ (w * suc n) ≡ 2 ^ w * 2 ^ (w * n) = ap (λ j. 2 ^ j) (mul-suc w n) ∙ pow-add 2 (w * n) w ∙ mul_comm (2 ^ (w * n)) (2 ^ w) in
    omega (arith, power, mul-add-lt (digits w f n) (2 ^ w) (f n) (2 ^ (w * n)) before (h n (omega arith)))

-- a digit is where it was put
pub same_digits : (w : ℕ) (f g : ℕ → ℕ) (n : ℕ) → ((k : ℕ) → k < n → f k < 2 ^ w) → ((k : ℕ) → k < n → g k < 2 ^ w) → digits w f n ≡ digits w g n → (k : ℕ) → k < n → f k ≡ g k
unfolding digits
same_digits w f g zero hf hg e k lt = absurd (omega arith)
same_digits w f g (suc n) hf hg e k lt =
    let top : digits w f n ≡ digits w g n = sym (shr_high (digits w f n) w (f n) (hf n (omega arith))) ∙ ap (λ x. x / 2 ^ w) e ∙ shr_high (digits w g n) w (g n) (hg n (omega arith)) in
    let last : f n ≡ g n = sym (mod_low (digits w f n) w (f n) (hf n (omega arith))) ∙ ap (λ x. x % 2 ^ w) e ∙ mod_low (digits w g n) w (g n) (hg n (omega arith)) in
    elim (cases_lt k n) [
      | inl below ↦ same_digits w f g n (λ j h. hf j (omega arith)) (λ j h. hg j (omega arith)) top k below
      | inr at ↦ let is : k ≡ n = omega arith in ap f is ∙ last ∙ sym (ap g is)
    ]

-- one more digit, by a shift and an `|` at 128 bits
pub digits_push : (w : ℕ) (f : ℕ → ℕ) (k n m : ℕ) → n ≡ digits w f k → w * k + w ≤ 128 → ((j : ℕ) → j < k → f j < 2 ^ w) → m ≡ f k → m < 2 ^ w
    → bit_or (n * 2 ^ w % 2 ^ 128) m ≡ digits w f (k + 1)
unfolding digits
digits_push w f k n m n_is room fits m_is small =
    let below : n < 2 ^ (w * k) = rw n_is (digits_fit w f k fits) in
    let whole : n * 2 ^ w % 2 ^ 128 ≡ n * 2 ^ w = shl_whole n (w * k) w 128 below room in
    rw (add-one k, whole) (or_shifted n w m small ∙ cc)

-- a number of w bits among eight
pub field_of_eight : (bytes : List ℕ) (at w : ℕ) (f : ℕ → ℕ) → field bytes (8 * at) (8 * w) ≡ digits w f 8 → ((k : ℕ) → k < 8 → f k < 2 ^ w) → (k : ℕ) → k < 8 → field bytes (8 * at + w * k) w ≡ f k
field_of_eight bytes at w f e fits k h =
    let turned : w * 8 ≡ 8 * w = omega arith in
    let whole : digits w (λ j. field bytes (8 * at + w * j) w) 8 ≡ digits w f 8 = sym (field_digits bytes (8 * at) w 8) ∙ ap (field bytes (8 * at)) turned ∙ e in
    same_digits w (λ j. field bytes (8 * at + w * j) w) f 8 (λ j lt. field_fits bytes (8 * at + w * j) w) fits whole k h
