-- Bytes are determined by their fields.
use Rattle.std.proofs.Common.{◌≡◌, ℕ, zero, suc, ◌+◌, ◌-◌, ◌*◌, ◌/◌, ◌%◌, ◌^◌, ◌<◌, List, get_or, length, refl, sym, ap, ◌∙◌, arith}
use Rattle.std.proofs.lemmas.Grind.{same_number_lists}
use Rattle.bfp_codec.specs.Field.{field, digits}
use Rattle.bfp_codec.proofs.Field.{field_of_field, field_byte}

pub same_bytes : (xs ys : List ℕ) → ((i : ℕ) → get_or xs i 0 < 256) → ((i : ℕ) → get_or ys i 0 < 256) → length xs ≡ length ys
    → field xs 0 (8 * length xs) ≡ field ys 0 (8 * length xs) → xs ≡ ys
same_bytes xs ys hx hy len e = same_number_lists xs ys len (λ k h.
    let x : field xs (0 + 8 * k) 8 ≡ _ = field_of_field xs 0 (8 * length xs) (8 * k) 8 (omega arith) in
    let y : field ys (0 + 8 * k) 8 ≡ _ = field_of_field ys 0 (8 * length xs) (8 * k) 8 (omega arith) in
    let place : 0 + 8 * k ≡ 8 * k = omega arith in
    sym (field_byte xs k (hx k)) ∙ ap (λ i. field xs i 8) (sym place) ∙ x ∙ ap (λ n. n / 2 ^ (8 * length xs - (8 * k + 8)) % 2 ^ 8) e ∙ sym y ∙ ap (λ i. field ys i 8) place ∙ field_byte ys k (hy k))

-- numbers of w bits are the same where each of them is
pub digits_same : (w : ℕ) (f g : ℕ → ℕ) (n : ℕ) → ((k : ℕ) → k < n → f k ≡ g k) → digits w f n ≡ digits w g n
unfolding digits
digits_same w f g zero h = refl
digits_same w f g (suc n) h =
    let last = h n (omega arith) in
    let before = digits_same w f g n (λ k lt. h k (omega arith)) in
    cc
