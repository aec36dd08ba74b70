-- Sets of numbers as the bits of words.
use Rattle.std.proofs.Common.{◌≡◌, ◌≢◌, ℕ, ◌-◌, ◌*◌, ◌/◌, ◌%◌, ◌^◌, ◌<◌, ◌≤◌, ◌==◌, List, [], ◌++◌, length, take, replicate, get_or, set, false, ◌||◌, inl, inr, refl, sym, ap, ◌∙◌, arith}
use Rattle.std.specs.Int.{bit_at, w64}
use Rattle.std.specs.Int.RustNames.{bit_or}
use Rattle.std.proofs.lemmas.Bool.{cases_lt, cases_eq, eq-eqb, ne_eqb}
use Rattle.std.proofs.lemmas.Grind.{get_or_default_zero}
use Rattle.std.proofs.lemmas.Nat.Bits.{bit_at-zero, bit_at_set_same, bit_at_set_other}
use Rattle.std.proofs.lemmas.List.{get_or_past, get_or_append_left, get_or-append_right, get_or-replicate, get_or-set_same, get_or-set_other, take_all, length-replicate}
use Rattle.std.specs.List.{list_any}
use Rattle.fh_document.specs.declared.delivered.Delivery.{Delivery}
use Rattle.fh_document.specs.Delivered.{frame_number}
use Rattle.fh_document.specs.FrameNumbers.{is_marked, AreNumbers}

-- words like the default more change no word
zeros_more : (xs : List ℕ) (m i z : ℕ) → get_or (xs ++ replicate m z) i z ≡ get_or xs i z
zeros_more xs m i z = elim (cases_lt i (length xs)) [
  | inl lt ↦ get_or_append_left xs (replicate m z) z i lt
  | inr ge ↦ get_or-append_right xs (replicate m z) (length xs) i z refl ge ∙ zeros (i - length xs) ∙ sym (get_or_past xs i z ge)
]
  where
    zeros : (k : ℕ) → get_or (replicate m z) k z ≡ z
    zeros k = elim (cases_lt k m) [
      | inl lt ↦ get_or-replicate m k z z lt
      | inr ge ↦ get_or_past (replicate m z) k z (omega (arith, length-replicate m z))
    ]

pub marks_past : (words : List ℕ) (q : ℕ) → length words ≤ q / 64 → false ≡ is_marked words q
unfolding is_marked
marks_past words q past =
    sym (ap (λ w. bit_at w (q % 64) == 1) (get_or_past words (q / 64) 0 past) ∙ ap (λ b. b == 1) (bit_at-zero (q % 64)))

pub none_marked : (words : List ℕ) (ds : List Delivery) → words ≡ [] → ds ≡ [] → AreNumbers words ds
none_marked words ds e f = λ q. sym (marks_past words q (omega (arith, ap length e))) ∙ sym (ap (list_any (λ d. q == frame_number d)) f)

pub marks_grown : (old new : List ℕ) (n q : ℕ) → new ≡ take n old ++ replicate (n - length old) 0 → length old ≤ n → is_marked new q ≡ is_marked old q
unfolding is_marked
marks_grown old new n q is short =
    ap (λ w. bit_at w (q % 64) == 1)
    (ap (λ xs. get_or xs (q / 64) 0) (is ∙ ap (λ xs. xs ++ replicate (n - length old) 0) (take_all n old short))
    ∙ zeros_more old (n - length old) (q / 64) 0)

-- ---- one number more

abbrev with_bit : ℕ → ℕ → ℕ
with_bit w k = bit_or w (1 * 2 ^ k % 2 ^ 64)

below : (n : ℕ) → n % 64 < 64
below n = omega arith

same_word : (w n q : ℕ) → q / 64 ≡ n / 64 → (bit_at (with_bit w (n % 64)) (q % 64) == 1) ≡ ((q == n) || (bit_at w (q % 64) == 1))
same_word w n q is = elim (cases_eq q n) [
  | inl same ↦
      let set : bit_at (with_bit w (n % 64)) (q % 64) ≡ 1 = ap (λ m. bit_at (with_bit w (n % 64)) (m % 64)) same ∙ bit_at_set_same w64 w (n % 64) (below n) in
      eq-eqb _ 1 set ∙ sym (ap (λ b. b || (bit_at w (q % 64) == 1)) (eq-eqb q n same))
  | inr other ↦
      let apart : q % 64 ≢ n % 64 = λ e. other (omega (arith, is, e)) in
      ap (λ b. b == 1) (bit_at_set_other w64 w (n % 64) (below n) (q % 64) apart) ∙ sym (ap (λ b. b || (bit_at w (q % 64) == 1)) (ne_eqb q n other))
]

pub marks_more : (words : List ℕ) (n w q : ℕ) → n / 64 < length words → w ≡ get_or words (n / 64) w
    → is_marked (set words (n / 64) (with_bit w (n % 64))) q ≡ ((q == n) || is_marked words q)
unfolding is_marked
marks_more words n w q lt is = elim (cases_eq (q / 64) (n / 64)) [
  | inl same ↦
      let now : get_or (set words (n / 64) (with_bit w (n % 64))) (q / 64) 0 ≡ with_bit w (n % 64) =
      ap (λ i. get_or (set words (n / 64) (with_bit w (n % 64))) i 0) same ∙ get_or-set_same words (n / 64) (with_bit w (n % 64)) 0 lt in
      let was : w ≡ get_or words (q / 64) 0 =
      is ∙ get_or_default_zero words (n / 64) w lt ∙ ap (λ i. get_or words i 0) (sym same) in
      ap (λ x. bit_at x (q % 64) == 1) now ∙ same_word w n q same ∙ ap (λ x. (q == n) || (bit_at x (q % 64) == 1)) was
  | inr other ↦
      let differ : (q == n) ≡ false = ne_eqb q n (λ e. other (ap (λ m. m / 64) e)) in
      ap (λ x. bit_at x (q % 64) == 1) (get_or-set_other words (n / 64) (q / 64) (with_bit w (n % 64)) 0 other)
      ∙ sym (ap (λ b. b || (bit_at (get_or words (q / 64) 0) (q % 64) == 1)) differ)
]
