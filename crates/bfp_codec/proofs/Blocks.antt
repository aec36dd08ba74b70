-- Blocks by their 24 numbers.
use Rattle.std.proofs.Common.{◌≡◌, ℕ, ℤ, ◌+◌, ◌*◌, ◌/◌, ◌%◌, ◌<◌, ◌⊎◌, inl, inr, List, map, length, get_or, refl, sym, ap, subst, ◌∙◌, arith}
use Rattle.std.proofs.lemmas.Bool.{cases_lt}
use Rattle.std.proofs.lemmas.List.{get_or-map, same_lists}
use Rattle.std.proofs.lemmas.List.FromFn.{length-map-range_with_len, get_or-map-range_with_len}
use Rattle.bfp_codec.specs.declared.samples.Iq.{Iq}
use Rattle.bfp_codec.specs.declared.samples.Wide.{Wide}
use Rattle.bfp_codec.specs.Samples.{no_iq, no_wide, component, pair_of, wide_block, iq_of, samples_of}

pub component_i : (block : List Iq) (k : ℕ) → component block (2 * k) ≡ (get_or block k no_iq).i
component_i block k =
    let half : 2 * k / 2 ≡ k = omega arith in
    let even : 2 * k % 2 ≡ 0 = omega arith in
    rw (half, even) refl

pub component_q : (block : List Iq) (k : ℕ) → component block (2 * k + 1) ≡ (get_or block k no_iq).q
component_q block k =
    let half : (2 * k + 1) / 2 ≡ k = omega arith in
    let odd : (2 * k + 1) % 2 ≡ 1 = omega arith in
    rw (half, odd) refl

-- a fact of each number is one of each pair
pub by_pairs : (P : ℕ → Type 0) (n : ℕ) → ((j : ℕ) → j < n → P (2 * j) × P (2 * j + 1)) → (k : ℕ) → k < 2 * n → P k
by_pairs P n h k lt =
    let pair = h (k / 2) (omega arith) in
    elim (parity k) [ inl even ↦ subst P (sym even) pair.0 | inr odd ↦ subst P (sym odd) pair.1 ]
  where
    parity : (m : ℕ) → (m ≡ 2 * (m / 2)) ⊎ (m ≡ 2 * (m / 2) + 1)
    parity m = elim (cases_lt (m % 2) 1) [ inl z ↦ inl (omega arith) | inr o ↦ inr (omega arith) ]

pub pair_same : (f g : ℕ → ℤ) (k : ℕ) → f (2 * k) ≡ g (2 * k) → f (2 * k + 1) ≡ g (2 * k + 1) → pair_of f k ≡ pair_of g k
pair_same f g k i q = rw (i, q) refl

pub length-wide_block : (f : ℕ → ℤ) → length (wide_block f) ≡ 12
unfolding wide_block
length-wide_block f = length-map-range_with_len (pair_of f) 0 12

pub get_or-wide_block : (f : ℕ → ℤ) (k : ℕ) (d : Wide) → k < 12 → get_or (wide_block f) k d ≡ pair_of f k
unfolding wide_block
get_or-wide_block f k d lt = get_or-map-range_with_len (pair_of f) 0 12 k k d lt (omega arith)

-- blocks are the same where their numbers are
pub wide_block_same : (f g : ℕ → ℤ) → ((k : ℕ) → k < 24 → f k ≡ g k) → wide_block f ≡ wide_block g
wide_block_same f g h =
    same_lists (wide_block f) (wide_block g) (length-wide_block f ∙ sym (length-wide_block g)) (λ k d lt.
    let at : k < 12 = omega (arith, lt, length-wide_block f) in
    get_or-wide_block f k d at ∙ pair_same f g k (h (2 * k) (omega arith)) (h (2 * k + 1) (omega arith)) ∙ sym (get_or-wide_block g k d at))

-- the numbers of a block that is packed again
pub component_again : (f : ℕ → ℤ) (k : ℕ) → k < 24 → component (samples_of (wide_block f)) k ≡ f k
unfolding samples_of
component_again f = by_pairs (λ k. component (samples_of (wide_block f)) k ≡ f k) 12 (λ j lt.
    let at = get_or-map iq_of (wide_block f) j no_wide no_iq (omega (arith, lt, length-wide_block f)) ∙ ap iq_of (get_or-wide_block f j no_wide lt) in
    (component_i (map iq_of (wide_block f)) j ∙ ap (λ s. s.i) at, component_q (map iq_of (wide_block f)) j ∙ ap (λ s. s.q) at))
