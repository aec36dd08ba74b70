-- PRBs that are packed one after the other, each at its place.
use Rattle.std.proofs.Common.{◌≡◌, ◌≢◌, ℕ, zero, suc, ◌+◌, ◌-◌, ◌*◌, ◌<◌, ◌≤◌, inl, inr, Bool, true, false, List, [], length, take, drop, get_or, refl, ap, sym, subst, ◌∙◌, arith, Option, Some, None}
use Rattle.std.proofs.lemmas.Bool.{cases_eq, false_from_ne_true}
use Rattle.std.proofs.lemmas.Bool.Decides.{nat_tests}
use Rattle.std.proofs.lemmas.List.{drop-drop}
use Rattle.bfp_codec.specs.declared.methods.Method.{Method}
use Rattle.bfp_codec.specs.declared.samples.Wide.{Wide}
use Rattle.bfp_codec.specs.Layout.{length_of, unpacked_of}
use Rattle.unit_model.specs.Claims.{is_from}
use Rattle.fh_base.specs.Lists.{or_else}
use Rattle.unit_model.specs.declared.cells.Block.{Block}
use Rattle.slot_rings.specs.Runs.{packed_block, unpacked_run}
use Rattle.slot_rings.proofs.JudgeLemmas.{cell_apart}
use Rattle.unit_model.proofs.ClaimLemmas.{starts_before as from_low, is_in as inside_from, from_within as from_high}

-- number k of n PRBs
pub run_at : (method : Method) (n k : ℕ) (bytes : List ℕ) → k < n
    → get_or (unpacked_run method n bytes) k [] ≡ unpacked_of method (take (length_of method) (drop (k * length_of method) bytes))
run_at method zero k bytes below = absurd (omega arith)
run_at method (suc n) zero bytes below =
    let none : 0 * length_of method ≡ 0 = omega arith in
    ap (λ (m : ℕ). unpacked_of method (take (length_of method) (drop m bytes))) (sym none)
run_at method (suc n) (suc k) bytes below =
    run_at method n k (drop (length_of method) bytes) (omega arith)
    ∙ ap (λ (xs : List ℕ). unpacked_of method (take (length_of method) xs))
    (drop-drop (k * length_of method) (length_of method) bytes ∙ ap (λ (m : ℕ). drop m bytes) (let more : length_of method + k * length_of method ≡ suc k * length_of method = omega arith in more))

pub run_length : (method : Method) (n : ℕ) (bytes : List ℕ) → length (unpacked_run method n bytes) ≡ n
run_length method zero bytes = refl
run_length method (suc n) bytes = let more = run_length method n (drop (length_of method) bytes) in omega (arith, more)

-- ---- numbers from one on

pub not_last : (f c n : ℕ) → is_from f (c + 1) n ≡ false → n ≢ f + c
not_last f c n h = grind (arith, nat_tests)

pub not_before : (f c n : ℕ) → is_from f (c + 1) n ≡ false → is_from f c n ≡ false
not_before f c n h = grind (arith, nat_tests)

pub behind_all : (f c : ℕ) → is_from f c (f + c) ≡ false
behind_all f c = grind (arith, nat_tests)

-- ---- one cell more

module _ (old mid new : List (Option Block)) (from k id : ℕ) (run : List (List Wide))
    (same : (i : ℕ) → is_from from k i ≡ false → get_or mid i None ≡ get_or old i None)
    (others : (i : ℕ) → i ≢ from + k → get_or new i None ≡ get_or mid i None) where
  pub more_here : (samples : List Wide) → samples ≡ get_or run k []
      → ((j : ℕ) → j < k → get_or mid (from + j) None ≡ or_else (get_or old (from + j) None) (Some (packed_block id run j)))
      → get_or new (from + k) None ≡ or_else (get_or mid (from + k) None) (Some (record { id = id; samples = samples }))
      → (j : ℕ) → j < k + 1 → get_or new (from + j) None ≡ or_else (get_or old (from + j) None) (Some (packed_block id run j))
  more_here samples is here step j below = elim (cases_eq j k) [
    | inl e ↦
        subst (λ (x : ℕ). get_or new (from + x) None ≡ or_else (get_or old (from + x) None) (Some (packed_block id run x))) (sym e)
        (step
        ∙ ap (λ (o : Option Block). or_else o (Some (record { id = id; samples = samples }))) (same (from + k) (behind_all from k))
        ∙ ap (λ (s : List Wide). or_else (get_or old (from + k) None) (Some (record { id = id; samples = s }))) is)
    | inr ne ↦ others (from + j) (λ e. ne (omega (arith, e))) ∙ here j (omega (arith, ne))
  ]

  pub more_others : (i : ℕ) → is_from from (k + 1) i ≡ false → get_or new i None ≡ get_or old i None
  more_others i h = others i (not_last from k i h) ∙ same i (not_before from k i h)

-- ---- the numbers of some cells of a symbol

pub cells_outside : (y z p m n count : ℕ) → m < p → n + count ≤ p → (y ≡ z → is_from n count m ≡ false) → is_from (z * p + n) count (y * p + m) ≡ false
cells_outside y z p m n count left fits apart = false_from_ne_true _ (λ inside.
    let low = from_low (z * p + n) count (y * p + m) inside in
    let high = from_high (z * p + n) count (y * p + m) inside in
    let b : ℕ = (y * p + m) - (z * p) in
    let q = cell_apart y z p m b left (omega (arith, low, high)) (omega (arith, low)) in
    let least : n ≤ m = omega (arith, low, q.1) in
    let most : m < n + count = omega (arith, high, q.1, low) in
    let no = apart q.0 in
    let yes = inside_from n count m least most in
    unequal (is_from n count m) no yes)
  where
    unequal : (b : Bool) → b ≡ false → b ≡ true → ⊥
    unequal b p q = cc
