-- A list's items, one after the other.
use Rattle.std.proofs.Common.{◌≡◌, ℕ, zero, suc, ◌+◌, ◌≤◌, List, [], ◌∷◌, ◌++◌, length, drop, Some, sym, ap, ◌∙◌, append_assoc, append-nil, arith}
use Rattle.std.proofs.lemmas.List.{drop_all}
use Rattle.std.specs.List.{slice_get}

-- those so far, and those to follow, are all
abbrev pub Goes : ℕ → List ℕ → List ℕ → Type 0
Goes k all so_far = so_far ++ drop k all ≡ all

drop_at : (k : ℕ) (xs : List ℕ) (x : ℕ) → slice_get xs k ≡ Some x → drop k xs ≡ x ∷ drop (k + 1) xs
drop_at k [] x at = cc
drop_at zero (y ∷ ys) x at = cc
drop_at (suc k) (y ∷ ys) x at =
    let same : suc (k + 1) ≡ suc k + 1 = omega arith in
    drop_at k ys x at ∙ ap (λ (n : ℕ). x ∷ drop n (y ∷ ys)) same

pub goes_on : (k : ℕ) (all : List ℕ) (x : ℕ) (so_far more : List ℕ) → Goes k all so_far → slice_get all k ≡ Some x → more ≡ so_far ++ x ∷ [] → Goes (k + 1) all more
goes_on k all x so_far more goes at is =
    ap (λ (xs : List ℕ). xs ++ drop (k + 1) all) is
    ∙ append_assoc so_far (x ∷ []) (drop (k + 1) all)
    ∙ ap (λ (xs : List ℕ). so_far ++ xs) (sym (drop_at k all x at))
    ∙ goes

pub goes_all : (k : ℕ) (all so_far : List ℕ) → Goes k all so_far → length all ≤ k → so_far ≡ all
goes_all k all so_far goes end = sym (append-nil so_far) ∙ ap (λ (xs : List ℕ). so_far ++ xs) (sym (drop_all k all end)) ∙ goes
