-- A beginning that is counted again.
use Rattle.std.proofs.Common.{◌≡◌, ℕ, zero, suc, ◌<◌, ◌≤◌, Bool, List, [], ◌∷◌, length, set, get_or, refl, sym, ap, ◌∙◌, arith}
use Rattle.std.specs.Prelude.{Option, Some}
use Rattle.explain_records.specs.Places.{changed, changed_at}
use Rattle.explain_records.specs.Turns.{counted}
use Rattle.explain_records.specs.declared.beginnings.Beginning.{Beginning}
use Rattle.explain_records.proofs.PlaceLemmas.{changed_is_set}

pub count_set : (xs : List Beginning) (k : ℕ) (place : Option ℕ) (old : Beginning) (pieces : ℕ) (whole : Bool) → place ≡ Some k → k < length xs → old ≡ get_or xs k old
    → set xs k (counted pieces whole old) ≡ changed (counted pieces whole) place xs
count_set xs k place old pieces whole is within read =
    ap (λ (b : Beginning). set xs k (counted pieces whole b)) read
    ∙ changed_is_set (counted pieces whole) k xs old within
    ∙ sym (ap (λ (p : Option ℕ). changed (counted pieces whole) p xs) is)

changed_past : {A : Type 0} (f : A → A) (k : ℕ) (xs : List A) → length xs ≤ k → xs ≡ changed_at f k xs
changed_past f k [] past = refl
changed_past f zero (x ∷ xs) past = absurd (omega arith)
changed_past f (suc k) (x ∷ xs) past = ap (λ ys. x ∷ ys) (changed_past f k xs (omega arith))

pub count_past : (xs : List Beginning) (k : ℕ) (place : Option ℕ) (pieces : ℕ) (whole : Bool) → place ≡ Some k → length xs ≤ k → xs ≡ changed (counted pieces whole) place xs
count_past xs k place pieces whole is past =
    changed_past (counted pieces whole) k xs past ∙ sym (ap (λ (p : Option ℕ). changed (counted pieces whole) p xs) is)
