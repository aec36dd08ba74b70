-- Which of some values is the only one that passes a test, by its place.
use Rattle.std.specs.Prelude.{◌≡◌, ℕ, zero, suc, Bool, true, false, List, [], ◌∷◌, Option, Some, None}

-- at this place, or none
abbrev pub IsOnly : {A : Type 0} → (A → Bool) → Option ℕ → List A → Type 0
IsOnly p None [] = Unit {0}
IsOnly p (Some k) [] = ⊥
IsOnly p None (x ∷ xs) = (p x ≡ false) × IsOnly p None xs
IsOnly p (Some zero) (x ∷ xs) = (p x ≡ true) × IsOnly p None xs
IsOnly p (Some (suc k)) (x ∷ xs) = (p x ≡ false) × IsOnly p (Some k) xs

-- the value at a place changed
abbrev pub changed_at : {A : Type 0} → (A → A) → ℕ → List A → List A
changed_at f k [] = []
changed_at f zero (x ∷ xs) = f x ∷ xs
changed_at f (suc k) (x ∷ xs) = x ∷ changed_at f k xs

-- at a place, if it is told
abbrev pub changed : {A : Type 0} → (A → A) → Option ℕ → List A → List A
changed f None xs = xs
changed f (Some k) xs = changed_at f k xs
