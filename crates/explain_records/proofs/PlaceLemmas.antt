-- The only value that passes a test, after all values changed.
use Rattle.std.proofs.Common.{◌≡◌, ℕ, zero, suc, ◌<◌, Bool, true, false, List, [], ◌∷◌, ◌++◌, length, map, set, get_or, Option, Some, None, refl, ap, ap₂, ◌∙◌, arith}
use Rattle.std.specs.List.{AllByRecursion}
use Rattle.explain_records.specs.Places.{IsOnly, changed, changed_at}

module _ {A : Type 0} where
  -- as another test tells
  pub only_same : (p q : A → Bool) (k : Option ℕ) (xs : List A) → AllByRecursion (λ x. p x ≡ q x) xs → IsOnly q k xs → IsOnly p k xs
  only_same p q None [] same h = tt
  only_same p q (Some k) [] same h = absurd h
  only_same p q None (x ∷ xs) same h = (same.0 ∙ h.0, only_same p q None xs same.1 h.1)
  only_same p q (Some zero) (x ∷ xs) same h = (same.0 ∙ h.0, only_same p q None xs same.1 h.1)
  only_same p q (Some (suc k)) (x ∷ xs) same h = (same.0 ∙ h.0, only_same p q (Some k) xs same.1 h.1)

  pub only_none : (p : A → Bool) (xs : List A) → AllByRecursion (λ x. p x ≡ false) xs → IsOnly p None xs
  only_none p [] h = tt
  only_none p (x ∷ xs) h = (h.0, only_none p xs h.1)

  -- one that does not pass follows them
  pub only_more : (p : A → Bool) (k : Option ℕ) (xs : List A) (y : A) → IsOnly p k xs → p y ≡ false → IsOnly p k (xs ++ y ∷ [])
  only_more p None [] y h fails = (fails, tt)
  only_more p (Some k) [] y h fails = absurd h
  only_more p None (x ∷ xs) y h fails = (h.0, only_more p None xs y h.1 fails)
  only_more p (Some zero) (x ∷ xs) y h fails = (h.0, only_more p None xs y h.1 fails)
  only_more p (Some (suc k)) (x ∷ xs) y h fails = (h.0, only_more p (Some k) xs y h.1 fails)

  -- one that passes
  pub only_new : (p : A → Bool) (xs : List A) (y : A) → IsOnly p None xs → p y ≡ true → IsOnly p (Some (length xs)) (xs ++ y ∷ [])
  only_new p [] y h passes = (passes, tt)
  only_new p (x ∷ xs) y h passes = (h.0, only_new p xs y h.1 passes)

module _ {A B : Type 0} where
  pub only_map : (f : A → B) (p : B → Bool) (k : Option ℕ) (xs : List A) → IsOnly (λ x. p (f x)) k xs → IsOnly p k (map f xs)
  only_map f p None [] h = tt
  only_map f p (Some k) [] h = absurd h
  only_map f p None (x ∷ xs) h = (h.0, only_map f p None xs h.1)
  only_map f p (Some zero) (x ∷ xs) h = (h.0, only_map f p None xs h.1)
  only_map f p (Some (suc k)) (x ∷ xs) h = (h.0, only_map f p (Some k) xs h.1)

  -- each is shown as before
  pub shown_same : (f : A → A) (show : A → B) (xs : List A) → AllByRecursion (λ x. show (f x) ≡ show x) xs → map show (map f xs) ≡ map show xs
  shown_same f show [] h = refl
  shown_same f show (x ∷ xs) h = ap₂ (λ y ys. y ∷ ys) h.0 (shown_same f show xs h.1)

  -- the only one that passes is shown changed
  abbrev pub ShowsChange : (A → Bool) → (A → A) → (A → B) → (B → B) → A → Type 0
  ShowsChange p f show h x = (p x ≡ true → show (f x) ≡ h (show x)) × (p x ≡ false → show (f x) ≡ show x)

  pub shown_changed : (p : A → Bool) (f : A → A) (show : A → B) (h : B → B) (k : Option ℕ) (xs : List A) → IsOnly p k xs
      → AllByRecursion (ShowsChange p f show h) xs → map show (map f xs) ≡ changed h k (map show xs)
  shown_changed p f show h None [] only all = refl
  shown_changed p f show h (Some k) [] only all = absurd only
  shown_changed p f show h None (x ∷ xs) only all = ap₂ (λ y ys. y ∷ ys) (all.0.1 only.0) (shown_changed p f show h None xs only.1 all.1)
  shown_changed p f show h (Some zero) (x ∷ xs) only all = ap₂ (λ y ys. y ∷ ys) (all.0.0 only.0) (shown_changed p f show h None xs only.1 all.1)
  shown_changed p f show h (Some (suc k)) (x ∷ xs) only all = ap₂ (λ y ys. y ∷ ys) (all.0.1 only.0) (shown_changed p f show h (Some k) xs only.1 all.1)

-- a change is a write
pub changed_is_set : {A : Type 0} (f : A → A) (k : ℕ) (xs : List A) (d : A) → k < length xs → set xs k (f (get_or xs k d)) ≡ changed_at f k xs
changed_is_set f k [] d within = refl
changed_is_set f zero (x ∷ xs) d within = refl
changed_is_set f (suc k) (x ∷ xs) d within = ap (λ ys. x ∷ ys) (changed_is_set f k xs d (omega arith))
