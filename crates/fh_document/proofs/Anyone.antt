-- A search over a list by its indices.
use Rattle.std.proofs.Common.{◌≡◌, ℕ, ◌+◌, ◌<◌, ◌≤◌, List, length, take, get_or, Bool, true, false, ◌||◌, Some, None, inl, inr, sym, ap, ◌∙◌, arith}
use Rattle.std.specs.Prelude.{slice_get, ◌⊎◌}
use Rattle.std.specs.Option.{option_map_or}
use Rattle.std.specs.List.{list_any}
use Rattle.std.proofs.lemmas.Option.{slice_get_cases}
use Rattle.std.proofs.lemmas.List.Folds.{list_any_at, list_any_more}

-- what is found at an index is what is there
test_at : {A : Type 0} (p : A → Bool) (xs : List A) (k : ℕ) (b : Bool) → k < length xs → b ≡ option_map_or p (slice_get xs k) false → (x : A) × (b ≡ p (get_or xs k x))
test_at {A} p xs k b lt is = either (slice_get_cases xs k).1
  where
    either : ((x : A) × (k < length xs) × (slice_get xs k ≡ Some x) × (get_or xs k x ≡ x)) ⊎ ((length xs ≤ k) × (slice_get xs k ≡ None)) → (x : A) × (b ≡ p (get_or xs k x))
    either (inl found) = (found.0, is ∙ ap (λ o. option_map_or p o false) found.2 ∙ ap p (sym found.3))
    either (inr past) = absurd (omega (arith, past.0))

pub any_here : {A : Type 0} (p : A → Bool) (xs : List A) (k : ℕ) → k < length xs → true ≡ option_map_or p (slice_get xs k) false → true ≡ list_any p xs
any_here p xs k lt is = let here = test_at p xs k true lt is in sym (list_any_at p xs k here.0 lt (sym here.1))

pub none_more : {A : Type 0} (p : A → Bool) (xs : List A) (k : ℕ) → k < length xs → list_any p (take k xs) ≡ false → false ≡ option_map_or p (slice_get xs k) false
    → list_any p (take (k + 1) xs) ≡ false
none_more p xs k lt before is = let here = test_at p xs k false lt is in list_any_more p xs k here.0 lt ∙ ap (λ b. b || p (get_or xs k here.0)) before ∙ sym here.1
