-- Places without a generation.
use Rattle.std.proofs.Common.{◌≡◌, ℕ, zero, suc, List, [], ◌∷◌, ◌++◌, sym}
use Rattle.std.specs.Prelude.{Option, Some, None, slice_get}
use Rattle.std.proofs.lemmas.Option.{same_Some}

pub pushed : {A : Type 0} (xs : List (Option A)) → ((k : ℕ) (o : Option A) → slice_get xs k ≡ Some o → o ≡ None) → (k : ℕ) (o : Option A) → slice_get (xs ++ None ∷ []) k ≡ Some o → o ≡ None
pushed [] h zero o e = sym (same_Some None o e)
pushed [] h (suc k) o e = absurd (cc)
pushed (x ∷ xs) h zero o e = h zero o e
pushed (x ∷ xs) h (suc k) o e = pushed xs (λ i p f. h (suc i) p f) k o e
