-- A piece so many times, one after the other.
use Rattle.std.proofs.Common.{◌≡◌, ℕ, ◌+◌, List, ◌++◌, sym, ap, ◌∙◌, append_assoc, append-nil, add-one, refl}
use Rattle.run_vectors.specs.Inputs.{repeated}

pub repeated_none : (piece old : List ℕ) → old ≡ old ++ repeated 0 piece
unfolding repeated
repeated_none piece old = sym (append-nil old)

pub repeated_more : (piece old now next : List ℕ) (n : ℕ) → now ≡ old ++ repeated n piece → next ≡ now ++ piece → next ≡ old ++ repeated (n + 1) piece
unfolding repeated
repeated_more piece old now next n is more = more ∙ ap (λ xs. xs ++ piece) is ∙ append_assoc old (repeated n piece) piece ∙ rw add-one refl
