-- The texts of the numbers below n, one after another.
use Rattle.std.proofs.Common.{◌≡◌, ℕ, ◌+◌, List, ◌++◌, sym, ap, ◌∙◌, append_assoc, append-nil, add-one, refl}
use Rattle.line_words.specs.Each.{each}

pub each_none : (text : ℕ → List ℕ) (old : List ℕ) → old ≡ old ++ each text 0
unfolding each
each_none text old = sym (append-nil old)

pub each_more : (text : ℕ → List ℕ) (old now next : List ℕ) (n : ℕ) → now ≡ old ++ each text n → next ≡ now ++ text n → next ≡ old ++ each text (n + 1)
unfolding each
each_more text old now next n is more = more ∙ ap (λ xs. xs ++ text n) is ∙ append_assoc old (each text n) (text n) ∙ rw add-one refl
