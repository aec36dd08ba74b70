-- Words that are appended one after the other.
use Rattle.std.proofs.Common.{◌≡◌, ℕ, List, [], ◌∷◌, ◌++◌, sym, ap, ◌∙◌, append_assoc, append-nil}
use Rattle.fh_document.specs.Joined.{spaced}

-- each word after a space
abbrev pub behind_spaces : List (List ℕ) → List ℕ
behind_spaces [] = []
behind_spaces (w ∷ ws) = (32 ∷ w) ++ behind_spaces ws

pub spaced_is : (w : List ℕ) (ws : List (List ℕ)) → spaced (w ∷ ws) ≡ w ++ behind_spaces ws
spaced_is w [] = sym (append-nil w)
spaced_is w (v ∷ ws) = ap (λ (t : List ℕ). w ++ 32 ∷ t) (spaced_is v ws)

-- one word more
pub one_word : (x y v : List ℕ) (vs : List (List ℕ)) → y ≡ x ++ (32 ∷ v) → y ++ behind_spaces vs ≡ x ++ behind_spaces (v ∷ vs)
one_word x y v vs is = ap (λ (t : List ℕ). t ++ behind_spaces vs) is ∙ append_assoc x (32 ∷ v) (behind_spaces vs)
