-- Pieces: as one, and how many there are.
use Rattle.std.specs.Prelude.{ℕ, ◌+◌, ◌-◌, ◌/◌, List, [], ◌∷◌, ◌++◌}

-- the pieces as one
abbrev pub joined : {A : Type 0} → List (List A) → List A
joined [] = []
joined (p ∷ ps) = p ++ joined ps

-- how many pieces of `fragment` bytes so many bytes have, the last with the rest
abbrev pub piece_count : ℕ → ℕ → ℕ
piece_count fragment size = (size + (fragment - 1)) / fragment
