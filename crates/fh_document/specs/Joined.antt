-- Lines as a program writes them: words with one space between two, and a line feed after each line.
use Rattle.std.specs.Prelude.{ℕ, List, [], ◌∷◌, ◌++◌, Bool, ◌&&◌, nat_lt, nat_le, length}
use Rattle.std.specs.List.{list_all}

-- a word: printable, without a space, and not empty
abbrev pub is_word : List ℕ → Bool
is_word w = nat_lt 0 (length w) && list_all (λ b. nat_le 33 b && nat_le b 126) w

-- parts with one separator between two
abbrev pub joined : ℕ → List (List ℕ) → List ℕ
joined separator [] = []
joined separator (w ∷ []) = w
joined separator (w ∷ v ∷ ws) = w ++ separator ∷ joined separator (v ∷ ws)

-- words with one space between two
abbrev pub spaced : List (List ℕ) → List ℕ
spaced ws = joined 32 ws

-- the lines, each with its line feed
abbrev pub fed : List (List ℕ) → List ℕ
fed [] = []
fed (line ∷ lines) = line ++ 10 ∷ fed lines
