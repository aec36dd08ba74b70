-- Bytes and their hexadecimal digits.
use Rattle.std.specs.Prelude.{ℕ, ◌/◌, ◌%◌, List, [], ◌∷◌}
use Rattle.std.specs.Char.{digit_char}

-- two numbers for each byte: the first is its upper half, and the lower half of the second is its lower half
abbrev pub halves : List ℕ → List ℕ
halves [] = []
halves (b ∷ bytes) = b / 16 ∷ b ∷ halves bytes

-- the lower-case digit of a number's lower half
abbrev pub digit_of : ℕ → ℕ
digit_of n = digit_char (n % 16)
