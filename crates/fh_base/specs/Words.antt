-- The words of a line: decimal numbers after a space, and lower-case hexadecimal digits, as many as the place wants.
use Rattle.std.specs.Prelude.{ℕ, ℤ, ◌/◌, ◌%◌, List, [], ◌∷◌, ◌++◌, codes, decimal}
use Rattle.std.specs.Char.{digit_char}
use Rattle.std.specs.Fmt.{signed_decimal}

-- a space and a number
abbrev pub spaced_text : ℕ → List ℕ
spaced_text n = codes " " ++ decimal n

-- a space and a signed number
abbrev pub spaced_signed_text : ℤ → List ℕ
spaced_signed_text n = codes " " ++ signed_decimal n

-- a space and two signed numbers about a comma
abbrev pub spaced_pair_text : ℤ → ℤ → List ℕ
spaced_pair_text i q = codes " " ++ signed_decimal i ++ codes "," ++ signed_decimal q

-- the low 16 bits
abbrev pub hex4_text : ℕ → List ℕ
hex4_text n = digit_char (n / 4096 % 16) ∷ digit_char (n / 256 % 16) ∷ digit_char (n / 16 % 16) ∷ digit_char (n % 16) ∷ []

-- the low 12 bits
abbrev pub hex3_text : ℕ → List ℕ
hex3_text n = digit_char (n / 256 % 16) ∷ digit_char (n / 16 % 16) ∷ digit_char (n % 16) ∷ []

-- the low 8 bits
abbrev pub hex2_text : ℕ → List ℕ
hex2_text n = digit_char (n / 16 % 16) ∷ digit_char (n % 16) ∷ []
