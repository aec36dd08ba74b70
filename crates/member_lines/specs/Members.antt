-- The text of a member of a line (this project's profile): a space, a name, an equals sign, and a number or a word.
use Rattle.std.specs.Prelude.{ℕ, ℤ, List, ◌++◌, codes, decimal}
use Rattle.std.specs.Fmt.{signed_decimal}
use Rattle.fh_base.specs.Words.{hex2_text, hex3_text, hex4_text}

-- what is before a value
abbrev pub lead_text : List ℕ → List ℕ
lead_text name = codes " " ++ name ++ codes "="

-- a name and a value, which is a word
abbrev pub member_text : List ℕ → List ℕ → List ℕ
member_text name value = codes " " ++ name ++ codes "=" ++ value

-- a name and a number, without and with a sign
abbrev pub named_text : List ℕ → ℕ → List ℕ
named_text name n = codes " " ++ name ++ codes "=" ++ decimal n

abbrev pub named_signed_text : List ℕ → ℤ → List ℕ
named_signed_text name z = codes " " ++ name ++ codes "=" ++ signed_decimal z

-- a name and hexadecimal digits, of the low 8, 12 or 16 bits
abbrev pub named_hex2_text : List ℕ → ℕ → List ℕ
named_hex2_text name n = codes " " ++ name ++ codes "=" ++ hex2_text n

abbrev pub named_hex3_text : List ℕ → ℕ → List ℕ
named_hex3_text name n = codes " " ++ name ++ codes "=" ++ hex3_text n

abbrev pub named_hex4_text : List ℕ → ℕ → List ℕ
named_hex4_text name n = codes " " ++ name ++ codes "=" ++ hex4_text n
