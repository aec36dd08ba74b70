-- Fields of a layout written one after the other, the most significant bit first, as the tables of the standard list them.
use Rattle.std.specs.Prelude.{ℕ, ◌+◌, ◌*◌, ◌/◌, ◌^◌, Bool, List, [], ◌∷◌, if◌then◌else◌}
use Rattle.bfp_codec.specs.Layout.{be_bytes}

-- a field: its width in bits, and its value
abbrev pub Field : Type 0
Field = ℕ × ℕ

-- how many bits these have
abbrev pub width_of : List Field → ℕ
width_of [] = 0
width_of ((w, x) ∷ fields) = w + width_of fields

-- the number that these spell after the number n
abbrev pub spelled_behind : ℕ → List Field → ℕ
spelled_behind n [] = n
spelled_behind n ((w, x) ∷ fields) = spelled_behind (n * 2 ^ w + x) fields

-- the bytes of fields that fill whole bytes
abbrev pub in_bytes : List Field → List ℕ
in_bytes fields = be_bytes (width_of fields / 8) (spelled_behind 0 fields)
