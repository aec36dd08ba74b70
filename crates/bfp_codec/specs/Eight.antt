-- Signed numbers of one width side by side, in a number and in bytes.
use Rattle.std.specs.Prelude.{ℕ, ℤ, pos, ◌+◌, ◌-◌, ◌*◌, ◌/◌, ◌%◌, ◌^◌, ◌*ℤ◌, List}
use Rattle.bfp_codec.specs.Field.{field, signed}

-- number j of the eight of w bits that a number spells, times 2 ^ e
abbrev pub value_in : ℕ → ℕ → ℕ → ℕ → ℤ
value_in number w e j = signed w (number / 2 ^ (w * (7 - j)) % 2 ^ w) *ℤ pos (2 ^ e)

-- number j of the four of w bits that a number ends with, times 2 ^ e
abbrev pub four_in : ℕ → ℕ → ℕ → ℕ → ℤ
four_in number w e j = signed w (number / 2 ^ (w * (3 - j)) % 2 ^ w) *ℤ pos (2 ^ e)

-- number j of those of w bits from a byte on, times 2 ^ e
abbrev pub number_in : List ℕ → ℕ → ℕ → ℕ → ℕ → ℤ
number_in bytes at w e j = signed w (field bytes (8 * at + w * j) w) *ℤ pos (2 ^ e)
