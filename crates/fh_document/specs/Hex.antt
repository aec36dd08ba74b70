-- Numbers and frames in hexadecimal digits of either case.
use Rattle.std.specs.Prelude.{ℕ, ◌+◌, ◌*◌, ◌%◌, List, [], ◌∷◌, length, Bool, ◌&&◌, nat_lt, nat_le, ◌==◌, Option, Some, None, if◌then◌else◌, codes}
use Rattle.std.specs.List.{list_all}
use Rattle.std.specs.Char.{digit_value}
use Rattle.std.specs.Str.{bytes_eq}
use Rattle.std.specs.Str.Parse.{digits_value}
use Rattle.fh_base.specs.declared.source.TheConstants.{FRAME_LIMIT}

abbrev pub is_hex : List ℕ → Bool
is_hex = list_all (λ b. nat_lt (digit_value b) 16)

-- a number of exactly n digits
abbrev pub hex_of : ℕ → List ℕ → Option ℕ
hex_of n w = if (length w == n) && is_hex w then Some (digits_value 16 w) else None

-- the value of a digit of either case; of another byte it means nothing
abbrev pub value_of : ℕ → ℕ
value_of b = b % 16 + (if nat_lt b 64 then 0 else 9)

-- a byte for each two values, which has the last four bits of each
abbrev pub joined : List ℕ → List ℕ
joined [] = []
joined (a ∷ []) = []
joined (a ∷ b ∷ rest) = (a % 16 * 16 + b % 16) ∷ joined rest

-- a byte for each two digits
abbrev pub bytes_of : List ℕ → List ℕ
bytes_of [] = []
bytes_of (a ∷ []) = []
bytes_of (a ∷ b ∷ rest) = (16 * digit_value a + digit_value b) ∷ bytes_of rest

-- the bytes, where each is a digit
abbrev pub decoded : List ℕ → Option (List ℕ)
decoded w = if is_hex w then Some (bytes_of w) else None

-- an even number of digits, for at most FRAME_LIMIT bytes
abbrev pub digits_frame : List ℕ → Option (List ℕ)
digits_frame w = if nat_le (length w) (2 * FRAME_LIMIT) && (length w % 2 == 0) then decoded w else None

-- such digits, or a dash for no bytes
abbrev pub frame_of : List ℕ → Option (List ℕ)
frame_of w = if bytes_eq w (codes "-") then Some [] else digits_frame w
