-- Hexadecimal digits in ASCII.
use Rattle.std.specs.Prelude.{ℕ, ◌+◌, ◌-◌, ◌*◌, Option, Some, None, nat_le, ◌&&◌, if◌then◌else◌}

-- 0 to 9, then a to f and A to F for 10 to 15; no other byte is a digit
abbrev pub digit_of : ℕ → Option ℕ
digit_of byte =
    if nat_le 48 byte && nat_le byte 57 then Some (byte - 48)
    else (if nat_le 97 byte && nat_le byte 102 then Some (byte - 97 + 10)
    else (if nat_le 65 byte && nat_le byte 70 then Some (byte - 65 + 10)
    else None))

-- a number of two digits, where both are there
abbrev pub number_of : Option ℕ → Option ℕ → Option ℕ
number_of (Some high) (Some low) = Some (16 * high + low)
number_of (Some high) None = None
number_of None low = None

-- the byte that two digits spell
abbrev pub octet_of : ℕ → ℕ → Option ℕ
octet_of first second = number_of (digit_of first) (digit_of second)
