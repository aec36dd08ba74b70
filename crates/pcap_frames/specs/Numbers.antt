-- Numbers in the order of bytes of a section, and padding (pcapng).
use Rattle.std.specs.Prelude.{ℕ, ◌+◌, ◌*◌, ◌/◌, if◌then◌else◌, Bool, List}
use Rattle.byteorder.specs.Endian.{big_number, little_number}

-- the number in the first bytes, lowest byte first or highest
abbrev pub number : Bool → ℕ → List ℕ → ℕ
number little count bytes = if little then little_number count bytes else big_number count bytes

-- how many bytes some have with 0 to 3 more, to a multiple of 4
abbrev pub padded : ℕ → ℕ
padded count = (count + 3) / 4 * 4
