-- Numbers and names among the words of a line.
use Rattle.std.specs.Prelude.{ℕ, ℤ, pos, neg_ℤ, List, [], length, take, drop, Bool, true, ◌&&◌, ◌||◌, nat_le, ◌==◌, Option, Some, None, if◌then◌else◌, codes, slice_index}
use Rattle.std.specs.Option.{option_map}
use Rattle.std.specs.List.{list_all}
use Rattle.std.specs.Str.{bytes_eq}
use Rattle.fh_base.specs.Numbers.{word_at, number_in}
use Rattle.pictures.specs.declared.numbers.TheConstants.{MOST_DIGITS}

-- what follows on a value, and nothing where there is none
abbrev pub taking : {A B : Type 0} → Option A → (A → Option B) → Option B
taking None next = None
taking (Some x) next = next x

-- the number that 1 to 16 digits spell, from low to high
abbrev pub numeral : ℕ → ℕ → List ℕ → Option ℕ
numeral low high w = number_in MOST_DIGITS low high w

-- what is after a key, and nothing where the word does not begin with it
abbrev pub after : List ℕ → List ℕ → List ℕ
after key w = if bytes_eq (take (length key) w) key then drop (length key) w else []

-- the number after a key
abbrev pub keyed : List ℕ → ℕ → ℕ → List ℕ → Option ℕ
keyed key low high w = numeral low high (after key w)

-- the greatest number of 64 bits, which no number of 16 digits reaches
abbrev pub most : ℕ
most = 18446744073709551615

-- a number of 1 to 16 digits, with or without a minus
abbrev pub integer : List ℕ → Option ℤ
integer w =
    if slice_index w 0 == 45 then option_map (λ n. neg_ℤ (pos n)) (numeral 0 most (drop 1 w))
    else option_map (λ n. pos n) (numeral 0 most w)

-- one digit
abbrev pub digit : List ℕ → Option ℕ
digit w = number_in 1 0 9 w

-- lower-case hexadecimal digits
abbrev pub is_lower_hex : List ℕ → Bool
is_lower_hex = list_all (λ b. (nat_le 48 b && nat_le b 57) || (nat_le 97 b && nat_le b 102))

-- four of them
abbrev pub is_id : List ℕ → Bool
is_id w = (length w == 4) && is_lower_hex w

-- three of them after `mask=`
abbrev pub is_mask : List ℕ → Bool
is_mask w = (length (after (codes "mask=") w) == 3) && is_lower_hex (after (codes "mask=") w)

-- a to z, 0 to 9, `_`, `=` and `-`
abbrev pub is_name_byte : ℕ → Bool
is_name_byte b = (nat_le 97 b && nat_le b 122) || (nat_le 48 b && nat_le b 57) || (b == 95) || (b == 61) || (b == 45)

abbrev pub is_name : List ℕ → Bool
is_name = list_all is_name_byte

-- there is no word with this index, or it has 1 to 40 of these bytes
abbrev pub is_free : List (List ℕ) → ℕ → Bool
is_free ws i = if nat_le (length ws) i then true else (nat_le 1 (length (word_at ws i)) && nat_le (length (word_at ws i)) 40 && is_name (word_at ws i))
