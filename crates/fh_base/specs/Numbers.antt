-- Numbers among words.
use Rattle.std.specs.Prelude.{ℕ, List, [], length, Bool, ◌&&◌, nat_lt, nat_le, Option, Some, None, if◌then◌else◌}
use Rattle.std.specs.List.{list_all, slice_index_or}
use Rattle.std.specs.Str.Parse.{digits_value}

-- the i-th word, or the empty one
abbrev pub word_at : List (List ℕ) → ℕ → List ℕ
word_at ws i = slice_index_or ws i []

abbrev pub is_decimal : List ℕ → Bool
is_decimal = list_all (λ b. nat_le 48 b && nat_le b 57)

-- the number that 1 to `most` decimal digits spell, from low to high
abbrev pub number_in : ℕ → ℕ → ℕ → List ℕ → Option ℕ
number_in most low high w =
    if nat_lt 0 (length w) && (nat_le (length w) most && (is_decimal w
    && (nat_le low (digits_value 10 w) && nat_le (digits_value 10 w) high)))
    then Some (digits_value 10 w) else None
