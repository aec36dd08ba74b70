-- The lines of a text and the words of a line (this project's profile: ASCII, line feeds, spaces).
use Rattle.std.specs.Prelude.{ℕ, ◌+◌, ◌-◌, List, [], length, take, Bool, ◌&&◌, ◌||◌, nat_lt, nat_le, ◌==◌, Option, if◌then◌else◌, filter, slice_index}
use Rattle.std.specs.Borrow.{Bor}
use Rattle.std.specs.Option.{option_map_or}
use Rattle.std.specs.List.{slice_split, list_all}

-- the text without a last line feed
abbrev pub without_last_feed : List ℕ → List ℕ
without_last_feed text = if slice_index text (length text - 1) == 10 then take (length text - 1) text else text

-- the lines of a text, of which the last may end without a line feed; an empty text has none
abbrev pub lines_of : List ℕ → List (List ℕ)
lines_of text = if length text == 0 then [] else slice_split (λ b. b == 10) (without_last_feed text)

-- the words: what is between spaces and is not empty
abbrev pub words_of : List ℕ → List (List ℕ)
words_of line = filter (λ w. nat_lt 0 (length w)) (slice_split (λ b. b == 32) line)

-- printable ASCII
abbrev pub is_text : List ℕ → Bool
is_text = list_all (λ b. nat_le 32 b && nat_le b 126)

-- printable ASCII and line feeds
abbrev pub are_texts : List ℕ → Bool
are_texts = list_all (λ b. b == 10 || (nat_le 32 b && nat_le b 126))

-- what is left of a text, cut at a separator; nothing where nothing is left
abbrev pub parts_left : ℕ → Option (Bor (List ℕ)) → List (List ℕ)
parts_left separator rest = option_map_or (λ text. slice_split (λ b. b == separator) text.now) rest []

-- how many bytes are left, and one more where any may be
abbrev pub left_length : Option (Bor (List ℕ)) → ℕ
left_length rest = option_map_or (λ text. length text.now + 1) rest 0
