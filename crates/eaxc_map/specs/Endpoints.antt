-- The list of ids.
use Rattle.std.specs.Prelude.{◌≡◌, ℕ, ◌<◌, ◌==◌, Option, List, length, slice_index, position}

-- no id is listed at two places
abbrev pub AppearOnce : List ℕ → Type 0
AppearOnce ids = (j k : ℕ) → j < length ids → k < length ids → slice_index ids j ≡ slice_index ids k → j ≡ k

-- the index of an id, where it is there
abbrev pub index_of : List ℕ → ℕ → Option ℕ
index_of ids id = position (λ x. x == id) ids
