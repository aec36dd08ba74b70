-- The number of the place that each id has, where it has one, and the numbers of those that no id has.
use Rattle.std.specs.Prelude.{◌≡◌, ℕ, ◌+◌, ◌==◌, if◌then◌else◌, nat_lt, List, [], ◌∷◌, Option, Some, None, is_some}

-- how many ids have a place
abbrev pub how_many : List (Option ℕ) → ℕ
how_many [] = 0
how_many (n ∷ numbers) = (if is_some n then 1 else 0) + how_many numbers

-- how often this place is among those of the ids, and among the free ones
abbrev pub is_number : ℕ → Option ℕ → ℕ
is_number k None = 0
is_number k (Some n) = if n == k then 1 else 0

abbrev pub times : ℕ → List (Option ℕ) → ℕ
times k [] = 0
times k (n ∷ numbers) = is_number k n + times k numbers

abbrev pub times_free : ℕ → List ℕ → ℕ
times_free k [] = 0
times_free k (n ∷ free) = is_number k (Some n) + times_free k free

-- each of the first places is free, or one id has it
abbrev pub AreOnce : List (Option ℕ) → List ℕ → ℕ → Type 0
AreOnce numbers free count = (k : ℕ) → times k numbers + times_free k free ≡ (if nat_lt k count then 1 else 0)
