-- The steps from element 0 of a PRB to the others.
use Rattle.std.specs.Prelude.{◌≡◌, ℕ, ◌*◌, ◌%◌, ◌<◌, List, slice_index}

-- step re is the remainder of so many times re by twice the amplitude
abbrev pub IsSteps : ℕ → ℕ → List ℕ → Type 0
IsSteps each amplitude steps = (re : ℕ) → re < 12 → slice_index steps re ≡ each * re % (2 * amplitude)
