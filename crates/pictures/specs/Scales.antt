-- Numbers on a scale of pixels.
use Rattle.std.specs.Prelude.{ℕ, ℤ, pos, negsuc, ◌*◌, ◌/◌, min}

-- a number, and 0 for a negative one
abbrev pub or_zero : ℤ → ℕ
or_zero (pos n) = n
or_zero (negsuc n) = 0

-- the place of a number where a range from 0 to `whole` has so many pixels; a greater number is at the end
unfoldable pub scaled : ℕ → ℕ → ℕ → ℕ
scaled n whole pixels = min n whole * pixels / whole
