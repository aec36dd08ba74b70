-- The size of a signed number, for the number of its binary digits.
use Rattle.std.specs.Prelude.{ℕ, ℤ, pos, negsuc, ◌*◌, ◌^◌, ◌<◌, ◌≤◌, List}
use Rattle.bfp_codec.specs.declared.samples.Iq.{Iq}
use Rattle.bfp_codec.specs.Samples.{component}

-- a number, or one less than its opposite where it is negative
abbrev pub magnitude_of : ℤ → ℕ
magnitude_of (pos n) = n
magnitude_of (negsuc n) = n

-- a number has as many binary digits as the longest of the first k pairs
pub record HasDigits (block : List Iq) (k all : ℕ) : Type 0 where
  pub small : all < 2 ^ 15
  pub each : (j : ℕ) → j < 2 * k → magnitude_of (component block j) ≤ all
  pub least : (n : ℕ) → ((j : ℕ) → j < 2 * k → magnitude_of (component block j) < 2 ^ n) → all < 2 ^ n
