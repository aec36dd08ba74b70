-- How far a number is below 0.
use Rattle.std.proofs.Common.{◌≡◌, ℤ, pos, negsuc, ◌<ℤ◌, ◌≤ℤ◌, unsigned_abs, arith}
use Rattle.std.specs.Int.{int_gap}
use Rattle.std.proofs.lemmas.Int.{ints}

pub below : (z : ℤ) → z <ℤ pos 0 → unsigned_abs z ≡ int_gap z (pos 0)
below (pos n) lt = absurd (omega (arith, ints, lt))
below (negsuc n) lt = omega arith

pub not_below : (z : ℤ) → pos 0 ≤ℤ z → 0 ≡ int_gap z (pos 0)
not_below (pos n) le = omega arith
not_below (negsuc n) le = absurd (omega (arith, ints, le))
