-- Nanoseconds in ticks.
use Rattle.std.proofs.Common.{ℤ, ◌≤◌, ◌≤ℤ◌, arith, pos}
use Rattle.window_config.specs.Windows.{ticks_of_ns}
use Rattle.std.proofs.lemmas.Int.{ints}

pub in_ticks : (a b : ℤ) → a ≤ℤ b → ticks_of_ns a ≤ℤ ticks_of_ns b
in_ticks a b h = omega (arith, ints, h)

pub positive : (ns : ℤ) → pos 0 ≤ℤ ns → pos 0 ≤ℤ ticks_of_ns ns
positive ns low = omega (arith, ints, low)
