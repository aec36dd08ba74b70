-- The order of ticks, and of what is next to them.
use Rattle.std.proofs.Common.{◌≡◌, ℤ, pos, ◌+ℤ◌, ◌-ℤ◌, ◌≤ℤ◌, ◌<ℤ◌, arith}
use Rattle.std.proofs.lemmas.Int.{ints}
use Rattle.unit_model.specs.Radiated.{first_clock}
use Rattle.unit_model.specs.Times.{end_of_time}

pub last_is_earlier : (a : ℤ) → (a -ℤ pos 1) ≤ℤ a
last_is_earlier a = omega (arith, ints)

pub last_of_next : (a : ℤ) → (a +ℤ pos 1) -ℤ pos 1 ≡ a
last_of_next a = omega (arith, ints)

pub next_of_last : (a : ℤ) → (a -ℤ pos 1) +ℤ pos 1 ≡ a
next_of_last a = omega (arith, ints)

pub last_reached : (a b : ℤ) → a ≤ℤ b → a ≤ℤ ((b -ℤ pos 1) +ℤ pos 1)
last_reached a b h = omega (arith, ints)

pub before_next : (a b : ℤ) → a <ℤ (b +ℤ pos 1) → a ≤ℤ b
before_next a b h = omega (arith, ints)

pub after_all : (a b t : ℤ) → a ≤ℤ b → (b +ℤ pos 1) ≤ℤ t → a <ℤ t
after_all a b t h k = omega (arith, ints)

pub last_before : (a b : ℤ) → a <ℤ b → a ≤ℤ (b -ℤ pos 1)
last_before a b h = omega (arith, ints)

pub last_order : (a b : ℤ) → a ≤ℤ b → (a -ℤ pos 1) ≤ℤ (b -ℤ pos 1)
last_order a b h = omega (arith, ints)

pub one_before : (a b : ℤ) → a ≤ℤ b → (a -ℤ pos 1) <ℤ b
one_before a b h = omega (arith, ints)

-- a tick that is another's
pub same_then : (a b c : ℤ) → a ≤ℤ b → c ≡ b → a ≤ℤ c
same_then a b c h e = omega (arith, ints)

pub later_then : (a b c d : ℤ) → a ≤ℤ b → b ≤ℤ c → d ≡ c → a ≤ℤ d
later_then a b c d h k e = omega (arith, ints)

pub same_most : (a b : ℤ) → a ≡ b → b ≤ℤ a
same_most a b e = omega (arith, ints)

-- time is gone over from its first tick
pub clock_begins : first_clock ≤ℤ (end_of_time +ℤ pos 1)
clock_begins = omega (arith, ints)
