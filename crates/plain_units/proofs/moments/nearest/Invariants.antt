use Rattle.std.proofs.Common.{ℕ, ℤ, ◌≤◌, ◌<◌, ◌≤ℤ◌}
use Rattle.std.specs.Prelude.{IfSome}
use Rattle.fh_base.specs.Air.{air_of}
use Rattle.plain_units.specs.ClaimedStarts.{IsNotMissed}
use Rattle.plain_units.proofs.moments.nearest.Given as goal

abbrev pub invariant-loop-symbol : goal.invariant-loop-symbol
invariant-loop-symbol l =
    IfSome l.nearest (λ t. l.from.0 ≤ℤ t.0)
    × ((y : ℕ) → l.a.symbol ≤ y → y < l.symbol → IsNotMissed l.from.0 l.nearest (air_of l.a.endpoint.numerology l.a.slot y))
    × ((t : ℤ) → IsNotMissed l.from.0 l.fn.next t → IsNotMissed l.from.0 l.nearest t)
