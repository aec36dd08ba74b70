use Rattle.std.proofs.Common.{◌≤ℤ◌, take}
use Rattle.std.specs.Prelude.{All, IfSome}
use Rattle.plain_units.specs.ClaimedStarts.{IsNotMissed, OfEachSymbol}
use Rattle.plain_units.proofs.moments.next_start.Given as goal

abbrev pub invariant-loop-a : goal.invariant-loop-a
invariant-loop-a l =
    IfSome l.next (λ t. l.from.0 ≤ℤ t.0) × All (OfEachSymbol (IsNotMissed l.from.0 l.next) l.down) (take l.a-index l.accepted)
