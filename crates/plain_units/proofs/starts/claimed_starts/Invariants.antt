use Rattle.std.proofs.Common.{◌≡◌, ◌++◌, pos, neg_ℤ, ◌^◌, ◌≤ℤ◌}
use Rattle.std.specs.Int.{int_gap}
use Rattle.plain_units.specs.ClaimedStarts.{claimed_start}
use Rattle.unit_model.specs.Sweeps.{sweep}
use Rattle.plain_units.proofs.starts.claimed_starts.Given as goal

abbrev pub invariant-loop-start : goal.invariant-loop-start
invariant-loop-start l =
    (neg_ℤ (pos (2 ^ 53)) ≤ℤ l.now.0)
    × (l.found.items ++ sweep (claimed_start l.accepted l.down) l.endpoints l.now.0 l.end.0 ≡ sweep (claimed_start l.accepted l.down) l.endpoints l.fn.from.0 l.end.0)

abbrev pub decreases-loop-start : goal.decreases-loop-start
decreases-loop-start l = int_gap l.now.0 l.end.0
