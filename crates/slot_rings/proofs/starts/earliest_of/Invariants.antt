use Rattle.std.proofs.Common.{ℕ, ◌<◌, ◌≤ℤ◌}
use Rattle.slot_rings.specs.Starts.{start_at}
use Rattle.slot_rings.proofs.starts.earliest_of.Given as goal

abbrev pub invariant-loop-k : goal.invariant-loop-k
invariant-loop-k l = (i : ℕ) → i < l.k → l.least.0 ≤ℤ start_at l.ticks i
