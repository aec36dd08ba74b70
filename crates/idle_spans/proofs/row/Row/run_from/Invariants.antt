use Rattle.std.proofs.Common.{ℕ, ◌-◌, ◌≤◌, length}
use Rattle.idle_spans.specs.Runs.{IsLongRun}
use Rattle.idle_spans.specs.Scans.{row_silent}
use Rattle.idle_spans.proofs.row.Row.run_from.Given as goal

abbrev pub invariant-loop-first : goal.invariant-loop-first
invariant-loop-first l = record {
  low : l.start ≤ l.from;
  none : (k m : ℕ) → IsLongRun (row_silent l.self) (length l.self.marks) l.min k m → l.start ≤ k → l.from ≤ k;
}

abbrev pub decreases-loop-first : goal.decreases-loop-first
decreases-loop-first l = length l.self.marks - l.from
