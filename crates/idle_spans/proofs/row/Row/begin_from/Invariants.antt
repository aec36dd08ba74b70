use Rattle.std.proofs.Common.{ℕ, ◌<◌, ◌≤◌}
use Rattle.idle_spans.specs.Scans.{Begins, row_silent}
use Rattle.idle_spans.proofs.row.Row.begin_from.Given as goal

abbrev pub invariant-loop-k : goal.invariant-loop-k
invariant-loop-k l = record {
  none : (k : ℕ) → l.from ≤ k → k < l.k → Begins (row_silent l.self) k → ⊥;
}
