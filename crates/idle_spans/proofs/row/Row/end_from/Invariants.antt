use Rattle.std.proofs.Common.{◌≡◌, ℕ, ◌<◌, ◌≤◌, true}
use Rattle.idle_spans.specs.Scans.{row_silent}
use Rattle.idle_spans.proofs.row.Row.end_from.Given as goal

abbrev pub invariant-loop-k : goal.invariant-loop-k
invariant-loop-k l = record {
  all : (k : ℕ) → l.from ≤ k → k < l.k → row_silent l.self k ≡ true;
}
