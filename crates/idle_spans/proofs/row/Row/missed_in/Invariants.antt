use Rattle.std.proofs.Common.{◌≡◌, ◌≤◌}
use Rattle.idle_spans.specs.Runs.{count_from}
use Rattle.idle_spans.specs.Scans.{row_missing}
use Rattle.idle_spans.proofs.row.Row.missed_in.Given as goal

abbrev pub invariant-loop-k : goal.invariant-loop-k
invariant-loop-k l = record {
  counted : l.missed ≡ count_from (row_missing l.self) l.first l.k;
  few : l.missed ≤ l.k;
}
