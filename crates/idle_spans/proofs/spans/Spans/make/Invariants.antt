use Rattle.std.proofs.Common.{◌≡◌, ℕ, ◌<◌, map, take}
use Rattle.idle_spans.specs.Tables.{RowValue, row_at}
use Rattle.idle_spans.specs.Scans.{IsBlankRow}
use Rattle.idle_spans.proofs.spans.Spans.make.Given as goal

abbrev pub invariant-loop-endpoint : goal.invariant-loop-endpoint
invariant-loop-endpoint l = record {
  endpoints : map (λ (r : RowValue). r.endpoint) l.rows.items ≡ take l.endpoint-index l.endpoints;
  blank : (ep : ℕ) → ep < l.endpoint-index → IsBlankRow l.first l.last (row_at (record { rows = l.rows.items }) ep);
}
