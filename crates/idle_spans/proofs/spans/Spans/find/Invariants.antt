use Rattle.std.proofs.Common.{◌≡◌, ℕ, ◌<◌}
use Rattle.idle_spans.specs.Tables.{row_at}
use Rattle.idle_spans.proofs.spans.Spans.find.Given as goal

abbrev pub invariant-loop-ep : goal.invariant-loop-ep
invariant-loop-ep l = record {
  none : (ep : ℕ) → ep < l.ep → (row_at l.self ep).endpoint.id ≡ l.id → ⊥;
}
