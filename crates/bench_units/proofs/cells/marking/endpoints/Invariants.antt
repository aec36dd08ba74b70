use Rattle.std.proofs.Common.{◌≡◌, ℕ, ◌<◌, length, get_or}
use Rattle.idle_spans.proofs.NumberedLemmas.{IsNumbered}
use Rattle.bench_units.proofs.cells.marking.endpoints.Given as goal
use Rattle.window_config.specs.Endpoints.{no_endpoint}

abbrev pub invariant-loop-id : goal.invariant-loop-id
invariant-loop-id l = record {
  count : length l.list ≡ l.id;
  each : (i : ℕ) → i < l.id → IsNumbered i (get_or l.list i no_endpoint);
}
