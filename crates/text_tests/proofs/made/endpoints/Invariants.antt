use Rattle.std.proofs.Common.{◌≡◌, ℕ, ◌+◌, ◌<◌, length, get_or}
use Rattle.window_plan.proofs.Numbered.{IsNumbered}
use Rattle.text_tests.proofs.made.endpoints.Given as goal
use Rattle.window_config.specs.Endpoints.{no_endpoint}

abbrev pub invariant-loop-k : goal.invariant-loop-k
invariant-loop-k l = record {
  count : length l.list ≡ l.k;
  each : (i : ℕ) → i < l.k → IsNumbered (l.first + i) (get_or l.list i no_endpoint);
}
