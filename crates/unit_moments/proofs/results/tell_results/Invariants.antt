use Rattle.std.proofs.Common.{take, ◌≡◌}
use Rattle.std.specs.Prelude.{map}
use Rattle.unit_model.specs.Events.{result_event}
use Rattle.unit_moments.specs.Heard.{HeardAnyhow}
use Rattle.unit_moments.proofs.results.tell_results.Given as goal

abbrev pub invariant-loop-known : goal.invariant-loop-known
invariant-loop-known g l = record {
  heard : HeardAnyhow g.A.ListeningAir.grew l.initial.out (map (result_event l.side l.at.0) (take l.known-index l.results)) l.out;
  same : g.A.ListeningAir.same l.initial.out l.out;
  still : g.A.ListeningAir.faults l.out ≡ g.A.ListeningAir.faults l.initial.out;
}
