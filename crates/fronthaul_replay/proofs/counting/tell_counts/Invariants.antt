use Rattle.std.proofs.Common.{take, ◌≡◌}
use Rattle.delay_exchange.specs.Units.{HasDoings}
use Rattle.delay_measure.specs.declared.edge.Compensation.{Compensation}
use Rattle.document_traffic.specs.Doings.{Doings}
use Rattle.unit_moments.specs.Heard.{HeardAnyhow}
use Rattle.fronthaul_replay.proofs.CountLemmas.{counts_to}
use Rattle.fronthaul_replay.proofs.counting.tell_counts.Given as goal

abbrev pub invariant-loop-counter : goal.invariant-loop-counter
invariant-loop-counter g l = record {
  heard : (c : Compensation) (x : Doings) → HasDoings c x l.meter
      → HeardAnyhow g.A.ListeningAir.grew l.initial.out (counts_to l.side l.counters x.counted (take l.counter-index l.counter-items)) l.out;
  same : g.A.ListeningAir.same l.initial.out l.out;
  still : g.A.ListeningAir.faults l.out ≡ g.A.ListeningAir.faults l.initial.out;
}
