use Rattle.std.proofs.Common.{◌≡◌, ◌+ℤ◌, pos, []}
use Rattle.std.specs.Int.{int_gap}
use Rattle.fronthaul_replay.specs.BoxTurns.{events_before}
use Rattle.replay_laws.specs.Moments.{end_of_time}
use Rattle.fronthaul_replay.specs.Turns.{AtMoment}
use Rattle.fronthaul_replay.proofs.moments.pass.Given as goal

abbrev pub invariant-loop-tick : goal.invariant-loop-tick
invariant-loop-tick g l = record {
  at : AtMoment (goal.G-pre g) (goal.G-post g) l.doc l.now.0 l.ru l.intake l.coming l.meters;
  heard : g.A.ListeningAir.grew l.doc.config [] l.initial.out (events_before l.doc l.now.0) l.out;
  same : g.A.ListeningAir.same l.initial.out l.out;
  still : g.A.ListeningAir.faults l.out ≡ g.A.ListeningAir.faults l.initial.out;
}

abbrev pub decreases-loop-tick : goal.decreases-loop-tick
decreases-loop-tick g l = int_gap l.now.0 (end_of_time +ℤ pos 1)
