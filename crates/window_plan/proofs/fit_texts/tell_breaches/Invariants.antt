use Rattle.std.proofs.Common.{take, ◌≡◌}
use Rattle.std.specs.List.{flat_map}
use Rattle.fh_base.specs.Owed.{Carried}
use Rattle.window_plan.specs.Fit.{breach_text}
use Rattle.window_plan.proofs.fit_texts.tell_breaches.Given as goal

abbrev pub invariant-loop-r : goal.invariant-loop-r
invariant-loop-r g l = record {
  carried : Carried (g.K.Sink.written l.initial.out) l.initial.owed (flat_map (breach_text l.d) (take l.r-index l.relations)) (g.K.Sink.written l.out) l.owed;
  still : g.K.Sink.faults l.out ≡ g.K.Sink.faults l.initial.out;
  refused_still : g.K.Sink.refusals l.out ≡ g.K.Sink.refusals l.initial.out;
}
