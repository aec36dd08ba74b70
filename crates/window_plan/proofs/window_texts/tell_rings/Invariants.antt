use Rattle.std.proofs.Common.{take, ◌≡◌}
use Rattle.std.specs.List.{flat_map}
use Rattle.fh_base.specs.Owed.{Carried}
use Rattle.window_plan.specs.Windows.{ring_text}
use Rattle.window_plan.proofs.window_texts.tell_rings.Given as goal

abbrev pub invariant-loop-e : goal.invariant-loop-e
invariant-loop-e g l = record {
  carried : Carried (g.K.Sink.written l.initial.out) l.initial.owed (flat_map (ring_text l.ru l.du) (take l.e-index l.endpoints)) (g.K.Sink.written l.out) l.owed;
  still : g.K.Sink.faults l.out ≡ g.K.Sink.faults l.initial.out;
  refused_still : g.K.Sink.refusals l.out ≡ g.K.Sink.refusals l.initial.out;
}
