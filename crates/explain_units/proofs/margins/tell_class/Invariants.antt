use Rattle.std.proofs.Common.{◌≡◌, take}
use Rattle.explain_units.specs.MarginLines.{class_said}
use Rattle.explain_units.proofs.margins.tell_class.Given as goal

abbrev pub invariant-loop-margins : goal.invariant-loop-margins
invariant-loop-margins g l = record {
  told : g.W.LineSink.grew l.initial.out (class_said l.side l.class (take l.margins-index l.all)) l.out;
  same : g.W.LineSink.same l.initial.out l.out;
  still : g.W.LineSink.faults l.out ≡ g.W.LineSink.faults l.initial.out;
}
