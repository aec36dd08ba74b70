use Rattle.std.proofs.Common.{◌≡◌, take}
use Rattle.explain_units.specs.Known.{after_all, all_said}
use Rattle.explain_units.specs.Knowing.{known_of}
use Rattle.explain_units.proofs.telling.tell_judged.Given as goal

abbrev pub invariant-loop-part : goal.invariant-loop-part
invariant-loop-part g l = record {
  known : known_of l.earlier ≡ after_all l.number (take l.part-index l.judged) (known_of l.initial.earlier);
  told : g.W.LineSink.grew l.initial.out (all_said l.number (take l.part-index l.judged) (known_of l.initial.earlier)) l.out;
  same : g.W.LineSink.same l.initial.out l.out;
  still : g.W.LineSink.faults l.out ≡ g.W.LineSink.faults l.initial.out;
}
