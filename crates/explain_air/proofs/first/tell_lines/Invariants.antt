use Rattle.std.proofs.Common.{◌≡◌, take}
use Rattle.std.specs.List.{flat_map}
use Rattle.explain_air.proofs.FirstLemmas.{itself, one_of}
use Rattle.explain_air.proofs.first.tell_lines.Given as goal

abbrev pub invariant-loop-line : goal.invariant-loop-line
invariant-loop-line g l = record {
  heard : g.W.LineSink.grew l.initial.out (flat_map (one_of itself) (take l.line-index l.lines)) l.out;
  same : g.W.LineSink.same l.initial.out l.out;
  still : g.W.LineSink.faults l.out ≡ g.W.LineSink.faults l.initial.out;
}
