use Rattle.std.proofs.Common.{◌≡◌, take}
use Rattle.std.specs.List.{flat_map}
use Rattle.why_lines.specs.Counting.{lines_at}
use Rattle.why_lines.proofs.sums.tell_all.Given as goal

abbrev pub invariant-loop-sums : goal.invariant-loop-sums
invariant-loop-sums g l = record {
  heard : g.W.LineSink.grew l.initial.out (flat_map (lines_at l.side) (take l.sums-index l.all)) l.out;
  same : g.W.LineSink.same l.initial.out l.out;
  still : g.W.LineSink.faults l.out ≡ g.W.LineSink.faults l.initial.out;
}
