use Rattle.std.proofs.Common.{◌≡◌, take}
use Rattle.std.specs.List.{flat_map}
use Rattle.why_lines.specs.Counting.{word_lines}
use Rattle.why_lines.proofs.unit_sums.UnitSums.tell.Given as goal

abbrev pub invariant-loop-word : goal.invariant-loop-word
invariant-loop-word g l = record {
  heard : g.W.LineSink.grew l.initial.out (flat_map (word_lines l.self) (take l.word-index l.word-items)) l.out;
  same : g.W.LineSink.same l.initial.out l.out;
  still : g.W.LineSink.faults l.out ≡ g.W.LineSink.faults l.initial.out;
}
