use Rattle.std.proofs.Common.{◌≡◌, take}
use Rattle.why_lines.specs.Unused.{symbols_text}
use Rattle.why_lines.proofs.telling.tell_symbols.Given as goal

abbrev pub invariant-loop-start : goal.invariant-loop-start
invariant-loop-start g l = record {
  heard : g.W.LineSink.grew l.initial.out (symbols_text l.kept l.cells l.side (take l.start-index l.symbols)) l.out;
  same : g.W.LineSink.same l.initial.out l.out;
  still : g.W.LineSink.faults l.out ≡ g.W.LineSink.faults l.initial.out;
}
