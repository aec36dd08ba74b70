use Rattle.std.proofs.Common.{◌≡◌, take}
use Rattle.explain_heard.specs.Runs.{HasPut}
use Rattle.why_lines.specs.Silent.{silent_items, silent_line_of, silent_related}
use Rattle.why_lines.proofs.puts.put_lines.Given as goal

abbrev pub invariant-loop-p : goal.invariant-loop-p
invariant-loop-p g l = record {
  put : HasPut silent_related silent_line_of g.W.LineSink.grew (silent_items l.kept l.cells l.numbers (take l.p-index l.planned)) l.initial.lines l.initial.out l.lines l.out;
  same : g.W.LineSink.same l.initial.out l.out;
  still : g.W.LineSink.faults l.out ≡ g.W.LineSink.faults l.initial.out;
}
