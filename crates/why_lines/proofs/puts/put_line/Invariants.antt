use Rattle.std.proofs.Common.{◌≡◌, ◌-◌}
use Rattle.fh_base.specs.Lists.{each}
use Rattle.explain_heard.specs.Runs.{HasPut}
use Rattle.why_lines.specs.Silent.{silent_items_of_symbol, silent_line_of, silent_related}
use Rattle.why_lines.proofs.puts.put_line.Given as goal

abbrev pub invariant-loop-symbol : goal.invariant-loop-symbol
invariant-loop-symbol g l = record {
  put : HasPut silent_related silent_line_of g.W.LineSink.grew (each l.p.line.symbol (l.symbol - l.p.line.symbol) (silent_items_of_symbol l.kept l.cells l.number l.p)) l.initial.lines l.initial.out l.lines l.out;
  same : g.W.LineSink.same l.initial.out l.out;
  still : g.W.LineSink.faults l.out ≡ g.W.LineSink.faults l.initial.out;
}
