use Rattle.std.proofs.Common.{◌≡◌, ◌-◌}
use Rattle.fh_base.specs.Lists.{each}
use Rattle.explain_heard.specs.Runs.{HasPut}
use Rattle.why_lines.specs.Silent.{silent_items_at, silent_line_of, silent_related}
use Rattle.why_lines.proofs.puts.put_symbol.Given as goal

abbrev pub invariant-loop-prb : goal.invariant-loop-prb
invariant-loop-prb g l = record {
  put : HasPut silent_related silent_line_of g.W.LineSink.grew (each l.initial.prb (l.prb - l.initial.prb) (silent_items_at l.commanded l.cells l.of)) l.initial.lines l.initial.out l.lines l.out;
  same : g.W.LineSink.same l.initial.out l.out;
  still : g.W.LineSink.faults l.out ≡ g.W.LineSink.faults l.initial.out;
}
