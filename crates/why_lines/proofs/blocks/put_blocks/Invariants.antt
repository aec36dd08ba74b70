use Rattle.std.proofs.Common.{◌≡◌, ◌-◌}
use Rattle.fh_base.specs.Lists.{each}
use Rattle.explain_heard.specs.Runs.{HasPut}
use Rattle.why_lines.specs.Unused.{unused_line_of, unused_prbs_at, unused_related}
use Rattle.why_lines.proofs.blocks.put_blocks.Given as goal

abbrev pub invariant-loop-prb : goal.invariant-loop-prb
invariant-loop-prb g l = record {
  put : HasPut unused_related unused_line_of g.W.LineSink.grew (each 0 (l.prb - 0) (unused_prbs_at l.given l.cells l.of)) l.initial.lines l.initial.out l.lines l.out;
  same : g.W.LineSink.same l.initial.out l.out;
  still : g.W.LineSink.faults l.out ≡ g.W.LineSink.faults l.initial.out;
}
