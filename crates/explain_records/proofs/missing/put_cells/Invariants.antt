use Rattle.std.proofs.Common.{◌≡◌, ◌-◌}
use Rattle.fh_base.specs.Lists.{each}
use Rattle.explain_records.specs.Elements.{at_symbol}
use Rattle.explain_heard.specs.Runs.{HasPut}
use Rattle.explain_records.specs.Missing.{missing_line_of, missing_prb_at, missing_related}
use Rattle.explain_records.proofs.missing.put_cells.Given as goal

abbrev pub invariant-loop-prb : goal.invariant-loop-prb
invariant-loop-prb g l = record {
  put : HasPut missing_related missing_line_of g.W.LineSink.grew (each l.run.prb (l.prb - l.run.prb) (missing_prb_at (at_symbol l.at) l.run)) l.initial.lines l.initial.out l.lines l.out;
  same : g.W.LineSink.same l.initial.out l.out;
  still : g.W.LineSink.faults l.out ≡ g.W.LineSink.faults l.initial.out;
}
