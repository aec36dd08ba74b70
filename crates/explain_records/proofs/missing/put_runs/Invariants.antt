use Rattle.std.proofs.Common.{◌≡◌, take}
use Rattle.explain_heard.specs.Runs.{HasPut}
use Rattle.explain_records.specs.Missing.{missing_line_of, missing_prbs, missing_related}
use Rattle.explain_records.proofs.missing.put_runs.Given as goal

abbrev pub invariant-loop-run : goal.invariant-loop-run
invariant-loop-run g l = record {
  put : HasPut missing_related missing_line_of g.W.LineSink.grew (missing_prbs l.kept (take l.run-index l.runs)) l.initial.lines l.initial.out l.lines l.out;
  same : g.W.LineSink.same l.initial.out l.out;
  still : g.W.LineSink.faults l.out ≡ g.W.LineSink.faults l.initial.out;
}
