-- Run by run.
use Rattle.std.proofs.Common.{refl, subst, ◌∙◌, rules}
use Rattle.std.specs.List.{flat_map}
use Rattle.explain_records.proofs.NearestLemmas.{take_all}
use Rattle.explain_heard.specs.Runs.{HasPut}
use Rattle.explain_heard.proofs.PutLemmas.{some_put, some_stop}
use Rattle.explain_heard.proofs.RunLemmas.{put_none}
use Rattle.explain_records.specs.Missing.{missing_line_of, missing_prbs_of, missing_related}
use Rattle.explain_records.proofs.missing.put_runs.Goals as goal

pub loop-run-init : goal.loop-run-init
loop-run-init g c = record {
  put = put_none missing_related missing_line_of g.W.LineSink.grew c.args.lines.now c.args.out.now;
  same = g.met.W.LineSink.same_none c.args.out.now;
  still = refl;
}

pub loop-run-preserved : goal.loop-run-preserved
loop-run-preserved g c = record {
  put =
      some_put missing_related missing_line_of g.W.LineSink.grew (missing_prbs_of c.args.kept.now) c.args.runs.now c.loop-run.run-index _ c.loop-run-test.true
      c.args.lines.now c.loop-run.lines c.put_run.new.lines c.args.out.now c.loop-run.out c.put_run.new.out c.loop-run.invariant.put c.in_ok-put_run.ensures.ok;
  same = g.met.W.LineSink.same_more _ _ _ c.loop-run.invariant.same c.in_ok-put_run.ensures.same;
  still = c.in_ok-put_run.ensures.cause ∙ c.loop-run.invariant.still;
}

pub returns-in_err-put_run-clause-stop : goal.returns-in_err-put_run-clause-stop
returns-in_err-put_run-clause-stop g c =
    let stop = some_stop missing_related missing_line_of g.W.LineSink.grew (missing_prbs_of c.args.kept.now) (g.W.LineSink.stopped c.in_err-put_run.field-0.0) c.args.runs.now c.loop-run.run-index _ c.loop-run-test.true
    c.args.lines.now c.loop-run.lines c.args.out.now c.loop-run.out c.put_run.new.out c.loop-run.invariant.put c.in_err-put_run.ensures.stop in
    search (rules, stop)

pub returns-clause-ok : goal.returns-clause-ok
returns-clause-ok g c =
    subst (λ xs. HasPut missing_related missing_line_of g.W.LineSink.grew (flat_map (missing_prbs_of c.args.kept.now) xs) c.args.lines.now c.args.out.now c.loop-run.lines c.loop-run.out)
    (take_all c.args.runs.now c.loop-run.run-index c.loop-run-test.false) c.loop-run.invariant.put
