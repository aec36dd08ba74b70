-- From no item on to all.
use Rattle.std.proofs.Common.{List, [], append-nil, subst, sym, rules}
use Rattle.std.proofs.lemmas.Result.{IfErr-weaker, on_ok_weaker}
use Rattle.explain_heard.specs.Runs.{AreRun, run_lines}
use Rattle.explain_heard.specs.Stops.{StopsInLine}
use Rattle.explain_heard.proofs.RunLemmas.{none_yet}
use Rattle.explain_records.specs.Missing.{missing_line_of, missing_prbs, missing_related}
use Rattle.explain_records.specs.declared.missing.MissingPrb.{MissingPrb}
use Rattle.explain_records.proofs.missing.tell_missing.Goals as goal

pub returns-clause-heard : goal.returns-clause-heard
returns-clause-heard g c =
    let start = subst (λ o. AreRun missing_related missing_line_of g.W.LineSink.grew c.args.out.now [] o c.args.out.now) (sym c.new-lines.ensures)
    (none_yet missing_related missing_line_of g.W.LineSink.grew g.met.W.LineSink.grew_none c.args.out.now) in
    let all = c.in_ok-put_runs.ensures.ok.after_all c.args.out.now [] start in
    on_ok_weaker c.finish.result (λ h. h c.args.out.now (missing_prbs c.args.kept.now c.args.runs.now) all) c.finish.ensures.ok

pub returns-clause-stop : goal.returns-clause-stop
returns-clause-stop g c =
    let start = subst (λ o. AreRun missing_related missing_line_of g.W.LineSink.grew c.args.out.now [] o c.args.out.now) (sym c.new-lines.ensures)
    (none_yet missing_related missing_line_of g.W.LineSink.grew g.met.W.LineSink.grew_none c.args.out.now) in
    let all = c.in_ok-put_runs.ensures.ok.after_all c.args.out.now [] start in
    IfErr-weaker c.finish.result _ _ (λ f h. h c.args.out.now (missing_prbs c.args.kept.now c.args.runs.now) all) c.finish.ensures.stop

pub returns-in_err-put_runs-clause-stop : goal.returns-in_err-put_runs-clause-stop
returns-in_err-put_runs-clause-stop g c =
    let start = subst (λ o. AreRun missing_related missing_line_of g.W.LineSink.grew c.args.out.now [] o c.args.out.now) (sym c.new-lines.ensures)
    (none_yet missing_related missing_line_of g.W.LineSink.grew g.met.W.LineSink.grew_none c.args.out.now) in
    let stop = subst (λ (xs : List MissingPrb). StopsInLine g.W.LineSink.grew (g.W.LineSink.stopped c.in_err-put_runs.field-0.0) (run_lines missing_related missing_line_of xs) c.args.out.now c.put_runs.new.out)
    (append-nil (missing_prbs c.args.kept.now c.args.runs.now)) (c.in_err-put_runs.ensures.stop.in_all c.args.out.now [] [] start) in
    search (rules, stop)
