-- From no item on to all.
use Rattle.std.proofs.Common.{List, [], append-nil, subst, sym, rules}
use Rattle.std.proofs.lemmas.Result.{IfErr-weaker, on_ok_weaker}
use Rattle.explain_heard.specs.Runs.{AreRun, run_lines}
use Rattle.explain_heard.specs.Stops.{StopsInLine}
use Rattle.explain_heard.proofs.RunLemmas.{none_yet}
use Rattle.why_lines.specs.Unused.{unused_line_of, unused_prbs, unused_related}
use Rattle.why_lines.specs.declared.blocks.UnusedPrb.{UnusedPrb}
use Rattle.why_lines.proofs.blocks.tell_symbol.Goals as goal

pub returns-clause-heard : goal.returns-clause-heard
returns-clause-heard g c =
    let start = subst (λ o. AreRun unused_related unused_line_of g.W.LineSink.grew c.args.out.now [] o c.args.out.now) (sym c.new-lines.ensures)
    (none_yet unused_related unused_line_of g.W.LineSink.grew g.met.W.LineSink.grew_none c.args.out.now) in
    let all = c.in_ok-put_blocks.ensures.ok.after_all c.args.out.now [] start in
    on_ok_weaker c.finish.result (λ h. h c.args.out.now (unused_prbs c.args.given.now c.args.cells.now c.args.of.now) all) c.finish.ensures.ok

pub returns-clause-stop : goal.returns-clause-stop
returns-clause-stop g c =
    let start = subst (λ o. AreRun unused_related unused_line_of g.W.LineSink.grew c.args.out.now [] o c.args.out.now) (sym c.new-lines.ensures)
    (none_yet unused_related unused_line_of g.W.LineSink.grew g.met.W.LineSink.grew_none c.args.out.now) in
    let all = c.in_ok-put_blocks.ensures.ok.after_all c.args.out.now [] start in
    IfErr-weaker c.finish.result _ _ (λ f h. h c.args.out.now (unused_prbs c.args.given.now c.args.cells.now c.args.of.now) all) c.finish.ensures.stop

pub returns-in_err-put_blocks-clause-stop : goal.returns-in_err-put_blocks-clause-stop
returns-in_err-put_blocks-clause-stop g c =
    let start = subst (λ o. AreRun unused_related unused_line_of g.W.LineSink.grew c.args.out.now [] o c.args.out.now) (sym c.new-lines.ensures)
    (none_yet unused_related unused_line_of g.W.LineSink.grew g.met.W.LineSink.grew_none c.args.out.now) in
    let stop = subst (λ (xs : List UnusedPrb). StopsInLine g.W.LineSink.grew (g.W.LineSink.stopped c.in_err-put_blocks.field-0.0) (run_lines unused_related unused_line_of xs) c.args.out.now c.put_blocks.new.out)
    (append-nil (unused_prbs c.args.given.now c.args.cells.now c.args.of.now)) (c.in_err-put_blocks.ensures.stop.in_all c.args.out.now [] [] start) in
    search (rules, stop)
