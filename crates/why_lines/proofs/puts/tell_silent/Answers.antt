-- From no item on to all.
use Rattle.std.proofs.Common.{List, [], append-nil, subst, sym, rules}
use Rattle.std.proofs.lemmas.Result.{IfErr-weaker, on_ok_weaker}
use Rattle.explain_heard.specs.Runs.{AreRun, run_lines}
use Rattle.explain_heard.specs.Stops.{StopsInLine}
use Rattle.explain_heard.proofs.RunLemmas.{none_yet}
use Rattle.why_lines.specs.Silent.{silent_items, silent_line_of, silent_related}
use Rattle.why_lines.specs.declared.items.SilentItem.{SilentItem}
use Rattle.why_lines.proofs.puts.tell_silent.Goals as goal

pub returns-clause-heard : goal.returns-clause-heard
returns-clause-heard g c =
    let start = subst (λ o. AreRun silent_related silent_line_of g.W.LineSink.grew c.args.out.now [] o c.args.out.now) (sym c.new-lines.ensures)
    (none_yet silent_related silent_line_of g.W.LineSink.grew g.met.W.LineSink.grew_none c.args.out.now) in
    let all = c.in_ok-put_lines.ensures.ok.after_all c.args.out.now [] start in
    on_ok_weaker c.finish.result (λ h. h c.args.out.now (silent_items c.args.kept.now c.args.cells.now c.args.numbers.now c.args.planned.now) all) c.finish.ensures.ok

pub returns-clause-stop : goal.returns-clause-stop
returns-clause-stop g c =
    let start = subst (λ o. AreRun silent_related silent_line_of g.W.LineSink.grew c.args.out.now [] o c.args.out.now) (sym c.new-lines.ensures)
    (none_yet silent_related silent_line_of g.W.LineSink.grew g.met.W.LineSink.grew_none c.args.out.now) in
    let all = c.in_ok-put_lines.ensures.ok.after_all c.args.out.now [] start in
    IfErr-weaker c.finish.result _ _ (λ f h. h c.args.out.now (silent_items c.args.kept.now c.args.cells.now c.args.numbers.now c.args.planned.now) all) c.finish.ensures.stop

pub returns-in_err-put_lines-clause-stop : goal.returns-in_err-put_lines-clause-stop
returns-in_err-put_lines-clause-stop g c =
    let start = subst (λ o. AreRun silent_related silent_line_of g.W.LineSink.grew c.args.out.now [] o c.args.out.now) (sym c.new-lines.ensures)
    (none_yet silent_related silent_line_of g.W.LineSink.grew g.met.W.LineSink.grew_none c.args.out.now) in
    let stop = subst (λ (xs : List SilentItem). StopsInLine g.W.LineSink.grew (g.W.LineSink.stopped c.in_err-put_lines.field-0.0) (run_lines silent_related silent_line_of xs) c.args.out.now c.put_lines.new.out)
    (append-nil (silent_items c.args.kept.now c.args.cells.now c.args.numbers.now c.args.planned.now)) (c.in_err-put_lines.ensures.stop.in_all c.args.out.now [] [] start) in
    search (rules, stop)
