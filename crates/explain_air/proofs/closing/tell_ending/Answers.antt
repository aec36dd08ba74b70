use Rattle.std.proofs.Common.{rules, ◌≡◌, List, ◌++◌, subst, sym}
use Rattle.std.proofs.lemmas.Result.{IfErr-weaker, on_ok_weaker}
use Rattle.explain_air.proofs.ClosingLemmas.{ending_is, sums_after}
use Rattle.explain_air.proofs.Stopping.{some_first, some_second}
use Rattle.explain_model.specs.Subjects.{reasons_of}
use Rattle.explain_model.specs.declared.values.ExplainLine.{ExplainLine}
use Rattle.explain_model.specs.Cells.{event_lines}
use Rattle.explain_heard.specs.Stops.{StopsSome}
use Rattle.explain_air.proofs.closing.tell_ending.Goals as goal

pub returns-clause-heard : goal.returns-clause-heard
returns-clause-heard g c =
    let more = g.met.W.LineSink.grew_more in
    on_ok_weaker c.tell_sums.result (λ third s events is.
    subst (λ (ls : List ExplainLine). g.W.LineSink.grew c.args.out.now ls c.tell_sums.new.out) (ending_is s events)
    (more c.args.out.now c.tell_reasons.new.out c.tell_sums.new.out _ _ (c.in_ok-tell_reasons.ensures.heard s events is.of)
    (more c.tell_reasons.new.out c.tell_margins.new.out c.tell_sums.new.out _ _ (c.in_ok-tell_margins.ensures.heard s.config events is.ru is.du)
    (third s.config.endpoints (event_lines s.config events ++ (reasons_of s events).whys) (sums_after s events c.args.grounds.now.endpoints.now c.args.grounds.now.ordered.now c.args.cells c.args.grounds.now.plan.now c.args.ru.now c.args.du.now c.args.notes.now c.tell_reasons.new.notes is (c.in_ok-tell_reasons.ensures.noted s events is.of)))))) c.tell_sums.ensures.heard

pub returns-clause-stop : goal.returns-clause-stop
returns-clause-stop g c =
    let more = g.met.W.LineSink.grew_more in
    IfErr-weaker c.tell_sums.result _ _ (λ f third s events is.
    subst (λ (ls : List ExplainLine). StopsSome g.W.LineSink.grew (g.W.LineSink.stopped f) ls c.args.out.now c.tell_sums.new.out) (ending_is s events)
    (some_second g.W.LineSink.grew (g.W.LineSink.stopped f) more _ _ c.args.out.now c.tell_reasons.new.out c.tell_sums.new.out (c.in_ok-tell_reasons.ensures.heard s events is.of)
    (some_second g.W.LineSink.grew (g.W.LineSink.stopped f) more _ _ c.tell_reasons.new.out c.tell_margins.new.out c.tell_sums.new.out (c.in_ok-tell_margins.ensures.heard s.config events is.ru is.du)
    (third s.config.endpoints (event_lines s.config events ++ (reasons_of s events).whys) (sums_after s events c.args.grounds.now.endpoints.now c.args.grounds.now.ordered.now c.args.cells c.args.grounds.now.plan.now c.args.ru.now c.args.du.now c.args.notes.now c.tell_reasons.new.notes is (c.in_ok-tell_reasons.ensures.noted s events is.of)))))) c.tell_sums.ensures.stop

pub returns-in_err-tell_margins-clause-stop : goal.returns-in_err-tell_margins-clause-stop
returns-in_err-tell_margins-clause-stop g c =
    let same : c.tell_margins.result ≡ c.from_residual-in_err-tell_margins.result = search rules in
    rw (sym same)
    (IfErr-weaker c.tell_margins.result _ _
    (λ f stop s events is.
    subst (λ (ls : List ExplainLine). StopsSome g.W.LineSink.grew (g.W.LineSink.stopped f) ls c.args.out.now c.tell_margins.new.out) (ending_is s events)
    (some_second g.W.LineSink.grew (g.W.LineSink.stopped f) g.met.W.LineSink.grew_more _ _ c.args.out.now c.tell_reasons.new.out c.tell_margins.new.out (c.in_ok-tell_reasons.ensures.heard s events is.of)
    (some_first g.W.LineSink.grew (g.W.LineSink.stopped f) _ _ c.tell_reasons.new.out c.tell_margins.new.out (stop s.config events is.ru is.du)))) c.tell_margins.ensures.stop)

pub returns-in_err-tell_reasons-clause-stop : goal.returns-in_err-tell_reasons-clause-stop
returns-in_err-tell_reasons-clause-stop g c =
    let same : c.tell_reasons.result ≡ c.from_residual.result = search rules in
    rw (sym same)
    (IfErr-weaker c.tell_reasons.result _ _
    (λ f stop s events is.
    subst (λ (ls : List ExplainLine). StopsSome g.W.LineSink.grew (g.W.LineSink.stopped f) ls c.args.out.now c.tell_reasons.new.out) (ending_is s events)
    (some_first g.W.LineSink.grew (g.W.LineSink.stopped f) _ _ c.args.out.now c.tell_reasons.new.out (stop s events is.of))) c.tell_reasons.ensures.stop)
