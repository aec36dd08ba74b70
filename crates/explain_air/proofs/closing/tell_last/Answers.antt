use Rattle.std.proofs.Common.{refl, ◌∙◌}
use Rattle.std.proofs.lemmas.Result.{IfErr-weaker, on_ok_weaker}
use Rattle.explain_air.proofs.ClosingLemmas.{last_is}
use Rattle.explain_air.proofs.Stopping.{if_err_all, some_nothing}
use Rattle.explain_model.specs.Subjects.{reason_lines}
use Rattle.explain_air.proofs.closing.tell_last.Goals as goal

pub returns-in_err-endpoints-clause-stop : goal.returns-in_err-endpoints-clause-stop
returns-in_err-endpoints-clause-stop g c =
    if_err_all c.from_residual.result (λ f s events last. some_nothing g.W.LineSink.grew (g.W.LineSink.stopped f) g.met.W.LineSink.grew_none (reason_lines s events) c.args.out.now)

pub returns-in_err-ordered-clause-stop : goal.returns-in_err-ordered-clause-stop
returns-in_err-ordered-clause-stop g c =
    if_err_all c.from_residual-in_err-ordered.result (λ f s events last. some_nothing g.W.LineSink.grew (g.W.LineSink.stopped f) g.met.W.LineSink.grew_none (reason_lines s events) c.args.out.now)

pub returns-clause-heard : goal.returns-clause-heard
returns-clause-heard g c =
    on_ok_weaker c.tell_ending.result (λ told s events last.
    told s events (last_is s events c.args.ru.now c.args.du.now c.args.notes _ c.args.records c.args.plan.now c.as_slice.result.now c.in_ok-ordered.ordered c.replace-cells.result last
    (c.as_slice.ensures.value ∙ c.in_ok-endpoints.ensures) c.replace-cells.ensures.value refl c.in_ok-ordered.ensures)) c.tell_ending.ensures.heard

pub returns-clause-stop : goal.returns-clause-stop
returns-clause-stop g c =
    IfErr-weaker c.tell_ending.result _ _ (λ f told s events last.
    told s events (last_is s events c.args.ru.now c.args.du.now c.args.notes _ c.args.records c.args.plan.now c.as_slice.result.now c.in_ok-ordered.ordered c.replace-cells.result last
    (c.as_slice.ensures.value ∙ c.in_ok-endpoints.ensures) c.replace-cells.ensures.value refl c.in_ok-ordered.ensures)) c.tell_ending.ensures.stop
