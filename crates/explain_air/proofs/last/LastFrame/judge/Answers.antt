-- What is judged is fit.
use Rattle.std.proofs.Common.{sym, ap, subst, ◌∙◌}
use Rattle.std.specs.List.{AllByRecursion}
use Rattle.std.proofs.lemmas.Result.{on_ok_weaker}
use Rattle.explain_heard.specs.Judged.{all_judged}
use Rattle.explain_units.specs.Fit.{IsFit}
use Rattle.explain_air.proofs.last.LastFrame.judge.Goals as goal

pub returns-clause-fit : goal.returns-clause-fit
returns-clause-fit c =
    let d = c.self.inside.windows.delays in
    on_ok_weaker c.judge_all.result
    (λ is. subst (AllByRecursion IsFit) (sym (is ∙ ap (all_judged c.args.side d) c.as_slice.ensures.value)) ((c.self.invariant c.if-self.false).fit c.args.side d)) c.judge_all.ensures
