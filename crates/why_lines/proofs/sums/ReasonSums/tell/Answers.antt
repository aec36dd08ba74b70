-- The lines that are kept are those of all lines' sums.
use Rattle.std.proofs.Common.{List, ap, subst, ◌∙◌}
use Rattle.std.specs.List.{flat_map}
use Rattle.std.proofs.lemmas.Result.{IfErr-weaker, on_ok_weaker}
use Rattle.explain_model.specs.declared.values.ExplainLine.{ExplainLine}
use Rattle.explain_heard.specs.Stops.{StopsInLine}
use Rattle.why_lines.specs.Counting.{lines_at}
use Rattle.why_lines.proofs.ReasonTellLemmas.{told_is}
use Rattle.why_lines.proofs.sums.ReasonSums.tell.Goals as goal

pub returns-clause-heard : goal.returns-clause-heard
returns-clause-heard g c =
    on_ok_weaker c.tell_all.result (λ h es ls are.
    subst (λ (xs : List ExplainLine). g.W.LineSink.grew c.args.out.now xs c.tell_all.new.out)
    (ap (flat_map (lines_at c.args.side)) c.as_slice.ensures.value ∙ told_is ls c.args.side es c.args.self.now are) h) c.tell_all.ensures.heard

pub returns-clause-stop : goal.returns-clause-stop
returns-clause-stop g c =
    IfErr-weaker c.tell_all.result _ _ (λ f h es ls are.
    subst (λ (xs : List ExplainLine). StopsInLine g.W.LineSink.grew (g.W.LineSink.stopped f) xs c.args.out.now c.tell_all.new.out)
    (ap (flat_map (lines_at c.args.side)) c.as_slice.ensures.value ∙ told_is ls c.args.side es c.args.self.now are) h) c.tell_all.ensures.stop
