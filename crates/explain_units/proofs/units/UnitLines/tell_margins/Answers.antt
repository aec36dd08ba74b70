-- The margins that are kept are those of the sections.
use Rattle.std.proofs.Common.{subst}
use Rattle.std.proofs.lemmas.Result.{IfErr-weaker, on_ok_weaker}
use Rattle.explain_units.proofs.EventLemmas.{margins_after_events}
use Rattle.explain_heard.specs.Stops.{StopsInLine}
use Rattle.explain_units.proofs.units.UnitLines.tell_margins.Goals as goal

pub returns-clause-heard : goal.returns-clause-heard
returns-clause-heard g c =
    on_ok_weaker c.tell_all.result (λ h side config events is.
    subst (λ ls. g.W.LineSink.grew c.args.out.now ls c.tell_all.new.out) (margins_after_events side config events c.args.self.now c.margins.result.now is c.margins.ensures) h) c.tell_all.ensures.told

pub returns-clause-stop : goal.returns-clause-stop
returns-clause-stop g c =
    IfErr-weaker c.tell_all.result _ _ (λ f h side config events is.
    subst (λ ls. StopsInLine g.W.LineSink.grew (g.W.LineSink.stopped f) ls c.args.out.now c.tell_all.new.out) (margins_after_events side config events c.args.self.now c.margins.result.now is c.margins.ensures) h) c.tell_all.ensures.stop
