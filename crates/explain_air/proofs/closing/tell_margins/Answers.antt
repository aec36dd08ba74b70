use Rattle.std.proofs.Common.{rules, ◌≡◌, List, subst, sym}
use Rattle.std.proofs.lemmas.Result.{IfErr-weaker, on_ok_weaker}
use Rattle.air_source.specs.declared.events.Side.TheVariants.{Ru, Du}
use Rattle.explain_air.proofs.ClosingLemmas.{margins_are}
use Rattle.explain_air.proofs.Stopping.{some_first, some_line, some_second}
use Rattle.explain_model.specs.declared.values.ExplainLine.{ExplainLine}
use Rattle.explain_model.specs.Margins.{dated, margins_at}
use Rattle.explain_heard.specs.Stops.{StopsSome}
use Rattle.explain_air.proofs.closing.tell_margins.Goals as goal

pub returns-in_err-tell_margins-clause-stop : goal.returns-in_err-tell_margins-clause-stop
returns-in_err-tell_margins-clause-stop g c =
    let same : c.tell_margins.result ≡ c.from_residual.result = search rules in
    rw (sym same)
    (IfErr-weaker c.tell_margins.result _ _
    (λ f stop cfg events ru du.
    subst (λ (ls : List ExplainLine). StopsSome g.W.LineSink.grew (g.W.LineSink.stopped f) ls c.args.out.now c.tell_margins.new.out) (margins_are cfg events)
    (some_first g.W.LineSink.grew (g.W.LineSink.stopped f) (margins_at Ru cfg.endpoints (dated Ru cfg events)) (margins_at Du cfg.endpoints (dated Du cfg events)) c.args.out.now c.tell_margins.new.out
    (some_line g.W.LineSink.grew (g.W.LineSink.stopped f) _ _ _ (stop Ru cfg events ru)))) c.tell_margins.ensures.stop)

pub returns-clause-heard : goal.returns-clause-heard
returns-clause-heard g c =
    on_ok_weaker c.tell_margins-2.result (λ second cfg events ru du.
    subst (λ (ls : List ExplainLine). g.W.LineSink.grew c.args.out.now ls c.tell_margins-2.new.out) (margins_are cfg events)
    (g.met.W.LineSink.grew_more c.args.out.now c.tell_margins.new.out c.tell_margins-2.new.out _ _ (c.in_ok-tell_margins.ensures.heard Ru cfg events ru) (second Du cfg events du))) c.tell_margins-2.ensures.heard

pub returns-clause-stop : goal.returns-clause-stop
returns-clause-stop g c =
    IfErr-weaker c.tell_margins-2.result _ _ (λ f second cfg events ru du.
    subst (λ (ls : List ExplainLine). StopsSome g.W.LineSink.grew (g.W.LineSink.stopped f) ls c.args.out.now c.tell_margins-2.new.out) (margins_are cfg events)
    (some_second g.W.LineSink.grew (g.W.LineSink.stopped f) g.met.W.LineSink.grew_more _ _ c.args.out.now c.tell_margins.new.out c.tell_margins-2.new.out (c.in_ok-tell_margins.ensures.heard Ru cfg events ru)
    (some_line g.W.LineSink.grew (g.W.LineSink.stopped f) _ _ _ (second Du cfg events du)))) c.tell_margins-2.ensures.stop
