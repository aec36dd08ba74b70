-- The windows, and then the endpoints.
use Rattle.std.proofs.Common.{rules, List, subst}
use Rattle.std.proofs.lemmas.Result.{IfErr-weaker, on_ok_weaker}
use Rattle.explain_model.specs.declared.values.ExplainLine.{ExplainLine}
use Rattle.explain_model.specs.Text.{endpoint_lines, window_lines}
use Rattle.explain_units.proofs.StopLemmas.{in_before}
use Rattle.explain_heard.specs.Stops.{StopsInLine}
use Rattle.why_lines.proofs.TellLemmas.{stops_last}
use Rattle.window_config.specs.declared.endpoints.EndpointConfig.{EndpointConfig}
use Rattle.explain_air.proofs.first.tell_first.Goals as goal

pub returns-clause-heard : goal.returns-clause-heard
returns-clause-heard g c =
    on_ok_weaker c.tell_endpoints.result
    (λ h.
    g.met.W.LineSink.grew_more c.args.out.now c.tell_lines.new.out c.tell_endpoints.new.out (window_lines c.args.config.now.delays) (endpoint_lines c.args.config.now.endpoints)
    (subst (λ (ls : List ExplainLine). g.W.LineSink.grew c.args.out.now ls c.tell_lines.new.out) c.window_lines.ensures c.in_ok-tell_lines.ensures.heard)
    (subst (λ (es : List EndpointConfig). g.W.LineSink.grew c.tell_lines.new.out (endpoint_lines es) c.tell_endpoints.new.out) c.as_slice.ensures.items h))
    c.tell_endpoints.ensures.heard

pub returns-clause-stop : goal.returns-clause-stop
returns-clause-stop g c =
    IfErr-weaker c.tell_endpoints.result _ _
    (λ f h.
    stops_last g.W.LineSink.grew g.met.W.LineSink.grew_more (g.W.LineSink.stopped f) c.args.out.now c.tell_lines.new.out c.tell_endpoints.new.out
    (window_lines c.args.config.now.delays) (endpoint_lines c.args.config.now.endpoints)
    (subst (λ (ls : List ExplainLine). g.W.LineSink.grew c.args.out.now ls c.tell_lines.new.out) c.window_lines.ensures c.in_ok-tell_lines.ensures.heard)
    (subst (λ (es : List EndpointConfig). StopsInLine g.W.LineSink.grew (g.W.LineSink.stopped f) (endpoint_lines es) c.tell_lines.new.out c.tell_endpoints.new.out) c.as_slice.ensures.items h))
    c.tell_endpoints.ensures.stop

pub returns-in_err-tell_lines-clause-stop : goal.returns-in_err-tell_lines-clause-stop
returns-in_err-tell_lines-clause-stop g c =
    let stop =
    in_before g.W.LineSink.grew (g.W.LineSink.stopped c.in_err-tell_lines.field-0.0) (window_lines c.args.config.now.delays) (endpoint_lines c.args.config.now.endpoints) c.args.out.now c.tell_lines.new.out
    (subst (λ (ls : List ExplainLine). StopsInLine g.W.LineSink.grew (g.W.LineSink.stopped c.in_err-tell_lines.field-0.0) ls c.args.out.now c.tell_lines.new.out) c.window_lines.ensures c.in_err-tell_lines.ensures.stop) in
    search (rules, stop)
