-- One after the other.
use Rattle.std.proofs.Common.{rules, List, refl, ap, subst, ◌∙◌}
use Rattle.std.specs.List.{flat_map}
use Rattle.explain_air.proofs.FirstLemmas.{one_of, ones_are}
use Rattle.explain_model.specs.declared.values.ExplainLine.{ExplainLine}
use Rattle.explain_model.specs.declared.values.ExplainLine.TheVariants as line
use Rattle.explain_records.proofs.NearestLemmas.{take_all}
use Rattle.explain_heard.specs.Stops.{StopsInLine}
use Rattle.why_lines.proofs.TellLemmas.{grew_next, stops_next}
use Rattle.explain_units.proofs.StopLemmas.{in_one}
use Rattle.explain_air.proofs.first.tell_endpoints.Goals as goal

pub loop-endpoint-init : goal.loop-endpoint-init
loop-endpoint-init g c = record {
  heard = g.met.W.LineSink.grew_none c.args.out.now;
  same = g.met.W.LineSink.same_none c.args.out.now;
  still = refl;
}

pub loop-endpoint-preserved : goal.loop-endpoint-preserved
loop-endpoint-preserved g c = record {
  heard =
      grew_next g.W.LineSink.grew g.met.W.LineSink.grew_more (one_of line.Endpoint) c.args.endpoints.now c.loop-endpoint.endpoint-index c.endpoint-item.result
      c.loop-endpoint-test.true c.endpoint-item.is c.args.out.now c.loop-endpoint.out c.put.new.self c.loop-endpoint.invariant.heard c.in_ok-put.ensures.heard;
  same = g.met.W.LineSink.same_more _ _ _ c.loop-endpoint.invariant.same c.in_ok-put.ensures.same;
  still = c.in_ok-put.ensures.cause ∙ c.loop-endpoint.invariant.still;
}

pub returns-in_err-put-clause-stop : goal.returns-in_err-put-clause-stop
returns-in_err-put-clause-stop g c =
    let stop =
    subst (λ (ls : List ExplainLine). StopsInLine g.W.LineSink.grew (g.W.LineSink.stopped c.in_err-put.field-0.0) ls c.args.out.now c.put.new.self) (ones_are line.Endpoint c.args.endpoints.now)
    (stops_next g.W.LineSink.grew g.met.W.LineSink.grew_more (one_of line.Endpoint) (g.W.LineSink.stopped c.in_err-put.field-0.0) c.args.endpoints.now
    c.loop-endpoint.endpoint-index c.endpoint-item.result c.loop-endpoint-test.true c.endpoint-item.is c.args.out.now c.loop-endpoint.out c.put.new.self c.loop-endpoint.invariant.heard
    (in_one g.W.LineSink.grew (g.W.LineSink.stopped c.in_err-put.field-0.0) g.met.W.LineSink.grew_none _ c.loop-endpoint.out c.put.new.self c.in_err-put.ensures.stop)) in
    search (rules, stop)

pub returns-clause-heard : goal.returns-clause-heard
returns-clause-heard g c =
    subst (λ (ls : List ExplainLine). g.W.LineSink.grew c.args.out.now ls c.loop-endpoint.out)
    (ap (flat_map (one_of line.Endpoint)) (take_all c.args.endpoints.now c.loop-endpoint.endpoint-index c.loop-endpoint-test.false) ∙ ones_are line.Endpoint c.args.endpoints.now) c.loop-endpoint.invariant.heard
