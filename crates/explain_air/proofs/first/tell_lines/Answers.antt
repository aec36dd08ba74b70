-- One after the other.
use Rattle.std.proofs.Common.{rules, List, refl, ap, subst, ◌∙◌}
use Rattle.std.specs.List.{flat_map}
use Rattle.explain_air.proofs.FirstLemmas.{all_itself, itself, one_of}
use Rattle.explain_model.specs.declared.values.ExplainLine.{ExplainLine}
use Rattle.explain_records.proofs.NearestLemmas.{take_all}
use Rattle.explain_heard.specs.Stops.{StopsInLine}
use Rattle.why_lines.proofs.TellLemmas.{grew_next, stops_next}
use Rattle.explain_units.proofs.StopLemmas.{in_one}
use Rattle.explain_air.proofs.first.tell_lines.Goals as goal

pub loop-line-init : goal.loop-line-init
loop-line-init g c = record {
  heard = g.met.W.LineSink.grew_none c.args.out.now;
  same = g.met.W.LineSink.same_none c.args.out.now;
  still = refl;
}

pub loop-line-preserved : goal.loop-line-preserved
loop-line-preserved g c = record {
  heard =
      grew_next g.W.LineSink.grew g.met.W.LineSink.grew_more (one_of itself) c.args.lines.now c.loop-line.line-index c.line-item.result
      c.loop-line-test.true c.line-item.is c.args.out.now c.loop-line.out c.put.new.self c.loop-line.invariant.heard c.in_ok-put.ensures.heard;
  same = g.met.W.LineSink.same_more _ _ _ c.loop-line.invariant.same c.in_ok-put.ensures.same;
  still = c.in_ok-put.ensures.cause ∙ c.loop-line.invariant.still;
}

pub returns-in_err-put-clause-stop : goal.returns-in_err-put-clause-stop
returns-in_err-put-clause-stop g c =
    let stop =
    subst (λ (ls : List ExplainLine). StopsInLine g.W.LineSink.grew (g.W.LineSink.stopped c.in_err-put.field-0.0) ls c.args.out.now c.put.new.self) (all_itself c.args.lines.now)
    (stops_next g.W.LineSink.grew g.met.W.LineSink.grew_more (one_of itself) (g.W.LineSink.stopped c.in_err-put.field-0.0) c.args.lines.now
    c.loop-line.line-index c.line-item.result c.loop-line-test.true c.line-item.is c.args.out.now c.loop-line.out c.put.new.self c.loop-line.invariant.heard
    (in_one g.W.LineSink.grew (g.W.LineSink.stopped c.in_err-put.field-0.0) g.met.W.LineSink.grew_none _ c.loop-line.out c.put.new.self c.in_err-put.ensures.stop)) in
    search (rules, stop)

pub returns-clause-heard : goal.returns-clause-heard
returns-clause-heard g c =
    subst (λ (ls : List ExplainLine). g.W.LineSink.grew c.args.out.now ls c.loop-line.out)
    (ap (flat_map (one_of itself)) (take_all c.args.lines.now c.loop-line.line-index c.loop-line-test.false) ∙ all_itself c.args.lines.now) c.loop-line.invariant.heard
