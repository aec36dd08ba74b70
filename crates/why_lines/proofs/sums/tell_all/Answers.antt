-- Endpoint by endpoint.
use Rattle.std.proofs.Common.{List, refl, ap, subst, ◌∙◌, rules}
use Rattle.std.specs.List.{flat_map}
use Rattle.std.proofs.lemmas.List.{take_all}
use Rattle.explain_model.specs.declared.values.ExplainLine.{ExplainLine}
use Rattle.why_lines.specs.Counting.{lines_at}
use Rattle.why_lines.proofs.ReasonTellLemmas.{one_more, stops_there}
use Rattle.why_lines.proofs.sums.tell_all.Goals as goal

pub loop-sums-init : goal.loop-sums-init
loop-sums-init g c = record {
  heard = g.met.W.LineSink.grew_none c.args.out.now;
  same = g.met.W.LineSink.same_none c.args.out.now;
  still = refl;
}

pub loop-sums-preserved : goal.loop-sums-preserved
loop-sums-preserved g c = record {
  heard =
      one_more g.W.LineSink.grew g.met.W.LineSink.grew_more (lines_at c.args.side) c.args.all.now c.loop-sums.sums-index _ c.loop-sums-test.true
      c.args.out.now c.loop-sums.out c.tell_at.new.out c.loop-sums.invariant.heard c.in_ok-tell_at.ensures.heard;
  same = g.met.W.LineSink.same_more _ _ _ c.loop-sums.invariant.same c.in_ok-tell_at.ensures.same;
  still = c.in_ok-tell_at.ensures.cause ∙ c.loop-sums.invariant.still;
}

pub returns-in_err-tell_at-clause-stop : goal.returns-in_err-tell_at-clause-stop
returns-in_err-tell_at-clause-stop g c =
    let stop = stops_there g.W.LineSink.grew g.met.W.LineSink.grew_more (lines_at c.args.side) (g.W.LineSink.stopped c.in_err-tell_at.field-0.0) c.args.all.now c.loop-sums.sums-index _ c.loop-sums-test.true
    c.args.out.now c.loop-sums.out c.tell_at.new.out c.loop-sums.invariant.heard c.in_err-tell_at.ensures.stop in
    search (rules, stop)

pub returns-clause-heard : goal.returns-clause-heard
returns-clause-heard g c =
    subst (λ (ls : List ExplainLine). g.W.LineSink.grew c.args.out.now ls c.loop-sums.out)
    (ap (flat_map (lines_at c.args.side)) (take_all c.loop-sums.sums-index c.args.all.now c.loop-sums-test.false)) c.loop-sums.invariant.heard
