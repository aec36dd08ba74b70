-- Endpoint by endpoint.
use Rattle.std.proofs.Common.{rules, refl, subst, ◌∙◌}
use Rattle.std.proofs.lemmas.List.{take_all}
use Rattle.explain_units.specs.MarginLines.{class_said, margin_said}
use Rattle.explain_units.proofs.TellLemmas.{each_stop, each_told}
use Rattle.explain_units.proofs.margins.tell_class.Goals as goal

pub loop-margins-init : goal.loop-margins-init
loop-margins-init g c = record {
  told = g.met.W.LineSink.grew_none c.args.out.now;
  same = g.met.W.LineSink.same_none c.args.out.now;
  still = refl;
}

pub loop-margins-preserved : goal.loop-margins-preserved
loop-margins-preserved g c = record {
  told =
      each_told g.W.LineSink.grew g.met.W.LineSink.grew_more (margin_said c.args.side c.args.class) c.args.all.now c.loop-margins.margins-index _
      c.args.out.now c.loop-margins.out c.tell_margin.new.out c.loop-margins-test.true c.loop-margins.invariant.told c.in_ok-tell_margin.ensures.told;
  same = g.met.W.LineSink.same_more _ _ _ c.loop-margins.invariant.same c.in_ok-tell_margin.ensures.same;
  still = c.in_ok-tell_margin.ensures.cause ∙ c.loop-margins.invariant.still;
}

pub returns-in_err-tell_margin-clause-stop : goal.returns-in_err-tell_margin-clause-stop
returns-in_err-tell_margin-clause-stop g c =
    let stop =
    each_stop g.W.LineSink.grew g.met.W.LineSink.grew_more (g.W.LineSink.stopped c.in_err-tell_margin.field-0.0) (margin_said c.args.side c.args.class) c.args.all.now c.loop-margins.margins-index _
    c.args.out.now c.loop-margins.out c.tell_margin.new.out c.loop-margins-test.true c.loop-margins.invariant.told c.in_err-tell_margin.ensures.stop in
    search (rules, stop)

pub returns-clause-told : goal.returns-clause-told
returns-clause-told g c =
    subst (λ xs. g.W.LineSink.grew c.args.out.now (class_said c.args.side c.args.class xs) c.loop-margins.out) (take_all c.loop-margins.margins-index c.args.all.now c.loop-margins-test.false) c.loop-margins.invariant.told
