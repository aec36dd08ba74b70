-- Part by part.
use Rattle.std.proofs.Common.{rules, ◌≡◌, refl, sym, subst, ◌∙◌}
use Rattle.std.proofs.lemmas.List.{take_all}
use Rattle.explain_units.specs.Known.{after_all, all_said}
use Rattle.explain_units.specs.Knowing.{known_of}
use Rattle.explain_units.proofs.KnownLemmas.{after_none}
use Rattle.explain_units.proofs.TellLemmas.{known_next, stop_next, told_next, told_none}
use Rattle.explain_units.proofs.telling.tell_judged.Goals as goal

pub loop-part-init : goal.loop-part-init
loop-part-init g c = record {
  known = sym (after_none c.args.number (known_of c.args.earlier.now));
  told = told_none g.W.LineSink.grew g.met.W.LineSink.grew_none c.args.number (known_of c.args.earlier.now) c.args.out.now;
  same = g.met.W.LineSink.same_none c.args.out.now;
  still = refl;
}

pub loop-part-preserved : goal.loop-part-preserved
loop-part-preserved g c = record {
  known =
      known_next c.args.number c.args.judged.now c.loop-part.part-index c.part-item.result (known_of c.args.earlier.now) (known_of c.loop-part.earlier) (known_of c.tell_one.new.earlier)
      c.loop-part-test.true c.part-item.is c.loop-part.invariant.known c.in_ok-tell_one.ensures.known;
  told =
      told_next g.W.LineSink.grew g.met.W.LineSink.grew_more c.args.number c.args.judged.now c.loop-part.part-index c.part-item.result (known_of c.args.earlier.now) (known_of c.loop-part.earlier)
      c.args.out.now c.loop-part.out c.tell_one.new.out c.loop-part-test.true c.part-item.is c.loop-part.invariant.known c.loop-part.invariant.told c.in_ok-tell_one.ensures.told;
  same = g.met.W.LineSink.same_more _ _ _ c.loop-part.invariant.same c.in_ok-tell_one.ensures.same;
  still = c.in_ok-tell_one.ensures.cause ∙ c.loop-part.invariant.still;
}

pub returns-in_err-tell_one-clause-stop : goal.returns-in_err-tell_one-clause-stop
returns-in_err-tell_one-clause-stop g c =
    let stop =
    stop_next g.W.LineSink.grew g.met.W.LineSink.grew_more (g.W.LineSink.stopped c.in_err-tell_one.field-0.0) c.args.number c.args.judged.now c.loop-part.part-index c.part-item.result (known_of c.args.earlier.now)
    (known_of c.loop-part.earlier) c.args.out.now c.loop-part.out c.tell_one.new.out c.loop-part-test.true c.part-item.is c.loop-part.invariant.known c.loop-part.invariant.told c.in_err-tell_one.ensures.stop in
    search (rules, stop)

pub returns-clause-known : goal.returns-clause-known
returns-clause-known g c =
    subst (λ xs. known_of c.loop-part.earlier ≡ after_all c.args.number xs (known_of c.args.earlier.now)) (take_all c.loop-part.part-index c.args.judged.now c.loop-part-test.false) c.loop-part.invariant.known

pub returns-clause-told : goal.returns-clause-told
returns-clause-told g c =
    subst (λ xs. g.W.LineSink.grew c.args.out.now (all_said c.args.number xs (known_of c.args.earlier.now)) c.loop-part.out) (take_all c.loop-part.part-index c.args.judged.now c.loop-part-test.false) c.loop-part.invariant.told
