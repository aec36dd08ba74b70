use Rattle.std.proofs.Common.{rules, ◌≡◌, ℤ, pos, ◌+ℤ◌, List, [], refl, sym, subst, ◌∙◌}
use Rattle.air_source.specs.declared.airs.AirFault.TheVariants.{Failed, NoMemory}
use Rattle.air_source.specs.declared.events.Event.{Event}
use Rattle.fronthaul_replay.specs.BoxTurns.{events_before}
use Rattle.fronthaul_replay.proofs.DownLemmas.{plan_of}
use Rattle.fronthaul_replay.proofs.TurnLemmas.{events_none}
use Rattle.replay_laws.specs.Moments.{end_of_time}
use Rattle.fronthaul_replay.specs.Turns.{AtMoment}
use Rattle.fronthaul_replay.proofs.NextLemmas.{end_comes, gap_less, heard_next, heard_there, in_order, moment_comes}
use Rattle.fronthaul_replay.proofs.StepLemmas.{InStep}
use Rattle.fronthaul_replay.proofs.StopLemmas.{halts_whole, stops_whole}
use Rattle.fronthaul_replay.proofs.moments.pass.Goals as goal
use Rattle.unit_moments.proofs.StopLemmas.{follows_heard}
use Rattle.unit_moments.proofs.CauseLemmas.{cause_passed}

pub loop-tick-init : goal.loop-tick-init
loop-tick-init g c = record {
  at = c.requires.moment;
  heard = subst (λ (es : List Event). g.A.ListeningAir.grew c.args.doc.now.config [] c.args.out.now es c.args.out.now) (sym (events_none c.args.doc.now))
      (g.met.A.ListeningAir.grew_none c.args.doc.now.config [] c.args.out.now);
  same = g.met.A.ListeningAir.same_none c.args.out.now;
  still = refl;
}

pub next_moment-requires : goal.next_moment-requires
next_moment-requires g c = plan_of c.args.doc.now c.loop-tick.now.0 c.loop-tick.coming.downlink.plan c.loop-tick.coming.downlink.way c.loop-tick.invariant.at.waits.down

pub prove-unreachable-requires : goal.prove-unreachable-requires
prove-unreachable-requires g c =
    let d = c.args.doc.now in
    let old = c.loop-tick.invariant in
    let tick = c.in-Some.tick in
    let m = c.in-Some.ensures d c.loop-tick.now.0 old.at in
    let n = moment_comes d c.loop-tick.now.0 c.loop-tick.ru c.loop-tick.intake c.loop-tick.coming c.loop-tick.meters c.requires.document old.at tick m in
    in_order c.loop-tick.now.0 tick.0 c.is_up_to-in_order.result n.next.order c.is_up_to-in_order.ensures c.if-prove.true

pub tick_after-now-requires : goal.tick_after-now-requires
tick_after-now-requires g c =
    let d = c.args.doc.now in
    let old = c.loop-tick.invariant in
    let tick = c.in-Some.tick in
    let m = c.in-Some.ensures d c.loop-tick.now.0 old.at in
    m.ended

pub moment-requires-clause-moment : goal.moment-requires-clause-moment
moment-requires-clause-moment g c =
    let d = c.args.doc.now in
    let old = c.loop-tick.invariant in
    let tick = c.in-Some.tick in
    let m = c.in-Some.ensures d c.loop-tick.now.0 old.at in
    let n = moment_comes d c.loop-tick.now.0 c.loop-tick.ru c.loop-tick.intake c.loop-tick.coming c.loop-tick.meters c.requires.document old.at tick m in
    n.moment

pub moment-requires-clause-ended : goal.moment-requires-clause-ended
moment-requires-clause-ended g c =
    let d = c.args.doc.now in
    let old = c.loop-tick.invariant in
    let tick = c.in-Some.tick in
    let m = c.in-Some.ensures d c.loop-tick.now.0 old.at in
    m.ended

pub loop-tick-smaller : goal.loop-tick-smaller
loop-tick-smaller g c =
    let d = c.args.doc.now in
    let old = c.loop-tick.invariant in
    let tick = c.in-Some.tick in
    let m = c.in-Some.ensures d c.loop-tick.now.0 old.at in
    let n = moment_comes d c.loop-tick.now.0 c.loop-tick.ru c.loop-tick.intake c.loop-tick.coming c.loop-tick.meters c.requires.document old.at tick m in
    gap_less c.loop-tick.now.0 tick.0 c.tick_after-now.result.0 n.next.order m.ended c.tick_after-now.ensures

pub loop-tick-preserved : goal.loop-tick-preserved
loop-tick-preserved g c =
    let d = c.args.doc.now in
    let old = c.loop-tick.invariant in
    let tick = c.in-Some.tick in
    let m = c.in-Some.ensures d c.loop-tick.now.0 old.at in
    let n = moment_comes d c.loop-tick.now.0 c.loop-tick.ru c.loop-tick.intake c.loop-tick.coming c.loop-tick.meters c.requires.document old.at tick m in
    let told = c.in_ok-moment.ensures in
    let next = sym c.tick_after-now.ensures in
    let there = heard_there (g.A.ListeningAir.grew d.config []) d c.loop-tick.now.0 tick.0 c.args.out.now c.loop-tick.out n.next old.heard in
    record {
      at = subst (λ (t : ℤ). AtMoment (goal.G-pre g) (goal.G-post g) d t c.moment.new.ru c.moment.new.intake c.moment.new.coming c.moment.new.meters)
          next told.moment;
      heard = subst (λ (t : ℤ). g.A.ListeningAir.grew d.config [] c.args.out.now (events_before d t) c.moment.new.out) next
          (heard_next (g.A.ListeningAir.grew d.config []) (g.A.ListeningAir.grew d.config (events_before d tick.0)) d tick.0 c.args.out.now c.loop-tick.out c.moment.new.out
          n.moment.turn.radio.turn.begun
          (follows_heard g.A.ListeningAir.grew g.met.A.ListeningAir.grew_more d.config [] (events_before d tick.0) c.args.out.now c.loop-tick.out there) told.heard);
      same = g.met.A.ListeningAir.same_more _ _ _ old.same told.same;
      still = told.cause ∙ old.still;
    }

pub returns-in_err-moment-clause-stop : goal.returns-in_err-moment-clause-stop
returns-in_err-moment-clause-stop g c failed =
    let same : c.moment.result ≡ c.from_residual.result = search rules in
    let d = c.args.doc.now in
    let old = c.loop-tick.invariant in
    let tick = c.in-Some.tick in
    let m = c.in-Some.ensures d c.loop-tick.now.0 old.at in
    let n = moment_comes d c.loop-tick.now.0 c.loop-tick.ru c.loop-tick.intake c.loop-tick.coming c.loop-tick.meters c.requires.document old.at tick m in
    stops_whole (g.A.ListeningAir.grew d.config []) (g.A.ListeningAir.stopped Failed) (g.A.ListeningAir.grew d.config (events_before d tick.0)) (InStep d c.moment.new.ru c.moment.new.intake) d tick.0 c.args.out.now c.loop-tick.out c.moment.new.out
    n.moment.turn.radio.turn.begun m.ended
    (follows_heard g.A.ListeningAir.grew g.met.A.ListeningAir.grew_more d.config [] (events_before d tick.0) c.args.out.now c.loop-tick.out
    (heard_there (g.A.ListeningAir.grew d.config []) d c.loop-tick.now.0 tick.0 c.args.out.now c.loop-tick.out n.next old.heard)) (c.moment.ensures.stop (same ∙ failed))

pub returns-in_err-moment-clause-wants : goal.returns-in_err-moment-clause-wants
returns-in_err-moment-clause-wants g c wants =
    let same : c.moment.result ≡ c.from_residual.result = search rules in
    let d = c.args.doc.now in
    let old = c.loop-tick.invariant in
    let tick = c.in-Some.tick in
    let m = c.in-Some.ensures d c.loop-tick.now.0 old.at in
    let n = moment_comes d c.loop-tick.now.0 c.loop-tick.ru c.loop-tick.intake c.loop-tick.coming c.loop-tick.meters c.requires.document old.at tick m in
    halts_whole (g.A.ListeningAir.grew d.config []) (g.A.ListeningAir.stopped NoMemory) (g.A.ListeningAir.grew d.config (events_before d tick.0)) (InStep d c.moment.new.ru c.moment.new.intake) d tick.0 c.args.out.now c.loop-tick.out c.moment.new.out
    n.moment.turn.radio.turn.begun m.ended
    (follows_heard g.A.ListeningAir.grew g.met.A.ListeningAir.grew_more d.config [] (events_before d tick.0) c.args.out.now c.loop-tick.out
    (heard_there (g.A.ListeningAir.grew d.config []) d c.loop-tick.now.0 tick.0 c.args.out.now c.loop-tick.out n.next old.heard)) (c.moment.ensures.wants (same ∙ wants))

pub returns-clause-heard : goal.returns-clause-heard
returns-clause-heard g c =
    let d = c.args.doc.now in
    let old = c.loop-tick.invariant in
    let still = c.in_default.ensures d c.loop-tick.now.0 old.at in
    let n = end_comes d c.loop-tick.now.0 c.loop-tick.ru c.loop-tick.intake c.loop-tick.coming c.loop-tick.meters c.requires.document old.at still in
    heard_there (g.A.ListeningAir.grew d.config []) d c.loop-tick.now.0 (end_of_time +ℤ pos 1) c.args.out.now c.loop-tick.out n.next old.heard

pub returns-clause-over : goal.returns-clause-over
returns-clause-over g c =
    let d = c.args.doc.now in
    let old = c.loop-tick.invariant in
    let still = c.in_default.ensures d c.loop-tick.now.0 old.at in
    let n = end_comes d c.loop-tick.now.0 c.loop-tick.ru c.loop-tick.intake c.loop-tick.coming c.loop-tick.meters c.requires.document old.at still in
    n.moment.turn

pub returns-clause-measured : goal.returns-clause-measured
returns-clause-measured g c =
    let d = c.args.doc.now in
    let old = c.loop-tick.invariant in
    let still = c.in_default.ensures d c.loop-tick.now.0 old.at in
    let n = end_comes d c.loop-tick.now.0 c.loop-tick.ru c.loop-tick.intake c.loop-tick.coming c.loop-tick.meters c.requires.document old.at still in
    n.moment.measures

pub returns-in_err-moment-clause-cause : goal.returns-in_err-moment-clause-cause
returns-in_err-moment-clause-cause g c =
    let same : c.moment.result ≡ c.from_residual.result = search rules in
    cause_passed (g.A.ListeningAir.faults c.args.out.now) (g.A.ListeningAir.faults c.loop-tick.out) (g.A.ListeningAir.faults c.moment.new.out) c.moment.result c.from_residual.result same c.loop-tick.invariant.still c.moment.ensures.cause

pub returns-in_err-moment-clause-same : goal.returns-in_err-moment-clause-same
returns-in_err-moment-clause-same g c = g.met.A.ListeningAir.same_more c.args.out.now c.loop-tick.out c.moment.new.out c.loop-tick.invariant.same c.moment.ensures.same
