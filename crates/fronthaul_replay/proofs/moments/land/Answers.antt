use Rattle.std.proofs.Common.{rules, ◌≡◌, ◌++◌, ◌∙◌, refl}
use Rattle.std.proofs.lemmas.Result.{IfErr-at_err, on_ok_weaker}
use Rattle.air_source.specs.declared.airs.AirFault.TheVariants.{Failed, NoMemory}
use Rattle.fronthaul_replay.specs.BoxTurns.{events_before, radio_events}
use Rattle.fronthaul_replay.proofs.StopLemmas.{halts_intake, halts_radio, heard_both, stops_intake, stops_radio}
use Rattle.air_source.proofs.Causes.{air_cause_since}
use Rattle.fronthaul_replay.proofs.moments.land.Goals as goal
use Rattle.unit_moments.proofs.StopLemmas.{follows_heard}
use Rattle.unit_moments.proofs.CauseLemmas.{cause_passed}

pub returns-in_err-radio_moment-clause-stop : goal.returns-in_err-radio_moment-clause-stop
returns-in_err-radio_moment-clause-stop g c failed =
    let same : c.radio_moment.result ≡ c.from_residual.result = search rules in
    stops_radio (g.A.ListeningAir.grew c.args.doc.now.config (events_before c.args.doc.now c.args.tick.0)) (g.A.ListeningAir.stopped Failed) c.args.doc.now c.args.tick.0 c.radio_moment.new.ru c.args.intake.now c.args.out.now c.radio_moment.new.out c.requires.begun.turn.intake
    (c.radio_moment.ensures.stop (same ∙ failed))

pub returns-in_err-radio_moment-clause-wants : goal.returns-in_err-radio_moment-clause-wants
returns-in_err-radio_moment-clause-wants g c wants =
    let same : c.radio_moment.result ≡ c.from_residual.result = search rules in
    halts_radio (g.A.ListeningAir.grew c.args.doc.now.config (events_before c.args.doc.now c.args.tick.0)) (g.A.ListeningAir.stopped NoMemory) c.args.doc.now c.args.tick.0 c.radio_moment.new.ru c.args.intake.now c.args.out.now c.radio_moment.new.out c.requires.begun.turn.intake
    (c.radio_moment.ensures.wants (same ∙ wants))

pub returns-clause-heard : goal.returns-clause-heard
returns-clause-heard g c =
    let d = c.args.doc.now in
    let tick = c.args.tick.0 in
    let earlier = events_before d tick in
    let grew = g.A.ListeningAir.grew d.config in
    on_ok_weaker c.intake_moment.result (λ last.
    heard_both (grew earlier) (grew (earlier ++ radio_events d tick)) d tick c.args.out.now c.radio_moment.new.out c.intake_moment.new.out
    (follows_heard g.A.ListeningAir.grew g.met.A.ListeningAir.grew_more d.config earlier (radio_events d tick) c.args.out.now c.radio_moment.new.out c.in_ok-radio_moment.ensures.heard) last)
    c.intake_moment.ensures.heard

pub returns-clause-stop : goal.returns-clause-stop
returns-clause-stop g c failed =
    let d = c.args.doc.now in
    let tick = c.args.tick.0 in
    let earlier = events_before d tick in
    let grew = g.A.ListeningAir.grew d.config in
    stops_intake (grew earlier) (g.A.ListeningAir.stopped Failed) (grew (earlier ++ radio_events d tick)) d tick c.intake_moment.new.ru c.intake_moment.new.intake
    c.args.out.now c.radio_moment.new.out c.intake_moment.new.out
    (follows_heard g.A.ListeningAir.grew g.met.A.ListeningAir.grew_more d.config earlier (radio_events d tick) c.args.out.now c.radio_moment.new.out c.in_ok-radio_moment.ensures.heard) (IfErr-at_err _ failed c.intake_moment.ensures.stays)
    (c.intake_moment.ensures.stop failed)

pub returns-clause-wants : goal.returns-clause-wants
returns-clause-wants g c wants =
    let d = c.args.doc.now in
    let tick = c.args.tick.0 in
    let earlier = events_before d tick in
    let grew = g.A.ListeningAir.grew d.config in
    halts_intake (grew earlier) (g.A.ListeningAir.stopped NoMemory) (grew (earlier ++ radio_events d tick)) d tick c.intake_moment.new.ru c.intake_moment.new.intake
    c.args.out.now c.radio_moment.new.out c.intake_moment.new.out
    (follows_heard g.A.ListeningAir.grew g.met.A.ListeningAir.grew_more d.config earlier (radio_events d tick) c.args.out.now c.radio_moment.new.out c.in_ok-radio_moment.ensures.heard) (IfErr-at_err _ wants c.intake_moment.ensures.stays)
    (c.intake_moment.ensures.wants wants)

pub returns-clause-same : goal.returns-clause-same
returns-clause-same g c = g.met.A.ListeningAir.same_more c.args.out.now c.radio_moment.new.out c.intake_moment.new.out c.radio_moment.ensures.same c.intake_moment.ensures.same

pub returns-in_err-radio_moment-clause-cause : goal.returns-in_err-radio_moment-clause-cause
returns-in_err-radio_moment-clause-cause g c =
    let same : c.radio_moment.result ≡ c.from_residual.result = search rules in
    cause_passed (g.A.ListeningAir.faults c.args.out.now) (g.A.ListeningAir.faults c.args.out.now) (g.A.ListeningAir.faults c.radio_moment.new.out) c.radio_moment.result c.from_residual.result same refl c.radio_moment.ensures.cause

pub returns-clause-cause : goal.returns-clause-cause
returns-clause-cause g c =
    air_cause_since (g.A.ListeningAir.faults c.args.out.now) (g.A.ListeningAir.faults c.radio_moment.new.out) (g.A.ListeningAir.faults c.intake_moment.new.out) c.intake_moment.result
    c.in_ok-radio_moment.ensures.cause c.intake_moment.ensures.cause
