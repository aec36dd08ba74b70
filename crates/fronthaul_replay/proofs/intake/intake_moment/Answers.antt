use Rattle.std.proofs.Common.{refl, inr}
use Rattle.std.proofs.lemmas.Result.{on_ok_weaker}
use Rattle.air_source.specs.declared.events.Side.TheVariants.{Du}
use Rattle.fronthaul_replay.proofs.IntakeStopLemmas.{rests_before}
use Rattle.fronthaul_replay.proofs.LateLemmas.{late_enough}
use Rattle.fronthaul_replay.proofs.UpLemmas.{is_due, landed_up, queue_short, up_is_sent, up_later}
use Rattle.fronthaul_replay.proofs.WayLemmas.{is_read}
use Rattle.fronthaul_replay.specs.IntakeTurns.{heard_before}
use Rattle.fronthaul_replay.specs.Up.{HasSentUp, handed_by, left_at_end}
use Rattle.fronthaul_replay.specs.Waiting.{on_way}
use Rattle.std.specs.Prelude.{length}
use Rattle.fronthaul_replay.proofs.intake.intake_moment.Given.{Over}
use Rattle.fronthaul_replay.proofs.intake.intake_moment.Goals as goal
use Rattle.fronthaul_replay.proofs.intake.intake_moment.Goals.{In_ok-release_all}
use Rattle.unit_moments.proofs.CauseLemmas.{cause_wanted}

-- the radio unit's frames of the tick have left
sent : (g : Over) (c : In_ok-release_all g) → HasSentUp c.args.doc.now c.args.tick.0 c.release_all.new.queue c.release_all.new.way
sent g c =
    let d = c.args.doc.now in
    let tick = c.args.tick.0 in
    let due = is_due d tick c.args.intake.now c.requires.document c.requires.turn c.requires.ended in
    let a = (c.in_ok-answer.ensures.done d tick due c.requires.landed c.requires.waits).answered.frames in
    up_is_sent d tick c.answer.new.answers.queue c.release_all.new.queue c.answer.new.answers.way c.release_all.new.way due a
    (c.in_ok-release_all.ensures.sent (length d.config.endpoints) (handed_by d tick) (on_way d Du a.on_way.sent) a.waiting a.on_way.stands)

pub answer-requires : goal.answer-requires
answer-requires g c = record {
  document = c.args.doc.now;
  tick = c.args.tick.0;
  due = is_due c.args.doc.now c.args.tick.0 c.args.intake.now c.requires.document c.requires.turn c.requires.ended;
  landed = c.requires.landed;
  waits = c.requires.waits;
}

pub release_all-requires-clause-document : goal.release_all-requires-clause-document
release_all-requires-clause-document g c =
    let d = c.args.doc.now in
    let tick = c.args.tick.0 in
    let due = is_due d tick c.args.intake.now c.requires.document c.requires.turn c.requires.ended in
    is_read d Du _ _ c.answer.new.answers.way (c.in_ok-answer.ensures.done d tick due c.requires.landed c.requires.waits).answered.frames.on_way

pub release_all-requires-clause-short : goal.release_all-requires-clause-short
release_all-requires-clause-short g c =
    let d = c.args.doc.now in
    let tick = c.args.tick.0 in
    let due = is_due d tick c.args.intake.now c.requires.document c.requires.turn c.requires.ended in
    queue_short d tick c.answer.new.answers.queue due (c.in_ok-answer.ensures.done d tick due c.requires.landed c.requires.waits).answered.frames.waiting

pub intake_lands-requires-clause-waits : goal.intake_lands-requires-clause-waits
intake_lands-requires-clause-waits g c =
    let d = c.args.doc.now in
    (left_at_end d c.args.tick.0, up_later d c.args.tick.0, (sent g (goal.at.intake_lands-requires-clause-waits g c).In_ok-release_all).on_way)

pub intake_lands-requires-clause-late : goal.intake_lands-requires-clause-late
intake_lands-requires-clause-late g c a more is = late_enough c.args.doc.now Du c.args.tick.0 a more c.requires.document is

pub returns-clause-radio : goal.returns-clause-radio
returns-clause-radio g c =
    let d = c.args.doc.now in
    let tick = c.args.tick.0 in
    let due = is_due d tick c.args.intake.now c.requires.document c.requires.turn c.requires.ended in
    let all = c.in_ok-answer.ensures.done d tick due c.requires.landed c.requires.waits in
    on_ok_weaker c.intake_lands.result (λ turn. all.radio) c.intake_lands.ensures.turn

pub returns-clause-waits : goal.returns-clause-waits
returns-clause-waits g c =
    let d = c.args.doc.now in
    let tick = c.args.tick.0 in
    let due = is_due d tick c.args.intake.now c.requires.document c.requires.turn c.requires.ended in
    let all = c.in_ok-answer.ensures.done d tick due c.requires.landed c.requires.waits in
    let s = sent g (goal.at.returns-clause-waits g c).In_ok-release_all in
    on_ok_weaker c.intake_lands.result
    (λ way. landed_up _ _ d tick c.answer.new.answers.uplink c.answer.new.answers.outbox.frames c.release_all.new.queue c.release_all.new.way c.intake_lands.new.way all.answered.handed s way)
    (c.intake_lands.ensures.waits (left_at_end d tick) (up_later d tick) s.on_way)

pub returns-in_err-answer-clause-wants : goal.returns-in_err-answer-clause-wants
returns-in_err-answer-clause-wants g c wants =
    let earlier = heard_before c.args.doc.now c.args.tick.0 in
    inr (rests_before (g.A.ListeningAir.grew c.args.doc.now.config earlier) c.args.doc.now c.args.tick.0 c.args.intake.now c.args.out.now c.requires.turn
    (g.met.A.ListeningAir.grew_none c.args.doc.now.config earlier c.args.out.now))

pub returns-in_err-release_all-clause-wants : goal.returns-in_err-release_all-clause-wants
returns-in_err-release_all-clause-wants g c wants =
    let earlier = heard_before c.args.doc.now c.args.tick.0 in
    inr (rests_before (g.A.ListeningAir.grew c.args.doc.now.config earlier) c.args.doc.now c.args.tick.0 c.args.intake.now c.args.out.now c.requires.turn
    (g.met.A.ListeningAir.grew_none c.args.doc.now.config earlier c.args.out.now))

pub returns-in_err-answer-clause-cause : goal.returns-in_err-answer-clause-cause
returns-in_err-answer-clause-cause g c = cause_wanted (g.A.ListeningAir.faults c.args.out.now) (g.A.ListeningAir.faults c.args.out.now) c.from_residual.result c.from_residual.ensures.1 refl

pub returns-in_err-release_all-clause-cause : goal.returns-in_err-release_all-clause-cause
returns-in_err-release_all-clause-cause g c = cause_wanted (g.A.ListeningAir.faults c.args.out.now) (g.A.ListeningAir.faults c.args.out.now) c.from_residual-in_err-release_all.result c.from_residual-in_err-release_all.ensures.1 refl
