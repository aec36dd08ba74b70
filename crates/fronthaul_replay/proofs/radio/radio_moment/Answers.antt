use Rattle.std.proofs.Common.{refl, inr}
use Rattle.std.proofs.lemmas.Result.{on_ok_weaker}
use Rattle.air_source.specs.declared.events.Side.TheVariants.{Ru}
use Rattle.air_source.specs.Tones.{tone_of}
use Rattle.fronthaul_replay.proofs.DownLemmas.{down_later, has_sent, landed_down, may_send}
use Rattle.fronthaul_replay.proofs.LateLemmas.{late_enough}
use Rattle.fronthaul_replay.proofs.BoxSteps.{radio_rests}
use Rattle.fronthaul_replay.proofs.WayLemmas.{is_read}
use Rattle.fronthaul_replay.specs.BoxTurns.{events_before}
use Rattle.fronthaul_replay.specs.Down.{HasSentDown, left_down}
use Rattle.fronthaul_replay.specs.Waiting.{on_way}
use Rattle.fronthaul_replay.proofs.radio.radio_moment.Given.{Over}
use Rattle.fronthaul_replay.proofs.radio.radio_moment.Goals as goal
use Rattle.fronthaul_replay.proofs.radio.radio_moment.Goals.{In_ok-send_due}
use Rattle.unit_moments.proofs.CauseLemmas.{cause_wanted}

-- the plan's frames of the tick have left
sent : (g : Over) (c : In_ok-send_due g) → HasSentDown c.args.doc.now c.args.tick.0 c.send_due.new.plan c.send_due.new.way
sent g c =
    let d = c.args.doc.now in
    let w = c.requires.waits in
    has_sent d c.args.tick.0 c.args.downlink.now.plan c.send_due.new.plan c.args.downlink.now.way c.send_due.new.way w c.requires.ended
    (c.in_ok-send_due.ensures.sent d.config d.plan w.left (tone_of d.source) (on_way d Ru w.way.sent)
    (may_send _ d c.args.tick.0 c.args.downlink.now.plan c.args.downlink.now.way c.requires.document c.requires.tone w) w.later w.way.stands)

pub send_due-requires-clause-document : goal.send_due-requires-clause-document
send_due-requires-clause-document g c = is_read c.args.doc.now Ru _ _ c.args.downlink.now.way c.requires.waits.way

pub send_due-requires-clause-some : goal.send_due-requires-clause-some
send_due-requires-clause-some g c =
    let d = c.args.doc.now in
    let w = c.requires.waits in
    (d.config, d.plan, w.left, tone_of d.source, may_send _ d c.args.tick.0 c.args.downlink.now.plan c.args.downlink.now.way c.requires.document c.requires.tone w)

pub radio_lands-requires-clause-waits : goal.radio_lands-requires-clause-waits
radio_lands-requires-clause-waits g c =
    let d = c.args.doc.now in
    let s = sent g (goal.at.radio_lands-requires-clause-waits g c).In_ok-send_due in
    (left_down d s.left c.args.tick.0, down_later d c.args.tick.0 c.send_due.new.plan c.send_due.new.way s, s.way)

pub radio_lands-requires-clause-late : goal.radio_lands-requires-clause-late
radio_lands-requires-clause-late g c a more is = late_enough c.args.doc.now Ru c.args.tick.0 a more c.requires.document is

pub returns-clause-waits : goal.returns-clause-waits
returns-clause-waits g c =
    let d = c.args.doc.now in
    let tick = c.args.tick.0 in
    let s = sent g (goal.at.returns-clause-waits g c).In_ok-send_due in
    on_ok_weaker c.radio_lands.result
    (λ way. landed_down d tick c.send_due.new.plan c.send_due.new.way c.radio_lands.new.way s way)
    (c.radio_lands.ensures.waits (left_down d s.left tick) (down_later d tick c.send_due.new.plan c.send_due.new.way s) s.way)

pub returns-in_err-send_due-clause-wants : goal.returns-in_err-send_due-clause-wants
returns-in_err-send_due-clause-wants g c wants =
    let earlier = events_before c.args.doc.now c.args.tick.0 in
    inr (radio_rests (g.A.ListeningAir.grew c.args.doc.now.config earlier) c.args.doc.now c.args.tick.0 c.args.ru.now c.args.out.now c.requires.turn
    (g.met.A.ListeningAir.grew_none c.args.doc.now.config earlier c.args.out.now))

pub returns-in_err-send_due-clause-cause : goal.returns-in_err-send_due-clause-cause
returns-in_err-send_due-clause-cause g c = cause_wanted (g.A.ListeningAir.faults c.args.out.now) (g.A.ListeningAir.faults c.args.out.now) c.from_residual.result c.from_residual.ensures.1 refl
