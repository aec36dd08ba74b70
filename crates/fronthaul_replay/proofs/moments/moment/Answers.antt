use Rattle.std.proofs.Common.{rules, ◌≡◌, ◌∙◌, refl}
use Rattle.air_source.specs.declared.airs.AirFault.TheVariants.{NoMemory}
use Rattle.air_source.specs.declared.events.Side.TheVariants.{Du, Ru}
use Rattle.document_traffic.specs.Replayed.{doings_at}
use Rattle.document_traffic.specs.Settings.{compensation_of}
use Rattle.fronthaul_replay.specs.Measuring.{begins_for}
use Rattle.fronthaul_replay.specs.BoxTurns.{events_before}
use Rattle.fronthaul_replay.proofs.StopLemmas.{rests_after, rests_before}
use Rattle.fronthaul_replay.proofs.moments.moment.Goals as goal
use Rattle.unit_moments.proofs.CauseLemmas.{cause_passed, cause_wanted}

pub begin-requires : goal.begin-requires
begin-requires g c =
    let d = c.args.doc.now in
    let tick = c.args.tick.0 in
    (begins_for d, compensation_of d Ru, compensation_of d Du, doings_at d Ru tick, doings_at d Du tick, c.requires.moment.measures)

pub land-requires-clause-begun : goal.land-requires-clause-begun
land-requires-clause-begun g c =
    let d = c.args.doc.now in
    let tick = c.args.tick.0 in
    let m = c.requires.moment in
    record {
      turn = m.turn;
      waits = m.waits;
      begun = c.in_ok-begin.ensures (begins_for d) (compensation_of d Ru) (compensation_of d Du) (doings_at d Ru tick) (doings_at d Du tick) m.measures;
    }

pub returns-in_err-begin-clause-wants : goal.returns-in_err-begin-clause-wants
returns-in_err-begin-clause-wants g c wants =
    rests_before (g.A.ListeningAir.grew c.args.doc.now.config (events_before c.args.doc.now c.args.tick.0)) (g.A.ListeningAir.stopped NoMemory) c.args.doc.now c.args.tick.0 c.args.ru.now c.args.intake.now c.args.out.now
    (g.met.A.ListeningAir.grew_none _ _ c.args.out.now) c.requires.moment.turn

pub returns-in_err-land-clause-wants : goal.returns-in_err-land-clause-wants
returns-in_err-land-clause-wants g c wants =
    let same : c.land.result ≡ c.from_residual-in_err-land.result = search rules in
    c.land.ensures.wants (same ∙ wants)

pub returns-in_err-send_both-clause-wants : goal.returns-in_err-send_both-clause-wants
returns-in_err-send_both-clause-wants g c wants =
    rests_after (g.A.ListeningAir.grew c.args.doc.now.config (events_before c.args.doc.now c.args.tick.0)) (g.A.ListeningAir.stopped NoMemory) c.args.doc.now c.args.tick.0 c.land.new.ru c.land.new.intake c.args.out.now c.land.new.out
    c.requires.moment.turn.radio.turn.begun c.in_ok-land.ensures.heard c.in_ok-land.ensures.turn

pub returns-in_err-begin-clause-cause : goal.returns-in_err-begin-clause-cause
returns-in_err-begin-clause-cause g c = cause_wanted (g.A.ListeningAir.faults c.args.out.now) (g.A.ListeningAir.faults c.args.out.now) c.from_residual.result c.from_residual.ensures.1 refl

pub returns-in_err-land-clause-cause : goal.returns-in_err-land-clause-cause
returns-in_err-land-clause-cause g c =
    let same : c.land.result ≡ c.from_residual-in_err-land.result = search rules in
    cause_passed (g.A.ListeningAir.faults c.args.out.now) (g.A.ListeningAir.faults c.args.out.now) (g.A.ListeningAir.faults c.land.new.out) c.land.result c.from_residual-in_err-land.result same refl c.land.ensures.cause

pub returns-in_err-send_both-clause-cause : goal.returns-in_err-send_both-clause-cause
returns-in_err-send_both-clause-cause g c = cause_wanted (g.A.ListeningAir.faults c.args.out.now) (g.A.ListeningAir.faults c.land.new.out) c.from_residual-in_err-send_both.result c.from_residual-in_err-send_both.ensures.1 c.in_ok-land.ensures.cause
