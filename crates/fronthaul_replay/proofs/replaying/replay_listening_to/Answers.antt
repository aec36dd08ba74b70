use Rattle.std.proofs.Common.{Err, [], ap, refl}
use Rattle.air_source.specs.declared.airs.AirFault.TheVariants.{Failed, NoMemory}
use Rattle.fronthaul_replay.specs.Replaying.{events_of}
use Rattle.fronthaul_replay.proofs.FaultLemmas.{cut_from, write_cause, write_wanted}
use Rattle.fronthaul_replay.proofs.StopLemmas.{halts_cut, stops_cut}
use Rattle.fronthaul_replay.proofs.replaying.replay_listening_to.Goals as goal

pub intake_of-requires : goal.intake_of-requires
intake_of-requires g c = record { document = c.requires.document; valid = c.requires.plan.valid }

pub returns-in_err-replay_listening-clause-cut : goal.returns-in_err-replay_listening-clause-cut
returns-in_err-replay_listening-clause-cut g c =
    let grew = g.A.ListeningAir.grew c.args.document.now.config [] in
    let stopped = g.A.ListeningAir.stopped in
    let d = c.args.document.now in
    let r = c.replay_listening.new in
    let x = c.from_residual-in_err-replay_listening in
    cut_from grew stopped (events_of d) c.args.air.now r.out c.in_err-replay_listening.field-0.0 x.result x.ensures.1
    (λ is. stops_cut grew (stopped Failed) d r.ru r.intake c.args.air.now r.out (c.in_err-replay_listening.ensures.stopped (ap Err is)))
    (λ is. halts_cut grew (stopped NoMemory) d r.ru r.intake c.args.air.now r.out (c.in_err-replay_listening.ensures.wants (ap Err is)))

pub returns-in_err-ru-clause-cause : goal.returns-in_err-ru-clause-cause
returns-in_err-ru-clause-cause g c = write_wanted (g.A.ListeningAir.faults c.args.air.now) (g.A.ListeningAir.faults c.args.air.now) c.from_residual.result c.from_residual.ensures.1 refl

pub returns-in_err-intake-clause-cause : goal.returns-in_err-intake-clause-cause
returns-in_err-intake-clause-cause g c = write_wanted (g.A.ListeningAir.faults c.args.air.now) (g.A.ListeningAir.faults c.args.air.now) c.from_residual-in_err-intake.result c.from_residual-in_err-intake.ensures.1 refl

pub returns-in_err-replay_listening-clause-cause : goal.returns-in_err-replay_listening-clause-cause
returns-in_err-replay_listening-clause-cause g c =
    let x = c.from_residual-in_err-replay_listening in
    write_cause (g.A.ListeningAir.faults c.args.air.now) (g.A.ListeningAir.faults c.replay_listening.new.out) c.in_err-replay_listening.field-0.0 x.result x.ensures.1 c.in_err-replay_listening.ensures.cause
