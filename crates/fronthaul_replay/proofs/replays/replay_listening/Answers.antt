use Rattle.std.proofs.Common.{rules, [], inr, refl}
use Rattle.air_source.specs.declared.airs.AirFault.TheVariants.{Failed, NoMemory}
use Rattle.fronthaul_replay.proofs.LawLemmas.{is_sound}
use Rattle.fronthaul_replay.proofs.StopLemmas.{none_heard}
use Rattle.fronthaul_replay.proofs.FaultLemmas.{air_stopped, ok_passed, replay_cause, replay_wanted}
use Rattle.fronthaul_replay.proofs.replays.replay_listening.Goals as goal

-- no memory for what is still to be received

pub returns-in_err-coming-clause-sound : goal.returns-in_err-coming-clause-sound
returns-in_err-coming-clause-sound g c = is_sound c.args.doc.now (record { document = c.requires.document; valid = c.requires.plan.valid })

pub returns-in_err-coming-clause-wants : goal.returns-in_err-coming-clause-wants
returns-in_err-coming-clause-wants g c wants =
    inr (none_heard (g.A.ListeningAir.grew c.args.doc.now.config []) c.args.doc.now c.args.ru.now c.args.intake.now c.args.out.now (g.met.A.ListeningAir.grew_none c.args.doc.now.config [] c.args.out.now) c.requires.unit c.requires.intake)

-- nor for the meters

pub returns-in_err-meters-clause-sound : goal.returns-in_err-meters-clause-sound
returns-in_err-meters-clause-sound g c = is_sound c.args.doc.now (record { document = c.requires.document; valid = c.requires.plan.valid })

pub returns-in_err-meters-clause-wants : goal.returns-in_err-meters-clause-wants
returns-in_err-meters-clause-wants g c wants =
    inr (none_heard (g.A.ListeningAir.grew c.args.doc.now.config []) c.args.doc.now c.args.ru.now c.args.intake.now c.args.out.now (g.met.A.ListeningAir.grew_none c.args.doc.now.config [] c.args.out.now) c.requires.unit c.requires.intake)

-- ---- the replay's answer

pub returns-clause-sound : goal.returns-clause-sound
returns-clause-sound g c = is_sound c.args.doc.now (record { document = c.requires.document; valid = c.requires.plan.valid })

pub returns-clause-heard : goal.returns-clause-heard
returns-clause-heard g c = ok_passed c.run.result c.map_err.result _ c.map_err.ensures.variant c.run.ensures.heard

pub returns-clause-done : goal.returns-clause-done
returns-clause-done g c = ok_passed c.run.result c.map_err.result _ c.map_err.ensures.variant c.run.ensures.done

pub returns-clause-stopped : goal.returns-clause-stopped
returns-clause-stopped g c stopped = c.run.ensures.stop (air_stopped Failed c.run.result c.map_err.result (search (rules, c.map_err.ensures.cases, c.map_err.ensures.variant)) stopped)

pub returns-clause-wants : goal.returns-clause-wants
returns-clause-wants g c wants = c.run.ensures.wants (air_stopped NoMemory c.run.result c.map_err.result (search (rules, c.map_err.ensures.cases, c.map_err.ensures.variant)) wants)

pub returns-in_err-coming-clause-cause : goal.returns-in_err-coming-clause-cause
returns-in_err-coming-clause-cause g c = replay_wanted (g.A.ListeningAir.faults c.args.out.now) (g.A.ListeningAir.faults c.args.out.now) c.from_residual.result c.from_residual.ensures.1 refl

pub returns-in_err-meters-clause-cause : goal.returns-in_err-meters-clause-cause
returns-in_err-meters-clause-cause g c = replay_wanted (g.A.ListeningAir.faults c.args.out.now) (g.A.ListeningAir.faults c.args.out.now) c.from_residual-in_err-meters.result c.from_residual-in_err-meters.ensures.1 refl

pub returns-clause-cause : goal.returns-clause-cause
returns-clause-cause g c = replay_cause (g.A.ListeningAir.faults c.args.out.now) (g.A.ListeningAir.faults c.run.new.out) c.run.result c.map_err.result (search (rules, c.map_err.ensures.cases, c.map_err.ensures.variant)) c.run.ensures.cause
