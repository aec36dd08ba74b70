use Rattle.std.proofs.Common.{arith}
use Rattle.du_intake.proofs.PlanLemmas.{plan_planned}
use Rattle.du_intake.proofs.UnitLemmas.{stands_made}
use Rattle.du_intake.proofs.unit.Intake.make.Goals as goal
use Rattle.plan_model.specs.Lines.{uplink_allocations}

pub returns : goal.returns
returns c =
    stands_made c.args.config.now (uplink_allocations c.args.lines.now) c.in_ok-plan.plan _ c.in_ok-memory.memory c.wait_of.result.0
    (plan_planned c.args.config.now c.args.lines.now c.requires.config c.requires.plan) c.in_ok-memory.ensures.holds c.in_ok-plan.ensures
    (omega (arith, c.in_ok-row.ensures)) c.wait_of.ensures
