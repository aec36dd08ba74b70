use Rattle.std.proofs.Common.{ap}
use Rattle.fh_base.specs.declared.values.Ticks.{Ticks}
use Rattle.du_intake.proofs.LoopLemmas.{stands_at}
use Rattle.du_intake.proofs.unit.Intake.close_until.Goals as goal

pub returns-clause-stands : goal.returns-clause-stands
returns-clause-stands g c k planned h all =
    stands_at g.A.Air.grew k planned c.close_due.new.self c.args.self.now.clock.0 h c.args.to.0 c.args.air.now c.close_due.new.air (c.in_ok-close_due.ensures.told k planned h all)
    (ap (λ (t : Ticks). t.0) c.close_due.ensures.clock) c.requires.order c.requires.time
