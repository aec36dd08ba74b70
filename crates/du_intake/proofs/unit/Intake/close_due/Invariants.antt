use Rattle.du_intake.specs.Closing.{symbols_left}
use Rattle.du_intake.proofs.LoopLemmas.{IsClosing}
use Rattle.du_intake.proofs.unit.Intake.close_due.Given as goal

abbrev pub invariant-loop-next : goal.invariant-loop-next
invariant-loop-next g l = IsClosing g.A.Air.grew g.A.Air.same g.A.Air.faults l.to.0 l.initial.self l.self l.initial.air l.air

abbrev pub decreases-loop-next : goal.decreases-loop-next
decreases-loop-next g l = symbols_left l.self
