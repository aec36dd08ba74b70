use Rattle.du_intake.specs.Closing.{IntakeStandsForSome}
use Rattle.intake_tests.proofs.closes.frames_come_between_two_closes.Given as goal

abbrev pub invariant-loop-k-2 : goal.invariant-loop-k-2
invariant-loop-k-2 g l = IntakeStandsForSome l.unit
