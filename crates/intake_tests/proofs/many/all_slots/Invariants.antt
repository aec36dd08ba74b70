use Rattle.du_intake.specs.Closing.{IntakeStandsForSome}
use Rattle.intake_tests.proofs.many.all_slots.Given as goal

abbrev pub invariant-loop-k : goal.invariant-loop-k
invariant-loop-k l = IntakeStandsForSome l.unit
