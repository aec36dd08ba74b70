use Rattle.du_intake.specs.Closing.{IntakeStandsForSome}
use Rattle.intake_tests.proofs.tables.all_frames.Given as goal

abbrev pub invariant-loop-f : goal.invariant-loop-f
invariant-loop-f l = IntakeStandsForSome l.unit
