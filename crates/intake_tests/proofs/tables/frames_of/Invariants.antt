use Rattle.std.specs.Prelude.{All}
use Rattle.unit_model.specs.Proper.{IsTime}
use Rattle.plain_units.specs.declared.report.TimedFrame.{TimedFrame}
use Rattle.intake_tests.proofs.tables.frames_of.Given as goal

abbrev pub invariant-loop-place : goal.invariant-loop-place
invariant-loop-place l = All (λ (f : TimedFrame). IsTime f.at.0) l.frames.items
