use Rattle.std.proofs.Common.{◌≡◌}
use Rattle.delay_measure.specs.Kept.{comp_of}
use Rattle.base_tests.proofs.delays.first_other.Given as goal

abbrev pub invariant-loop-place : goal.invariant-loop-place
invariant-loop-place g l = comp_of l.meter ≡ comp_of l.fn.meter
