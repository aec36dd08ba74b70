use Rattle.ru_buffers.specs.Calls.{HasGivenPast, StandsForSome}
use Rattle.unit_tests.proofs.orders.all_frames.Given as goal

abbrev pub invariant-loop-f : goal.invariant-loop-f
invariant-loop-f l = record { unit : StandsForSome l.unit; given : HasGivenPast l.unit }
