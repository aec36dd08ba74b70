use Rattle.ru_buffers.specs.Calls.{HasGivenPast, StandsForSome}
use Rattle.unit_tests.proofs.slots.in_turn.Given as goal

abbrev pub invariant-loop-k : goal.invariant-loop-k
invariant-loop-k l = record { unit : StandsForSome l.unit; given : HasGivenPast l.unit }
