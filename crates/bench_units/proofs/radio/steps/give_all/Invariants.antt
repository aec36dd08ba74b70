use Rattle.ru_buffers.specs.Calls.{HasGivenPast, StandsForSome}
use Rattle.bench_units.proofs.radio.steps.give_all.Given as goal

abbrev pub invariant-loop : goal.invariant-loop
invariant-loop l = StandsForSome l.ru × HasGivenPast l.ru
