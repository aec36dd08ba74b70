use Rattle.ru_buffers.specs.Calls.{HasGivenPast, StandsForSome}
use Rattle.bench_units.proofs.radio.running.deliver_slots.Given as goal

abbrev pub invariant-loop-k : goal.invariant-loop-k
invariant-loop-k l = StandsForSome l.ru × HasGivenPast l.ru
