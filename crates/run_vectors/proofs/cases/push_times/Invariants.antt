use Rattle.std.proofs.Common.{◌≡◌, ◌++◌}
use Rattle.run_vectors.specs.Inputs.{repeated}
use Rattle.run_vectors.proofs.cases.push_times.Given as goal

abbrev pub invariant-loop : goal.invariant-loop
invariant-loop l = l.into ≡ l.initial.into ++ repeated l.counter l.piece
