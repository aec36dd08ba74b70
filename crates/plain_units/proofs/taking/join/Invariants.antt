use Rattle.std.proofs.Common.{◌≡◌, ◌++◌, drop}
use Rattle.ecpri_fragments.specs.Assemblies.{message_of}
use Rattle.plain_units.proofs.taking.join.Given as goal
use Rattle.ecpri_fragments.specs.Pieces.{joined}

abbrev pub invariant-loop-k : goal.invariant-loop-k
invariant-loop-k l = l.bytes ++ joined (drop l.k (message_of l.lease).pieces) ≡ joined (message_of l.lease).pieces
