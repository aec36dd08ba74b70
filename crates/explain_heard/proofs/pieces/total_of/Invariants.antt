use Rattle.std.proofs.Common.{◌≡◌, length, take}
use Rattle.ecpri_fragments.specs.Assemblies.{message_of}
use Rattle.ecpri_fragments.specs.Pieces.{joined}
use Rattle.explain_heard.proofs.pieces.total_of.Given as goal

abbrev pub invariant-loop-k : goal.invariant-loop-k
invariant-loop-k l = l.total ≡ length (joined (take l.k (message_of l.lease).pieces))
