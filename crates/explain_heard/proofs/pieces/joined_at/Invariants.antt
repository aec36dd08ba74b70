use Rattle.std.proofs.Common.{◌≡◌, drop}
use Rattle.ecpri_fragments.specs.Assemblies.{message_of}
use Rattle.ecpri_fragments.specs.Pieces.{joined}
use Rattle.explain_heard.specs.Heard.{byte_at}
use Rattle.explain_heard.proofs.pieces.joined_at.Given as goal

abbrev pub invariant-loop-n : goal.invariant-loop-n
invariant-loop-n l = byte_at (joined (drop l.n (message_of l.lease).pieces)) l.left ≡ byte_at (joined (message_of l.lease).pieces) l.k
