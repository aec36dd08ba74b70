use Rattle.std.proofs.Common.{arith}
use Rattle.ecpri_fragments.proofs.Pieces.{none_there}
use Rattle.ecpri_fragments.proofs.place.Place.new.Goals as goal

pub invariant_of-result-clause-inside : goal.invariant_of-result-clause-inside
invariant_of-result-clause-inside c k h = rw (none_there 128 k) (omega arith)

pub invariant_of-result-clause-beyond : goal.invariant_of-result-clause-beyond
invariant_of-result-clause-beyond c k h = none_there 128 k
