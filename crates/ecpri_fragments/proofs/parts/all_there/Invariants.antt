use Rattle.std.proofs.Common.{◌≡◌, true}
use Rattle.ecpri_fragments.specs.Spans.{all_in}
use Rattle.ecpri_fragments.proofs.parts.all_there.Given as goal

abbrev pub invariant-loop-k : goal.invariant-loop-k
invariant-loop-k l = all_in l.spans l.k ≡ true
