use Rattle.std.proofs.Common.{◌≡◌}
use Rattle.ecpri_fragments.specs.Assemblies.{endpoints_of}
use Rattle.base_tests.proofs.walks.tells_the_same_in_any_pieces.Given as goal

abbrev pub invariant-loop-cut : goal.invariant-loop-cut
invariant-loop-cut g l = endpoints_of l.assembly ≡ 1

abbrev pub invariant-loop-k : goal.invariant-loop-k
invariant-loop-k g l = endpoints_of l.assembly ≡ 1
