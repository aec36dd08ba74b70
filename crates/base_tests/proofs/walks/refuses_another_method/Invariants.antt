use Rattle.std.proofs.Common.{◌≡◌}
use Rattle.ecpri_fragments.specs.Assemblies.{endpoints_of}
use Rattle.base_tests.proofs.walks.refuses_another_method.Given as goal

abbrev pub invariant-loop-cut : goal.invariant-loop-cut
invariant-loop-cut g l = endpoints_of l.assembly ≡ 1
