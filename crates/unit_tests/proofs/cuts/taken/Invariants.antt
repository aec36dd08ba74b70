use Rattle.std.proofs.Common.{◌≡◌, ◌≤◌, ◌∷◌, [], length}
use Rattle.ecpri_fragments.specs.Assemblies.{endpoints_of as assembly_endpoints}
use Rattle.unit_cells.specs.Cells.{endpoints_of}
use Rattle.unit_tests.proofs.cuts.taken.Given as goal

abbrev pub invariant-loop-k : goal.invariant-loop-k
invariant-loop-k l = record {
  start : l.start ≤ length l.message;
  assembly : assembly_endpoints l.assembly ≡ 1;
  cells : endpoints_of l.cells ≡ l.e ∷ [];
}
