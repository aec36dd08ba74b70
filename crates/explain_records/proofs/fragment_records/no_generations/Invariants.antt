use Rattle.std.proofs.Common.{◌≡◌, ℕ}
use Rattle.std.specs.Prelude.{Option, Some, None, slice_get}
use Rattle.explain_records.specs.declared.generations.LastGeneration.{LastGeneration}
use Rattle.explain_records.proofs.fragment_records.no_generations.Given as goal

abbrev pub invariant-loop-k : goal.invariant-loop-k
invariant-loop-k l = (k : ℕ) (o : Option LastGeneration) → slice_get l.last.items k ≡ Some o → o ≡ None
