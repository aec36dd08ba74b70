use Rattle.std.proofs.Common.{◌≡◌, ℕ}
use Rattle.std.specs.Prelude.{slice_index_or}
use Rattle.explain_units.proofs.chains.Chains.make.Given as goal

abbrev pub invariant-loop-chain : goal.invariant-loop-chain
invariant-loop-chain g l = record {
  count : l.ends.len ≡ l._chain;
  zeros : (k : ℕ) → slice_index_or l.ends.items k 0 ≡ 0;
}
