use Rattle.std.proofs.Common.{◌≡◌, ℕ, ◌+◌, ◌*◌, ◌<◌}
use Rattle.bfp_codec.specs.Field.{digits}
use Rattle.bfp_codec.specs.Samples.{component}
use Rattle.bfp_codec.specs.Exponent.{Within}
use Rattle.bfp_codec.specs.Layout.{twos}
use Rattle.bfp_codec.proofs.packing.four_plain.Given as goal

abbrev pub invariant-loop-k : goal.invariant-loop-k
invariant-loop-k l = record {
  value : l.number ≡ digits 16 (λ j. twos 16 (component l.block (8 * l.part + j))) (2 * l.k);
  within : (j : ℕ) → j < 2 * l.k → Within 16 (component l.block (8 * l.part + j));
}
