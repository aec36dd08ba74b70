use Rattle.std.proofs.Common.{◌≡◌, ℕ, ◌+◌, ◌*◌, ◌<◌, get_or, length}
use Rattle.bfp_codec.specs.Field.{digits}
use Rattle.bfp_codec.specs.Samples.{component}
use Rattle.bfp_codec.specs.Exponent.{floor_of}
use Rattle.bfp_codec.specs.Layout.{twos}
use Rattle.bfp_codec.proofs.packing.pairs.Given as goal

abbrev pub invariant-loop-k : goal.invariant-loop-k
invariant-loop-k l = record {
  len : length l.pairs ≡ 12;
  done : (n : ℕ) → n < l.k → get_or l.pairs n 0 ≡ digits l.width (λ j. twos l.width (floor_of (component l.block (2 * n + j)) l.e)) 2;
}
