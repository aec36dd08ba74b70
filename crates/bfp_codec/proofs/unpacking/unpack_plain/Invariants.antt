use Rattle.std.proofs.Common.{◌≡◌, ℕ, ◌+◌, ◌<◌, get_or, length}
use Rattle.bfp_codec.specs.Samples.{no_wide, pair_of}
use Rattle.bfp_codec.proofs.Whole.{plain_in}
use Rattle.bfp_codec.proofs.unpacking.unpack_plain.Given as goal

abbrev pub invariant-loop-k : goal.invariant-loop-k
invariant-loop-k l = record {
  len : length l.into ≡ 12;
  done : (j : ℕ) → j < l.k → get_or l.into (0 + j) no_wide ≡ pair_of (plain_in l.fn.bytes) j;
}
