use Rattle.std.proofs.Common.{◌≡◌, ℕ, ◌+◌, ◌<◌, ◌≤◌, ◌⊎◌, get_or, length}
use Rattle.bfp_codec.specs.Samples.{no_wide, pair_of}
use Rattle.bfp_codec.specs.Eight.{four_in}
use Rattle.bfp_codec.proofs.unpacking.put_two.Given as goal

abbrev pub invariant-loop-k : goal.invariant-loop-k
invariant-loop-k l = record {
  len : length l.into ≡ 12;
  done : (j : ℕ) → j < l.k → get_or l.into (l.from + j) no_wide ≡ pair_of (four_in l.four l.width l.e) j;
  others : (j : ℕ) → (j < l.from) ⊎ (l.from + 2 ≤ j) → get_or l.into j no_wide ≡ get_or l.fn.into j no_wide;
}
