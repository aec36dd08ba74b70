use Rattle.std.proofs.Common.{◌≡◌, ℕ, ◌+◌, ◌*◌, ◌<◌, ◌≤◌, ◌⊎◌, get_or, length}
use Rattle.bfp_codec.specs.Samples.{no_wide, pair_of}
use Rattle.bfp_codec.specs.Eight.{value_in}
use Rattle.bfp_codec.proofs.unpacking.put_four.Given as goal

abbrev pub invariant-loop-k : goal.invariant-loop-k
invariant-loop-k l = record {
  len : length l.into ≡ 12;
  done : (j : ℕ) → j < l.k → get_or l.into (4 * l.part + j) no_wide ≡ pair_of (value_in l.number l.width l.e) j;
  others : (j : ℕ) → (j < 4 * l.part) ⊎ (4 * l.part + 4 ≤ j) → get_or l.into j no_wide ≡ get_or l.fn.into j no_wide;
}
