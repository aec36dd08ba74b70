use Rattle.std.proofs.Common.{◌≡◌, ℕ, ◌*◌, ◌/◌, ◌^◌, ◌-◌, ◌+◌, ◌<◌, ◌≤◌, ◌⊎◌, get_or}
use Rattle.bfp_codec.specs.Field.{field}
use Rattle.bfp_codec.proofs.packing.put_word.Given as goal

abbrev pub invariant-loop-k : goal.invariant-loop-k
invariant-loop-k l = record {
  written : field l.into (8 * l.at) (8 * l.k) ≡ l.word / 2 ^ (8 * (8 - l.k));
  others : (j : ℕ) → (j < l.at) ⊎ (l.at + 8 ≤ j) → get_or l.into j 0 ≡ get_or l.fn.into j 0;
}
