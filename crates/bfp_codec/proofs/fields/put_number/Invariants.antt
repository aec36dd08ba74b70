use Rattle.std.proofs.Common.{◌≡◌, ℕ, ◌*◌, ◌/◌, ◌^◌, ◌-◌, ◌+◌, ◌<◌, ◌≤◌, ◌⊎◌, get_or}
use Rattle.bfp_codec.specs.Field.{field}
use Rattle.bfp_codec.proofs.fields.put_number.Given as goal

abbrev pub invariant-loop-k : goal.invariant-loop-k
invariant-loop-k l = record {
  written : field l.into (8 * l.at) (8 * l.k) ≡ l.number / 2 ^ (8 * (l.count - l.k));
  others : (j : ℕ) → (j < l.at) ⊎ (l.at + l.count ≤ j) → get_or l.into j 0 ≡ get_or l.fn.into j 0;
}
