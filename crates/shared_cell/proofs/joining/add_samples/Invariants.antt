use Rattle.std.proofs.Common.{◌≡◌, ℕ, ◌<◌, ◌≤◌, ◌+◌, length, get_or, cond}
use Rattle.shared_cell.specs.Joined.{no_sum, in_mask, sample_at, plus, IsWithin}
use Rattle.shared_cell.proofs.joining.add_samples.Given as goal

abbrev pub invariant-loop-k : goal.invariant-loop-k
invariant-loop-k l = record {
  source : length l.block ≡ 12;
  size : length l.sums ≡ 12;
  bounds : (k : ℕ) → k < 12 → IsWithin 7 (get_or l.initial.sums k no_sum);
  done : (k : ℕ) → k < l.k → get_or l.sums k no_sum ≡ cond (in_mask l.mask k) (plus (get_or l.initial.sums k no_sum) (sample_at l.block k)) (get_or l.initial.sums k no_sum);
  within : (n k : ℕ) → k < l.k → IsWithin n (get_or l.initial.sums k no_sum) → IsWithin (n + 1) (get_or l.sums k no_sum);
  left : (k : ℕ) → l.k ≤ k → get_or l.sums k no_sum ≡ get_or l.initial.sums k no_sum;
}
