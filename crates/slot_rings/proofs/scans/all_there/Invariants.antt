use Rattle.std.proofs.Common.{◌≡◌, ℕ, ◌+◌, ◌<◌, ◌≤◌, true, is_some}
use Rattle.slot_rings.specs.Blocks.{block_lent}
use Rattle.slot_rings.proofs.scans.all_there.Given as goal

abbrev pub invariant-loop-n : goal.invariant-loop-n
invariant-loop-n l = record {
  all : (k : ℕ) → l.first ≤ k → k < l.n → is_some (block_lent l.blocks (l.base + k)) ≡ true;
}
