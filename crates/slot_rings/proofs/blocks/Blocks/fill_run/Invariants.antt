use Rattle.std.proofs.Common.{◌≡◌, ℕ, ◌+◌, ◌^◌, ◌<◌, ◌≤◌, false, get_or, length, None, Some}
use Rattle.unit_model.specs.Claims.{is_from}
use Rattle.fh_base.specs.Lists.{or_else}
use Rattle.slot_rings.specs.Runs.{packed_block, packed_samples}
use Rattle.slot_rings.proofs.blocks.Blocks.fill_run.Given as goal

abbrev pub invariant-loop-k : goal.invariant-loop-k
invariant-loop-k l = record {
  here : (k : ℕ) → k < l.k → get_or l.self.items (l.from + k) None ≡ or_else (get_or l.fn.self.items (l.from + k) None) (Some (packed_block l.run.id (packed_samples l.run) k));
  others : (i : ℕ) → is_from l.from l.k i ≡ false → get_or l.self.items i None ≡ get_or l.fn.self.items i None;
  few : l.from + l.run.count < 2 ^ 16;
  len : l.from + l.run.count ≤ length l.self.items;
  cells : l.self.cells ≡ l.fn.self.cells;
}
