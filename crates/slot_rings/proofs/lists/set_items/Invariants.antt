use Rattle.std.proofs.Common.{◌≡◌, ℕ, ◌-◌, ◌<◌, get_or, length, if◌then◌else◌}
use Rattle.unit_model.specs.Claims.{is_from}
use Rattle.slot_rings.proofs.lists.set_items.Given as goal

abbrev pub invariant-loop-k : goal.invariant-loop-k
invariant-loop-k g l = record {
  len : length l.items ≡ length l.fn.items;
  each : (k : ℕ) (other : g.row.T.Denot) → k < length l.fn.items → get_or l.items k other ≡ (if is_from l.from (l.k - l.from) k then l.item else get_or l.fn.items k other);
}
