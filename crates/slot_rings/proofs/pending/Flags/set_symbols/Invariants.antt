use Rattle.std.proofs.Common.{◌≡◌, ℕ, ◌<◌, ◌≤◌, true, false, length}
use Rattle.slot_rings.specs.Pending.{flag_at}
use Rattle.slot_rings.proofs.pending.Flags.set_symbols.Given as goal

abbrev pub invariant-loop-symbol : goal.invariant-loop-symbol
invariant-loop-symbol l = record {
  set : (s : ℕ) → l.first ≤ s → s < l.symbol → flag_at l.self l.index s ≡ true;
  kept : (i s : ℕ) → flag_at l.self i s ≡ false → flag_at l.fn.self i s ≡ false;
  size : length l.self ≡ length l.fn.self;
}
