use Rattle.std.proofs.Common.{◌≡◌, ℕ, ◌/◌, ◌<◌, ◌≤◌, true, get_or, vec_len, vec_capacity}
use Rattle.slot_rings.specs.Written.{is_written}
use Rattle.slot_rings.proofs.written.wipe.Given as goal

abbrev pub invariant-loop-symbol : goal.invariant-loop-symbol
invariant-loop-symbol g l = record {
  len : vec_len l.list ≡ vec_len l.fn.list;
  capacity : vec_capacity l.fn.list ≤ vec_capacity l.list;
  blank : (k : ℕ) → (is_written l.prbs l.spans k ≡ true → k / l.prbs < l.symbol) → get_or l.list.items k l.blank ≡ l.blank;
}
