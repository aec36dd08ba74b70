use Rattle.std.proofs.Common.{◌≡◌, ℕ, ◌+◌, ◌-◌, ◌/◌, ◌<◌, ◌||◌, false, length, get_or}
use Rattle.idle_text.proofs.FlagLemmas.{is_set}
use Rattle.idle_text.proofs.flags.set_slots.Given as goal

abbrev pub invariant-loop-k : goal.invariant-loop-k
invariant-loop-k l = record {
  set : (k : ℕ) → k < length l.initial.flags
      → get_or l.flags k false ≡ (get_or l.initial.flags k false || is_set ((l.first + l.symbols - 1) / l.symbols) ((l.first + l.len) / l.symbols) l.k k);
}
