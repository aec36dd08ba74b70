use Rattle.std.proofs.Common.{◌≡◌, ℕ, ◌<◌, false}
use Rattle.slot_rings.specs.Pending.{flag_at}
use Rattle.slot_rings.proofs.pending.Flags.first_of.Given as goal

abbrev pub invariant-loop-symbol : goal.invariant-loop-symbol
invariant-loop-symbol l = (s : ℕ) → s < l.symbol → flag_at l.self l.index s ≡ false
