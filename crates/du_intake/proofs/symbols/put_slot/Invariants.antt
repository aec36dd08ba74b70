use Rattle.std.proofs.Common.{◌≡◌, ◌+◌, ◌++◌, length}
use Rattle.fh_base.specs.Lists.{each}
use Rattle.du_intake.specs.Symbols.{symbol_if}
use Rattle.du_intake.proofs.symbols.put_slot.Given as goal

abbrev pub invariant-loop-symbol : goal.invariant-loop-symbol
invariant-loop-symbol l = l.symbols.items ≡ l.fn.symbols.items ++ each 0 l.symbol (symbol_if l.endpoint l.slot l.own l.first (l.first + length l.own))
