use Rattle.std.proofs.Common.{◌≡◌, ◌++◌}
use Rattle.fh_base.specs.Lists.{each}
use Rattle.plain_units.specs.ClaimedStarts.{claimed_start}
use Rattle.unit_model.specs.Sweeps.{of_symbol}
use Rattle.plain_units.proofs.starts.push_slot.Given as goal

abbrev pub invariant-loop-symbol : goal.invariant-loop-symbol
invariant-loop-symbol l =
    l.found.items ≡ l.initial.found.items ++ each 0 l.symbol (of_symbol (claimed_start l.sought.accepted.now l.sought.down l.sought.ep l.sought.endpoint.now) l.sought.endpoint.now l.sought.start.0 l.slot)
