use Rattle.std.proofs.Common.{◌≡◌, ◌++◌}
use Rattle.fh_base.specs.Lists.{each}
use Rattle.plain_units.specs.ClaimedStarts.{claimed_start}
use Rattle.unit_model.specs.Sweeps.{slot_at, of_slot}
use Rattle.plain_units.proofs.starts.push_subframe.Given as goal

abbrev pub invariant-loop-slot : goal.invariant-loop-slot
invariant-loop-slot l =
    l.found.items
    ≡ l.initial.found.items ++ each 0 l.slot (λ slot. of_slot (claimed_start l.sought.accepted.now l.sought.down l.sought.ep l.sought.endpoint.now) l.sought.endpoint.now l.sought.start.0 (slot_at l.first.frame l.first.subframe slot))
