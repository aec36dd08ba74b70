use Rattle.std.proofs.Common.{◌≡◌, ◌++◌}
use Rattle.fh_base.specs.Lists.{each}
use Rattle.plain_units.specs.ClaimedStarts.{claimed_start}
use Rattle.unit_model.specs.Sweeps.{of_subframe}
use Rattle.plain_units.proofs.starts.push_frame.Given as goal

abbrev pub invariant-loop-subframe : goal.invariant-loop-subframe
invariant-loop-subframe l =
    l.found.items ≡ l.initial.found.items ++ each 0 l.subframe (of_subframe (claimed_start l.sought.accepted.now l.sought.down l.sought.ep l.sought.endpoint.now) l.sought.endpoint.now l.sought.start.0 l.first.frame)
