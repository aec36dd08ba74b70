use Rattle.std.proofs.Common.{◌≡◌, ◌++◌, pos, ◌+ℤ◌}
use Rattle.fh_base.specs.Lists.{each}
use Rattle.plain_units.specs.ClaimedStarts.{claimed_start}
use Rattle.unit_model.specs.Sweeps.{of_frame, first_swept}
use Rattle.plain_units.proofs.starts.push_endpoint.Given as goal

abbrev pub invariant-loop-k : goal.invariant-loop-k
invariant-loop-k l =
    l.found.items
    ≡ l.initial.found.items ++ each 0 l.k (λ k. of_frame (claimed_start l.sought.accepted.now l.sought.down l.sought.ep l.sought.endpoint.now) l.sought.endpoint.now l.sought.start.0 (first_swept l.sought.start.0 +ℤ pos k))
