use Rattle.std.proofs.Common.{◌≡◌, ◌++◌, drop}
use Rattle.plain_units.specs.ClaimedStarts.{claimed_start}
use Rattle.unit_model.specs.Sweeps.{of_endpoints, at_tick}
use Rattle.plain_units.proofs.starts.push_tick.Given as goal

abbrev pub invariant-loop-ep : goal.invariant-loop-ep
invariant-loop-ep l =
    l.found.items ++ of_endpoints (claimed_start l.accepted l.down) l.ep (drop l.ep l.endpoints) l.s.0
    ≡ l.initial.found.items ++ at_tick (claimed_start l.accepted l.down) l.endpoints l.s.0
