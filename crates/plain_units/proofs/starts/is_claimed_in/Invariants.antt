use Rattle.std.proofs.Common.{◌≡◌, drop}
use Rattle.plain_units.specs.ClaimedStarts.{is_claimed_in}
use Rattle.plain_units.proofs.starts.is_claimed_in.Given as goal

abbrev pub invariant-loop-a : goal.invariant-loop-a
invariant-loop-a l =
    is_claimed_in (drop l.a-index l.accepted) l.ep l.down l.slot l.symbol ≡ is_claimed_in l.accepted l.ep l.down l.slot l.symbol
