use Rattle.std.proofs.Common.{◌≡◌, take}
use Rattle.std.specs.Prelude.{filter}
use Rattle.plain_units.specs.ClaimedStarts.{is_claimed_way}
use Rattle.plain_units.proofs.radiating.in_symbol.Given as goal

abbrev pub invariant-loop-a : goal.invariant-loop-a
invariant-loop-a l = l.found.items ≡ filter (is_claimed_way l.m.ep l.down l.m.slot l.m.symbol) (take l.a-index l.accepted)
