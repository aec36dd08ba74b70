use Rattle.std.proofs.Common.{◌-◌, ◌≤◌, length}
use Rattle.frame_ways.proofs.OrderLemmas.{AllLower, NoneLower}
use Rattle.frame_ways.proofs.order.place_for.Given as goal

abbrev pub invariant-halving : goal.invariant-halving
invariant-halving l = record {
  ordered : l.low ≤ l.high;
  within : l.high ≤ length l.deliveries;
  lower : AllLower l.deliveries l.number l.low;
  higher : NoneLower l.deliveries l.number l.high;
}

abbrev pub decreases-halving : goal.decreases-halving
decreases-halving l = l.high - l.low
