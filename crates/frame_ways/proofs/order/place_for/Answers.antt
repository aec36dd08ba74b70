use Rattle.std.proofs.Common.{◌+◌, ◌-◌, ◌/◌, arith}
use Rattle.frame_ways.proofs.OrderLemmas.{lower_below, none_lower}
use Rattle.frame_ways.proofs.order.place_for.Goals as goal

pub halving-preserved-then-number_at-number : goal.halving-preserved-then-number_at-number
halving-preserved-then-number_at-number c = record {
  ordered = omega arith;
  within = c.halving.invariant.within;
  lower = lower_below c.args.deliveries.now c.args.number c.number_at.result (c.halving.low + (c.halving.high - c.halving.low) / 2) c.requires c.number_at.ensures (omega (arith, c.halving.invariant.within)) c.if-number_at-number.true;
  higher = c.halving.invariant.higher;
}

pub halving-preserved : goal.halving-preserved
halving-preserved c = record {
  ordered = omega arith;
  within = omega (arith, c.halving.invariant.within);
  lower = c.halving.invariant.lower;
  higher = none_lower c.args.deliveries.now c.args.number c.number_at.result (c.halving.low + (c.halving.high - c.halving.low) / 2) c.requires c.number_at.ensures (omega (arith, c.if-number_at-number.false));
}
