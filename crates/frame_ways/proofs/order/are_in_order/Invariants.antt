use Rattle.std.proofs.Common.{◌≡◌, ◌-◌, ◌<◌, get_or}
use Rattle.fh_document.specs.declared.delivered.Delivery.{Delivery}
use Rattle.fh_document.specs.Delivered.{frame_number}
use Rattle.frame_ways.proofs.OrderLemmas.{NotFalling}
use Rattle.frame_ways.proofs.order.are_in_order.Given as goal

abbrev pub invariant-loop-at : goal.invariant-loop-at
invariant-loop-at l = record {
  so_far : NotFalling l.deliveries l.at;
  before : (d : Delivery) → 0 < l.at → frame_number (get_or l.deliveries (l.at - 1) d) ≡ l.last;
}
