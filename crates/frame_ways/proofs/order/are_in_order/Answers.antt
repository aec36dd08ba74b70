use Rattle.std.proofs.Common.{arith}
use Rattle.std.proofs.lemmas.List.Sorted.{IsNonDecreasingBy-from_all_adjacent}
use Rattle.fh_document.specs.Delivered.{frame_number}
use Rattle.frame_ways.proofs.order.are_in_order.Goals as goal

pub returns : goal.returns
returns c = λ is. IsNonDecreasingBy-from_all_adjacent frame_number c.args.deliveries.now
    (λ k d lt. c.loop-at.invariant.so_far k d (omega (arith, lt, c.loop-at-test.false, c.len-at-end.ensures)))
