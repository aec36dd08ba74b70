use Rattle.std.proofs.Common.{rules}
use Rattle.document_texts.specs.Units.{moved_delivery}
use Rattle.document_texts.proofs.Lists.{next_made_of}
use Rattle.document_texts.proofs.moving.moved_deliveries.Goals as goal
use Rattle.document_texts.proofs.moving.moved_deliveries.Goals.{in-Some+in_ok-push, in_default}
use Rattle.frame_ways.proofs.RowLemmas.{none_past}

pub loop-k-preserved : goal.loop-k-preserved
loop-k-preserved c = elim c.match-get.branch [
  | in-Some+in_ok-push w ↦ record { items = next_made_of (moved_delivery c.args.more) c.args.deliveries.now c.loop-k.k w.in-Some.delivery.now c.loop-k.list c.match-get.list (search rules) c.loop-k.invariant.items (search rules) }
  | in_default w ↦ record { items = absurd (none_past c.args.deliveries.now c.loop-k.k (search rules) (search rules)) }
]
