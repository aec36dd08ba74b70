use Rattle.std.proofs.Common.{rules}
use Rattle.document_texts.proofs.Lists.{next_listed}
use Rattle.document_texts.proofs.copying.copy_list.Goals as goal
use Rattle.document_texts.proofs.copying.copy_list.Goals.{in-Some+in_ok-push, in_default}
use Rattle.frame_ways.proofs.RowLemmas.{none_past}

pub loop-k-preserved : goal.loop-k-preserved
loop-k-preserved g c = elim c.match-get.branch [
  | in-Some+in_ok-push w ↦ record { items = next_listed c.args.items.now c.loop-k.k w.in-Some.item.now c.loop-k.copy c.match-get.copy (search rules) c.loop-k.invariant.items (search rules) }
  | in_default w ↦ record { items = absurd (none_past c.args.items.now c.loop-k.k (search rules) (search rules)) }
]
