use Rattle.std.proofs.Common.{sym, append_assoc, append-nil, add-one, arith}
use Rattle.air_source.specs.CellLines.{items_text}
use Rattle.air_source.proofs.cell_lines.some_items.Goals as goal

pub loop-k-init : goal.loop-k-init
unfolding items_text
loop-k-init c = (sym (append-nil c.args.line.now), omega arith)

pub loop-k-preserved : goal.loop-k-preserved
unfolding items_text
loop-k-preserved c = (
  rw (add-one, c.item.ensures.text, c.loop-k.invariant.0) (append_assoc c.args.line.now _ _),
  omega arith,
)
