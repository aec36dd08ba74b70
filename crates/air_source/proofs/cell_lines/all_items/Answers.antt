use Rattle.std.proofs.Common.{◌++◌, ◌∙◌, ap, sym, append_assoc, append-nil, add-one, arith}
use Rattle.std.specs.Prelude.{codes}
use Rattle.air_source.specs.CellLines.{items_text}
use Rattle.air_source.proofs.Masks.{item_in}
use Rattle.air_source.proofs.cell_lines.all_items.Goals as goal

pub loop-k-init : goal.loop-k-init
unfolding items_text
loop-k-init c = (sym (append-nil c.args.line.now), omega arith)

pub loop-k-preserved : goal.loop-k-preserved
unfolding items_text
loop-k-preserved c = (
  rw (add-one, c.sample.ensures.text, c.loop-k.invariant.0)
      (append_assoc (c.args.line.now ++ items_text c.args.mask c.args.block.now c.loop-k.k) (codes " ") _
      ∙ append_assoc c.args.line.now _ _
      ∙ ap (λ t. c.args.line.now ++ (items_text c.args.mask c.args.block.now c.loop-k.k ++ t)) (item_in c.args.mask c.args.block.now c.loop-k.k c.requires.full c.loop-k-test.true)),
  omega arith,
)
