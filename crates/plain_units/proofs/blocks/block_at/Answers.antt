use Rattle.std.proofs.Common.{◌≡◌, ◌+◌, drop, sym, ap, ◌∙◌}
use Rattle.unit_model.specs.Blocks.{block_in, block_at}
use Rattle.fh_base.specs.Lists.{or_else}
use Rattle.plain_units.proofs.BlockLemmas.{block_further, block_end}
use Rattle.unit_model.proofs.BlockLemmas.{newer_found, older_found}
use Rattle.plain_units.proofs.blocks.block_at.Goals as goal
use Rattle.plain_units.proofs.blocks.block_at.Goals.{then-is_some, else-is_some}

pub loop-d-preserved : goal.loop-d-preserved
loop-d-preserved c =
    let ds = c.args.timely.now in
    let cell = c.args.cell.now in
    let i = c.loop-d.d-index in
    let b = c.block_in-block.result in
    let found : c.if-is_some.found ≡ or_else b c.loop-d.found =
    elim c.if-is_some.branch [
      | then-is_some w ↦ w.found-is ∙ newer_found b c.loop-d.found (sym c.is_some.ensures ∙ w.if-is_some.true)
      | else-is_some w ↦ w.found-is ∙ older_found b c.loop-d.found (sym c.is_some.ensures ∙ w.if-is_some.false)
    ] in
    c.loop-d.invariant ∙ block_further ds i c.d-item.result cell c.loop-d.found c.loop-d-test.true
    ∙ ap (λ d. or_else (block_at (drop (i + 1) ds) cell) (or_else d c.loop-d.found)) (ap (λ d. block_in d cell) (sym c.d-item.is) ∙ sym c.block_in-block.ensures)
    ∙ ap (λ f. or_else (block_at (drop (i + 1) ds) cell) f) (sym found)

pub returns : goal.returns
returns c =
    sym (c.loop-d.invariant ∙ block_end c.args.timely.now c.loop-d.d-index c.args.cell.now c.loop-d.found c.loop-d-test.false)
