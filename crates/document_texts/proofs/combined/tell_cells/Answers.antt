use Rattle.std.proofs.Common.{refl, ◌∙◌}
use Rattle.fh_base.proofs.OwedTelling.{carried_one_more, anyhow}
use Rattle.fh_base.proofs.Parts.{part_at}
use Rattle.document_texts.specs.Lines.{mixed_text}
use Rattle.document_texts.proofs.combined.tell_cells.Goals as goal

pub returns-in_err-tell_cell-clause-part : goal.returns-in_err-tell_cell-clause-part
returns-in_err-tell_cell-clause-part g c =
    anyhow c.from_residual.result
    (part_at mixed_text c.args.cells.now c.loop-m.m-index _ _ _ _ _ _ _ c.loop-m-test.true refl c.loop-m.invariant.carried
    c.in_err-tell_cell.ensures.part)

pub loop-m-preserved : goal.loop-m-preserved
loop-m-preserved g c = record {
  carried = carried_one_more mixed_text c.args.cells.now c.loop-m.m-index _ _ _ _ _ _ _ _ c.loop-m-test.true refl c.loop-m.invariant.carried
      c.in_ok-tell_cell.ensures.carried;
  still = c.in_ok-tell_cell.ensures.cause.faults ∙ c.loop-m.invariant.still;
  refused_still = c.in_ok-tell_cell.ensures.cause.refusals ∙ c.loop-m.invariant.refused_still;
}
