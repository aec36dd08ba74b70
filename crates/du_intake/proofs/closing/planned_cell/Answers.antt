-- What a claim names.
use Rattle.std.proofs.Common.{◌∙◌, ap}
use Rattle.unit_model.specs.Radiated.{samples_under}
use Rattle.unit_cells.specs.Cells.{cells_block}
use Rattle.du_intake.specs.Cursors.{uplink_cell_in}
use Rattle.du_intake.proofs.RowLemmas.{report_none, report_some}
use Rattle.du_intake.proofs.closing.planned_cell.Goals as goal

pub returns-then-claim-eq0 : goal.returns-then-claim-eq0
returns-then-claim-eq0 c = report_none c.args.m.now c.args.prb c.args.claim _ c.requires.few c.if-claim-eq0.true

pub returns : goal.returns
returns c =
    report_some c.args.m.now c.args.prb c.args.claim (cells_block c.args.cells.now (uplink_cell_in c.args.m.now c.args.prb)) c.samples_under.result c.requires.few c.if-claim-eq0.false
    (c.samples_under.ensures ∙ ap (samples_under c.args.claim.section) (c.copied-block.ensures ∙ rw c.ring.ensures.ring (c.block.ensures c.args.m.now.ep)))
