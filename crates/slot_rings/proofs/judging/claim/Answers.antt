use Rattle.slot_rings.proofs.RowLemmas.{rows_grown}
use Rattle.slot_rings.proofs.judging.claim.Goals as goal

pub returns-clause-rows : goal.returns-clause-rows
returns-clause-rows c = rows_grown c.args.a.now.endpoint.prbs c.args.claims.now.items c.claim_cells.new.claims.items c.args.rows.now c.note.new.rows c.args.a.now
    c.requires.rows c.note.ensures.grown c.note.ensures.others c.claim_cells.ensures.each
