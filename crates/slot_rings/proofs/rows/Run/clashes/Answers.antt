use Rattle.std.proofs.Common.{ap, sym, ◌∙◌}
use Rattle.unit_model.specs.Claims.{is_overlapped}
use Rattle.slot_rings.specs.Places.{claim_in}
use Rattle.slot_rings.specs.declared.claims.CellClaims.{CellClaims}
use Rattle.slot_rings.proofs.RowLemmas.{meets_run, misses_run}
use Rattle.slot_rings.proofs.rows.Run.clashes.Goals as goal

pub returns-then-meets : goal.returns-then-meets
returns-then-meets c = c.clashes.ensures ∙ ap (λ (m : CellClaims). is_overlapped c.args.id c.args.mask (claim_in m)) c.claims.ensures
    ∙ meets_run c.args.self c.args.first c.args.count c.args.id c.args.mask (sym c.meets.ensures ∙ c.if-meets.true)

pub returns-else-meets : goal.returns-else-meets
returns-else-meets c = c.if-meets.false ∙ misses_run c.args.self c.args.first c.args.count c.args.id c.args.mask (sym c.meets.ensures ∙ c.if-meets.false)
