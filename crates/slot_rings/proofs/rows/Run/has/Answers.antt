use Rattle.std.proofs.Common.{ap, sym, ◌∙◌}
use Rattle.unit_model.specs.Claims.{is_claimed}
use Rattle.slot_rings.specs.Places.{claim_in}
use Rattle.slot_rings.specs.declared.claims.CellClaims.{CellClaims}
use Rattle.slot_rings.proofs.RowLemmas.{all_in_run, not_all_in_run}
use Rattle.slot_rings.proofs.rows.Run.has.Goals as goal

pub returns-then-covers : goal.returns-then-covers
returns-then-covers c = c.has.ensures ∙ ap (λ (m : CellClaims). is_claimed c.args.id c.args.mask (claim_in m)) c.claims.ensures
    ∙ all_in_run c.args.self c.args.first c.args.count c.args.id c.args.mask (sym c.covers.ensures ∙ c.if-covers.true) c.requires.some

pub returns-else-covers : goal.returns-else-covers
returns-else-covers c = c.has-else-covers.ensures
    ∙ not_all_in_run c.args.self c.args.first c.args.count c.args.id c.args.mask c.requires.some (sym c.covers.ensures ∙ c.if-covers.false)
