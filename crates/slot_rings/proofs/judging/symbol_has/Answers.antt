use Rattle.std.proofs.Common.{ap₂, sym, ◌∙◌}
use Rattle.unit_model.specs.Claims.{first_prb, prb_count, is_claimed}
use Rattle.fh_base.specs.Lists.{every}
use Rattle.slot_rings.specs.Places.{claim_in}
use Rattle.slot_rings.specs.Rows.{row_claims}
use Rattle.slot_rings.proofs.JudgeLemmas.{inside}
use Rattle.slot_rings.proofs.RowLemmas.{every_in_run, run_at}
use Rattle.slot_rings.proofs.judging.symbol_has.Goals as goal

pub returns-in-Known : goal.returns-in-Known
returns-in-Known c = c.has.ensures
    ∙ ap₂ (λ f k. every f k (λ n. is_claimed c.args.a.now.section c.args.a.now.mask (claim_in (row_claims c.in-Known.run' n)))) c.first_prb.ensures c.prb_count.ensures
    ∙ every_in_run c.args.a.now.endpoint.prbs c.args.claims.now c.args.symbol c.in-Known.run' (first_prb c.args.a.now) (prb_count c.args.a.now) c.args.a.now.section c.args.a.now.mask
    (run_at c.args.a.now.endpoint.prbs c.args.claims.now c.args.rows.now c.args.symbol c.in-Known.run' c.requires.rows (sym c.in-Known.is ∙ c.row_at.ensures)) (inside c.args.a.now c.requires.inside)
