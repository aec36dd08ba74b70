use Rattle.std.proofs.Common.{ap₂, sym, ◌∙◌}
use Rattle.unit_model.specs.Claims.{first_prb, prb_count, is_overlapped}
use Rattle.fh_base.specs.Lists.{some}
use Rattle.slot_rings.specs.Places.{claim_in}
use Rattle.slot_rings.specs.Rows.{row_claims}
use Rattle.slot_rings.proofs.JudgeLemmas.{inside}
use Rattle.slot_rings.proofs.RowLemmas.{some_in_run, run_at}
use Rattle.slot_rings.proofs.judging.symbol_clashes.Goals as goal

pub returns-in-Known : goal.returns-in-Known
returns-in-Known c = c.clashes.ensures
    ∙ ap₂ (λ f k. some f k (λ n. is_overlapped c.args.a.now.section c.args.a.now.mask (claim_in (row_claims c.in-Known.run' n)))) c.first_prb.ensures c.prb_count.ensures
    ∙ some_in_run c.args.a.now.endpoint.prbs c.args.claims.now c.args.symbol c.in-Known.run' (first_prb c.args.a.now) (prb_count c.args.a.now) c.args.a.now.section c.args.a.now.mask
    (run_at c.args.a.now.endpoint.prbs c.args.claims.now c.args.rows.now c.args.symbol c.in-Known.run' c.requires.rows (sym c.in-Known.is ∙ c.row_at.ensures)) (inside c.args.a.now c.requires.inside)
