use Rattle.std.proofs.Common.{◌≡◌, ℕ, inl, inr, arith, sym, ◌∙◌, subst, false}
use Rattle.std.proofs.lemmas.Bool.{cases_eq}
use Rattle.unit_model.specs.Claims.{first_prb, prb_count, cell_of, is_overlapped}
use Rattle.fh_base.specs.Lists.{some}
use Rattle.slot_rings.specs.Places.{claims_in}
use Rattle.slot_rings.proofs.JudgeLemmas.{overlaps_none, overlaps_found}
use Rattle.slot_rings.proofs.judging.overlaps.Goals as goal

pub returns-then-symbol_clashes : goal.returns-then-symbol_clashes
returns-then-symbol_clashes c = overlaps_found (claims_in c.args.a.now.endpoint.prbs c.args.claims.now) c.args.a.now c.loop-symbol.symbol
    c.loop-symbol.auto.symbol c.loop-symbol-test.true (sym c.symbol_clashes.ensures ∙ c.if-symbol_clashes.true)

pub loop-symbol-preserved : goal.loop-symbol-preserved
loop-symbol-preserved c = record {
  all = λ y low high. elim (cases_eq y c.loop-symbol.symbol) [
    | inl e ↦ subst (λ (z : ℕ). some (first_prb c.args.a.now) (prb_count c.args.a.now)
        (λ n. is_overlapped c.args.a.now.section c.args.a.now.mask (claims_in c.args.a.now.endpoint.prbs c.args.claims.now (cell_of c.args.a.now z n))) ≡ false)
        (sym e) (sym c.symbol_clashes.ensures ∙ c.if-symbol_clashes.false)
    | inr ne ↦ c.loop-symbol.invariant.all y low (omega (arith, ne, high))
  ];
}

pub returns : goal.returns
returns c = overlaps_none (claims_in c.args.a.now.endpoint.prbs c.args.claims.now) c.args.a.now
    (λ y low high. c.loop-symbol.invariant.all y low (omega (arith, high, c.loop-symbol-test.false)))
