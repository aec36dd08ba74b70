use Rattle.std.proofs.Common.{◌≡◌, ℕ, inl, inr, arith, sym, ◌∙◌, subst, true}
use Rattle.std.proofs.lemmas.Bool.{cases_eq}
use Rattle.unit_model.specs.Claims.{first_prb, prb_count, cell_of, is_claimed}
use Rattle.fh_base.specs.Lists.{every}
use Rattle.slot_rings.specs.Places.{claims_in}
use Rattle.slot_rings.proofs.JudgeLemmas.{repeats_found, repeats_not}
use Rattle.slot_rings.proofs.judging.repeats.Goals as goal

pub returns-then-not-symbol_has : goal.returns-then-not-symbol_has
returns-then-not-symbol_has c = repeats_not (claims_in c.args.a.now.endpoint.prbs c.args.claims.now) c.args.a.now c.loop-symbol.symbol
    c.loop-symbol.auto.symbol c.loop-symbol-test.true (sym c.symbol_has.ensures ∙ c.if-not-symbol_has.true)

pub loop-symbol-preserved : goal.loop-symbol-preserved
loop-symbol-preserved c = record {
  all = λ y low high. elim (cases_eq y c.loop-symbol.symbol) [
    | inl e ↦ subst (λ (z : ℕ). every (first_prb c.args.a.now) (prb_count c.args.a.now)
        (λ n. is_claimed c.args.a.now.section c.args.a.now.mask (claims_in c.args.a.now.endpoint.prbs c.args.claims.now (cell_of c.args.a.now z n))) ≡ true)
        (sym e) (sym c.symbol_has.ensures ∙ c.if-not-symbol_has.false)
    | inr ne ↦ c.loop-symbol.invariant.all y low (omega (arith, ne, high))
  ];
}

pub returns : goal.returns
returns c = repeats_found (claims_in c.args.a.now.endpoint.prbs c.args.claims.now) c.args.a.now
    (λ y low high. c.loop-symbol.invariant.all y low (omega (arith, high, c.loop-symbol-test.false)))
