use Rattle.std.proofs.Common.{ℕ, ◌+◌, arith, sym, ap, ◌∙◌}
use Rattle.explain_model.specs.Judged.{clash_at}
use Rattle.explain_units.proofs.RestLemmas.{first_ends_at, first_found, first_goes}
use Rattle.unit_model.specs.Claims.{first_prb, prb_count}
use Rattle.explain_units.proofs.claims.Claims.clash_in.Goals as goal

pub returns-in-Some : goal.returns-in-Some
returns-in-Some c =
    first_found (λ n. clash_at c.args.self.now c.args.a.now c.args.symbol n) (first_prb c.args.a.now) (prb_count c.args.a.now) c.loop-k.k _ c.in-Some.clash
    (omega (arith, c.loop-k-test.true, c.prbs-prbs.ensures.count)) c.loop-k.invariant
    (ap (λ (n : ℕ). clash_at c.args.self.now c.args.a.now c.args.symbol (n + c.loop-k.k)) (sym c.prbs-prbs.ensures.first) ∙ sym c.in-Some.ensures)

pub loop-k-preserved : goal.loop-k-preserved
loop-k-preserved c =
    first_goes (λ n. clash_at c.args.self.now c.args.a.now c.args.symbol n) (first_prb c.args.a.now) (prb_count c.args.a.now) c.loop-k.k _
    (omega (arith, c.loop-k-test.true, c.prbs-prbs.ensures.count)) c.loop-k.invariant
    (ap (λ (n : ℕ). clash_at c.args.self.now c.args.a.now c.args.symbol (n + c.loop-k.k)) (sym c.prbs-prbs.ensures.first) ∙ sym c.in_default.ensures)

pub returns : goal.returns
returns c =
    first_ends_at (λ n. clash_at c.args.self.now c.args.a.now c.args.symbol n) (first_prb c.args.a.now) (prb_count c.args.a.now) c.loop-k.k _
    (omega (arith, c.loop-k-test.false, c.loop-k.auto.k-end, c.prbs-prbs.ensures.count)) c.loop-k.invariant
