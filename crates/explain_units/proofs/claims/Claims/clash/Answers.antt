use Rattle.std.proofs.Common.{arith, sym}
use Rattle.explain_model.specs.Judged.{clash_at, first_at}
use Rattle.explain_units.proofs.RestLemmas.{clash_begins, first_ends_at, first_found, first_goes}
use Rattle.unit_model.specs.Claims.{first_prb, prb_count}
use Rattle.explain_units.proofs.claims.Claims.clash.Goals as goal

pub loop-k-init : goal.loop-k-init
loop-k-init c = clash_begins c.args.self.now c.args.a.now

pub returns-in-Some : goal.returns-in-Some
returns-in-Some c =
    first_found (λ y. first_at (first_prb c.args.a.now) (prb_count c.args.a.now) (λ n. clash_at c.args.self.now c.args.a.now y n)) c.args.a.now.symbol c.args.a.now.num_symbol c.loop-k.k _ c.in-Some.clash
    c.loop-k-test.true c.loop-k.invariant (sym c.in-Some.ensures)

pub loop-k-preserved : goal.loop-k-preserved
loop-k-preserved c =
    first_goes (λ y. first_at (first_prb c.args.a.now) (prb_count c.args.a.now) (λ n. clash_at c.args.self.now c.args.a.now y n)) c.args.a.now.symbol c.args.a.now.num_symbol c.loop-k.k _
    c.loop-k-test.true c.loop-k.invariant (sym c.in_default.ensures)

pub returns : goal.returns
returns c =
    first_ends_at (λ y. first_at (first_prb c.args.a.now) (prb_count c.args.a.now) (λ n. clash_at c.args.self.now c.args.a.now y n)) c.args.a.now.symbol c.args.a.now.num_symbol c.loop-k.k _
    (omega (arith, c.loop-k-test.false, c.loop-k.auto.k-end)) c.loop-k.invariant
