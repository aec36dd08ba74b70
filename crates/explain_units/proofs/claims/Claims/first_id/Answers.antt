use Rattle.std.proofs.Common.{arith, sym}
use Rattle.explain_units.proofs.RestLemmas.{id_ends_at, id_found, id_goes}
use Rattle.unit_model.specs.Claims.{cell_of, claim_at}
use Rattle.explain_units.proofs.claims.Claims.first_id.Goals as goal

pub returns-in-Some : goal.returns-in-Some
returns-in-Some c =
    id_found (claim_at c.args.self.now (cell_of c.args.a.now c.args.symbol c.args.prb)) c.loop-element.element c.in-Some.id (omega (arith, c.loop-element-test.true)) c.loop-element.invariant
    (sym c.in-Some.ensures)

pub loop-element-preserved : goal.loop-element-preserved
loop-element-preserved c =
    id_goes (claim_at c.args.self.now (cell_of c.args.a.now c.args.symbol c.args.prb)) c.loop-element.element (omega (arith, c.loop-element-test.true)) c.loop-element.invariant (sym c.in_default.ensures)

pub returns : goal.returns
returns c =
    id_ends_at (claim_at c.args.self.now (cell_of c.args.a.now c.args.symbol c.args.prb)) c.loop-element.element (omega (arith, c.loop-element-test.false, c.loop-element.auto.element-end))
    c.loop-element.invariant
