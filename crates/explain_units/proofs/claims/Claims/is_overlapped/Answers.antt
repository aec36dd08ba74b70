use Rattle.std.proofs.Common.{arith, sym}
use Rattle.explain_units.specs.Claims.{is_clashing}
use Rattle.explain_units.proofs.RestLemmas.{some_ends_at, some_found, some_goes}
use Rattle.unit_model.specs.Claims.{cell_of, claim_at}
use Rattle.explain_units.proofs.claims.Claims.is_overlapped.Goals as goal

pub returns-then-is_clashing : goal.returns-then-is_clashing
returns-then-is_clashing c =
    some_found (is_clashing c.args.a.now (claim_at c.args.self.now (cell_of c.args.a.now c.args.symbol c.args.prb))) c.loop-element.element (omega (arith, c.loop-element-test.true))
    c.loop-element.invariant (sym c.if-is_clashing.ensures)

pub loop-element-preserved : goal.loop-element-preserved
loop-element-preserved c =
    some_goes (is_clashing c.args.a.now (claim_at c.args.self.now (cell_of c.args.a.now c.args.symbol c.args.prb))) c.loop-element.element (omega (arith, c.loop-element-test.true))
    c.loop-element.invariant (sym c.if-is_clashing.ensures)

pub returns : goal.returns
returns c =
    some_ends_at (is_clashing c.args.a.now (claim_at c.args.self.now (cell_of c.args.a.now c.args.symbol c.args.prb))) c.loop-element.element
    (omega (arith, c.loop-element-test.false, c.loop-element.auto.element-end)) c.loop-element.invariant
