use Rattle.std.proofs.lemmas.Result.{err_from_is_err_and}
use Rattle.std.proofs.Common.{arith}
use Rattle.unit_model.specs.Standing.{heard}
use Rattle.du_intake.specs.Closing.{at_prb}
use Rattle.du_intake.proofs.CloseLemmas.{closes_claimed}
use Rattle.du_intake.proofs.NextLemmas.{symbol_below}
use Rattle.du_intake.proofs.LoopLemmas.{claimed_next, claimed_some, claimed_wait, reporting_goes, reporting_starts, same_wait, stops_then, symbol_goes}
use Rattle.du_intake.proofs.unit.Intake.close_symbol.Goals as goal

pub loop-prb-init : goal.loop-prb-init
loop-prb-init g c =
    let u = c.args.self.now in
    let start = c.claim.new.self in
    reporting_starts g.A.Air.grew g.A.Air.same g.A.Air.faults c.args.m.now start c.args.air.now g.met.A.Air.grew_none g.met.A.Air.same_none
    (claimed_some u start c.claim.ensures.stays c.claim.ensures.room c.requires.unit) (claimed_next u start c.args.m.now c.claim.ensures.stays c.requires.next) c.claim.ensures.claims

pub returns-in_err-close_cell-clause-stop : goal.returns-in_err-close_cell-clause-stop
returns-in_err-close_cell-clause-stop g c k planned h to all order =
    let u = c.args.self.now in
    let start = c.claim.new.self in
    let now = c.loop-prb.self in
    let wait = claimed_wait u start c.args.m.now to c.claim.ensures.stays order in
    let one = c.loop-prb.invariant.goes k planned h to (closes_claimed k planned u start h c.claim.ensures.stays c.claim.ensures.room all) wait in
    let exit = err_from_is_err_and c.from_residual.result c.from_residual.ensures.1 in
    rw (exit.1, exit.2)
    (stops_then g.A.Air.grew (g.A.Air.stopped c.in_err-close_cell.field-0.0) g.met.A.Air.grew_more to (at_prb now c.loop-prb.prb) c.close_cell.new.self c.args.air.now c.loop-prb.air c.close_cell.new.air
    k planned h one (c.in_err-close_cell.ensures.stop k planned (heard h one.told) to one.closes (same_wait start now c.loop-prb.invariant.stays c.args.m.now to wait)))

pub loop-prb-preserved : goal.loop-prb-preserved
loop-prb-preserved g c =
    reporting_goes g.A.Air.grew g.A.Air.same g.A.Air.faults c.args.m.now c.claim.new.self c.loop-prb.self c.close_cell.new.self c.loop-prb.prb c.args.air.now c.loop-prb.air
    c.close_cell.new.air g.met.A.Air.grew_more g.met.A.Air.same_more c.loop-prb.invariant c.in_ok-close_cell.ensures.told c.in_ok-close_cell.ensures.stays c.in_ok-close_cell.ensures.same c.in_ok-close_cell.ensures.cause

pub overflow_add-self : goal.overflow_add-self
overflow_add-self g c =
    let now = c.loop-prb.self in
    let below = symbol_below now.memory.endpoints.items now.plan now.place.symbol c.args.m.now c.loop-prb.invariant.next in
    let small = now.plan.symbols.small in
    let same = now.plan.symbols.ok.0 in
    let most = now.plan.symbols.ok.1 in
    omega (arith, below, small, same, most)

pub returns-clause-told : goal.returns-clause-told
returns-clause-told g c k planned h to all order =
    let u = c.args.self.now in
    let start = c.claim.new.self in
    symbol_goes g.A.Air.grew g.A.Air.same g.A.Air.faults c.args.m.now start c.loop-prb.self c.loop-prb.prb c.args.air.now c.loop-prb.air c.loop-prb.invariant c.loop-prb-test.false
    k planned h to (closes_claimed k planned u start h c.claim.ensures.stays c.claim.ensures.room all) (claimed_wait u start c.args.m.now to c.claim.ensures.stays order)
