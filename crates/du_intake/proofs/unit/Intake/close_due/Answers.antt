use Rattle.std.proofs.lemmas.Result.{err_from_is_err_and}
use Rattle.unit_model.specs.Standing.{heard}
use Rattle.du_intake.proofs.LoopLemmas.{closing_goes, closing_starts, stops_then, symbols_fall, told_over}
use Rattle.du_intake.proofs.unit.Intake.close_due.Goals as goal

pub loop-next-init : goal.loop-next-init
loop-next-init g c =
    closing_starts g.A.Air.grew g.A.Air.same g.A.Air.faults c.args.to.0 c.args.self.now c.args.air.now g.met.A.Air.grew_none g.met.A.Air.same_none c.requires

pub loop-next-smaller : goal.loop-next-smaller
loop-next-smaller g c = symbols_fall c.loop-next.self c.close_symbol.new.self c.args.to.0 c.in-Some.next c.in-Some.ensures.some c.in_ok-close_symbol.ensures.plan c.in_ok-close_symbol.ensures.place

pub loop-next-preserved : goal.loop-next-preserved
loop-next-preserved g c =
    closing_goes g.A.Air.grew g.A.Air.same g.A.Air.faults c.args.to.0 c.args.self.now c.loop-next.self c.close_symbol.new.self c.args.air.now c.loop-next.air c.close_symbol.new.air
    c.in-Some.next g.met.A.Air.grew_more g.met.A.Air.same_more c.loop-next.invariant c.in-Some.ensures.some c.in_ok-close_symbol.ensures.told c.in_ok-close_symbol.ensures.clock c.in_ok-close_symbol.ensures.same
    c.in_ok-close_symbol.ensures.cause

pub returns-clause-told : goal.returns-clause-told
returns-clause-told g c k planned h all =
    told_over g.A.Air.grew c.args.to.0 c.loop-next.self c.args.air.now c.loop-next.air k planned h (c.loop-next.invariant.goes k planned h all) c.in_default.ensures.none

pub returns-in_err-close_symbol-clause-stop : goal.returns-in_err-close_symbol-clause-stop
returns-in_err-close_symbol-clause-stop g c k planned h all =
    let one = c.loop-next.invariant.goes k planned h all in
    let exit = err_from_is_err_and c.from_residual.result c.from_residual.ensures.1 in
    rw (exit.1, exit.2)
    (stops_then g.A.Air.grew (g.A.Air.stopped c.in_err-close_symbol.field-0.0) g.met.A.Air.grew_more c.args.to.0 c.loop-next.self c.close_symbol.new.self c.args.air.now c.loop-next.air c.close_symbol.new.air
    k planned h one (c.in_err-close_symbol.ensures.stop k planned (heard h one.told) c.args.to.0 one.closes c.in-Some.ensures.some.by))
