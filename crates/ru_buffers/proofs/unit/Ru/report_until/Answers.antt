use Rattle.std.proofs.lemmas.Result.{err_from_is_err_and}
use Rattle.unit_model.specs.Standing.{heard}
use Rattle.ru_buffers.proofs.LoopLemmas.{goes_some, loop_falls, next_some, over_at_none, reporting_goes, reporting_starts, stops_then, told_over}
use Rattle.ru_buffers.proofs.unit.Ru.report_until.Goals as goal

pub loop-reported-init : goal.loop-reported-init
loop-reported-init g c = reporting_starts g.A.Air.grew g.A.Air.same g.A.Air.faults c.args.to.0 c.args.self.now c.args.air.now g.met.A.Air.grew_none g.met.A.Air.same_none c.requires.next

pub loop-reported-smaller : goal.loop-reported-smaller
loop-reported-smaller g c =
    loop_falls g.A.Air.grew g.A.Air.same g.A.Air.faults c.args.to.0 c.args.self.now c.loop-reported.self c.report_next.new.self c.args.air.now c.loop-reported.air
    c.loop-reported.last c.in-Some.reported c.requires.few c.requires.low c.loop-reported.invariant
    (next_some c.loop-reported.self.clock.0 c.args.to.0 c.loop-reported.self.memory.cells c.report_next.new.self.memory.cells c.in_ok-reported.field-0 c.in-Some.reported c.in-Some.is
    c.in_ok-reported.ensures.order)

pub loop-reported-preserved : goal.loop-reported-preserved
loop-reported-preserved g c =
    let next = c.in_ok-reported.ensures in
    reporting_goes g.A.Air.grew g.A.Air.same g.A.Air.faults c.args.to.0 c.args.self.now c.loop-reported.self c.report_next.new.self c.args.air.now c.loop-reported.air
    c.report_next.new.air c.loop-reported.last c.in-Some.reported g.met.A.Air.grew_more g.met.A.Air.same_more c.requires.few c.requires.low c.loop-reported.invariant
    (λ k h all. goes_some g.A.Air.grew k h c.args.to.0 c.loop-reported.self c.report_next.new.self c.loop-reported.air c.report_next.new.air c.in_ok-reported.field-0 c.in-Some.reported
    c.in-Some.is (next.told k h all))
    (next_some c.loop-reported.self.clock.0 c.args.to.0 c.loop-reported.self.memory.cells c.report_next.new.self.memory.cells c.in_ok-reported.field-0 c.in-Some.reported c.in-Some.is
    next.order) next.clock next.cursor next.next next.known next.endpoints next.same next.cause

pub returns-clause-told : goal.returns-clause-told
returns-clause-told g c k h all =
    let one = c.loop-reported.invariant.goes k h all in
    told_over g.A.Air.grew c.args.to.0 c.loop-reported.self c.report_next.new.self c.args.air.now c.loop-reported.air c.report_next.new.air k h one
    (over_at_none g.A.Air.grew k (heard h one.told) c.args.to.0 c.loop-reported.self c.report_next.new.self c.loop-reported.air c.report_next.new.air c.in_ok-reported.field-0
    c.in_default.is (c.in_ok-reported.ensures.told k (heard h one.told) one.stands))

pub returns-in_err-reported-clause-stop : goal.returns-in_err-reported-clause-stop
returns-in_err-reported-clause-stop g c k h all =
    let one = c.loop-reported.invariant.goes k h all in
    let exit = err_from_is_err_and c.from_residual.result c.from_residual.ensures.1 in
    rw (exit.1, exit.2)
    (stops_then g.A.Air.grew (g.A.Air.stopped c.in_err-reported.field-0.0) g.met.A.Air.grew_more c.args.to.0 c.loop-reported.self c.report_next.new.self c.args.air.now c.loop-reported.air
    c.report_next.new.air k h one (c.in_err-reported.ensures.stop k (heard h one.told) one.stands))
