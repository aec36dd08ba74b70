use Rattle.ru_buffers.specs.Advancing.{ranks_left}
use Rattle.ru_buffers.proofs.LoopLemmas.{IsReporting}
use Rattle.ru_buffers.proofs.unit.Ru.report_until.Given as goal

abbrev pub invariant-loop-reported : goal.invariant-loop-reported
invariant-loop-reported g l = IsReporting g.A.Air.grew g.A.Air.same g.A.Air.faults l.to.0 l.initial.self l.self l.initial.air l.air l.last

abbrev pub decreases-loop-reported : goal.decreases-loop-reported
decreases-loop-reported g l = ranks_left l.to.0 l.last
