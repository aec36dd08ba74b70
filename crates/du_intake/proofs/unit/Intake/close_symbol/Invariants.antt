use Rattle.du_intake.proofs.LoopLemmas.{IsReporting}
use Rattle.du_intake.proofs.unit.Intake.close_symbol.Given as goal

abbrev pub invariant-loop-prb : goal.invariant-loop-prb
invariant-loop-prb g l = IsReporting g.A.Air.grew g.A.Air.same g.A.Air.faults l.m l.initial.self l.self l.prb l.initial.air l.air
