use Rattle.schedule_laws.proofs.EndpointTestLemmas.{Found}
use Rattle.du_scheduler.proofs.judging.judge_lines.Given as goal

abbrev pub invariant-loop-ep : goal.invariant-loop-ep
invariant-loop-ep l = Found l.lines l.ep l.least
