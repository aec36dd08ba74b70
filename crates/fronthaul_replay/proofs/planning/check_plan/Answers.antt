use Rattle.document_traffic.proofs.LineLemmas.{lines_fit}
use Rattle.fronthaul_replay.proofs.planning.check_plan.Goals as goal

pub check-requires-clause-fit : goal.check-requires-clause-fit
check-requires-clause-fit c = lines_fit c.args.document.now.plan c.requires.plan
