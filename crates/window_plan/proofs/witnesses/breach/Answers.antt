use Rattle.std.proofs.Common.{sym, ◌∙◌}
use Rattle.window_plan.proofs.Parting.{extreme_breaks}
use Rattle.window_plan.proofs.witnesses.breach.Goals as goal

pub returns-else-is_met-clause-breaks : goal.returns-else-is_met-clause-breaks
returns-else-is_met-clause-breaks c = rw c.extreme.ensures (extreme_breaks c.args.r c.args.d.now c.requires (sym c.is_met.ensures ∙ c.if-is_met.false))
