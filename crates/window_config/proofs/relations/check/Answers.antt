use Rattle.window_config.proofs.Checking.{checked_passes, checked_first}
use Rattle.window_config.proofs.relations.check.Goals as goal

pub returns-clause-passes : goal.returns-clause-passes
returns-clause-passes c = rw c.tested_in_order.ensures (checked_passes c.args.d.now)

pub returns-clause-first : goal.returns-clause-first
returns-clause-first c = rw c.tested_in_order.ensures (checked_first c.args.d.now)
