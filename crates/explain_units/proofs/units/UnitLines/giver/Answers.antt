-- The first arrival, by what is kept of all.
use Rattle.std.proofs.Common.{◌∙◌}
use Rattle.explain_units.proofs.EventLemmas.{giver_after}
use Rattle.explain_units.proofs.units.UnitLines.giver.Goals as goal

pub returns : goal.returns
returns c side config events h same = c.giver.ensures ∙ giver_after side config events c.args.self.now c.args.cell.now h same
