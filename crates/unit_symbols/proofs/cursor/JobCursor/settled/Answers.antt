use Rattle.std.proofs.Common.{subst, sym, ◌∙◌}
use Rattle.unit_symbols.specs.Cursors.{Settled}
use Rattle.unit_symbols.specs.declared.cursor.JobCursor.{JobCursor}
use Rattle.unit_symbols.proofs.StepLemmas.{settled_past, settled_there}
use Rattle.unit_symbols.proofs.cursor.JobCursor.settled.Goals as goal

pub returns-then-is_past : goal.returns-then-is_past
returns-then-is_past c =
    subst (λ (x : JobCursor). Settled c.args.clock.0 c.args.self.now x) (sym c.start.ensures)
    (settled_past c.args.clock.0 c.args.self.now c.later-since.result c.later-since.ensures (sym c.is_past.ensures ∙ c.if-is_past.true))

pub returns-else-is_past : goal.returns-else-is_past
returns-else-is_past c = settled_there c.args.clock.0 c.args.self.now c.later-since.result c.later-since.ensures
