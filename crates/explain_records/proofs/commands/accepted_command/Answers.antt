-- The first that passes.
use Rattle.std.proofs.Common.{sym, ◌∙◌}
use Rattle.explain_model.specs.Commanded.{accepted_command, is_accepted_for}
use Rattle.explain_records.specs.Elements.{elements}
use Rattle.explain_records.proofs.NearestLemmas.{find_all, find_here, find_step}
use Rattle.explain_records.proofs.commands.accepted_command.Goals as goal

pub loop-r-preserved : goal.loop-r-preserved
loop-r-preserved c = find_step (is_accepted_for (elements c.args.asked.now)) c.args.commanded.now c.loop-r.r-index _ c.loop-r-test.true c.loop-r.invariant (sym c.is_accepted_for.ensures ∙ c.if-is_accepted_for.false)

pub returns-then-is_accepted_for : goal.returns-then-is_accepted_for
unfolding accepted_command
returns-then-is_accepted_for c = (find_here (is_accepted_for (elements c.args.asked.now)) c.args.commanded.now c.loop-r.r-index _ c.loop-r-test.true c.loop-r.invariant (sym c.is_accepted_for.ensures ∙ c.if-is_accepted_for.true))

pub returns : goal.returns
unfolding accepted_command
returns c = (sym (find_all (is_accepted_for (elements c.args.asked.now)) c.args.commanded.now c.loop-r.r-index c.loop-r-test.false c.loop-r.invariant))
