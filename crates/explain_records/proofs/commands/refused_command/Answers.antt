-- One record more.
use Rattle.std.proofs.Common.{refl}
use Rattle.explain_model.specs.Commanded.{is_refused_for, nearest}
use Rattle.explain_records.specs.Elements.{elements}
use Rattle.explain_records.proofs.NearestLemmas.{nearest_on}
use Rattle.explain_records.proofs.commands.refused_command.Goals as goal

pub loop-r-init : goal.loop-r-init
unfolding nearest
loop-r-init c = refl

pub loop-r-preserved : goal.loop-r-preserved
loop-r-preserved c = nearest_on (λ s. s.distance) (is_refused_for (elements c.args.asked.now)) c.args.commanded.now c.loop-r.r-index _ c.loop-r.nearest _ c.loop-r-test.true c.loop-r.invariant c.nearest_with-nearest.ensures
