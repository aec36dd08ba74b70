-- One record more.
use Rattle.std.proofs.Common.{refl}
use Rattle.explain_model.specs.Commanded.{nearest}
use Rattle.explain_model.specs.SilentReasons.{misses_prb}
use Rattle.explain_records.proofs.NearestLemmas.{nearest_on}
use Rattle.explain_records.proofs.given.nearest_missing.Goals as goal

pub loop-r-init : goal.loop-r-init
unfolding nearest
loop-r-init c = refl

pub loop-r-preserved : goal.loop-r-preserved
loop-r-preserved c = nearest_on (λ s. s.distance) (misses_prb c.args.key c.args.prb) c.args.given.now c.loop-r.r-index _ c.loop-r.nearest _ c.loop-r-test.true c.loop-r.invariant c.nearest_with-nearest.ensures
