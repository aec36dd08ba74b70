-- One record more.
use Rattle.std.proofs.Common.{refl}
use Rattle.explain_model.specs.SilentReasons.{last_of}
use Rattle.explain_model.specs.Keys.{beginning_key, same_symbol}
use Rattle.explain_records.proofs.NearestLemmas.{last_on}
use Rattle.explain_records.proofs.headers.last_begun.Goals as goal

pub loop-r-init : goal.loop-r-init
unfolding last_of
loop-r-init c = refl

pub loop-r-preserved : goal.loop-r-preserved
loop-r-preserved c = last_on (λ r. same_symbol (beginning_key r) c.args.key) c.args.begun.now c.loop-r.r-index _ c.loop-r.last _ c.loop-r-test.true c.loop-r.invariant c.last_with-last.ensures
