use Rattle.explain_records.proofs.NoneLemmas.{pushed}
use Rattle.explain_records.proofs.fragment_records.no_generations.Goals as goal

pub loop-k-preserved : goal.loop-k-preserved
loop-k-preserved c = λ k o. rw c.in_ok-push.ensures.items (pushed c.loop-k.last.items c.loop-k.invariant k o)
