use Rattle.std.proofs.Common.{rules}
use Rattle.std.proofs.lemmas.List.Sorted.{answers_always}
use Rattle.frame_ways.proofs.QueueLemmas.{rising, same_order}
use Rattle.frame_ways.proofs.sorting.sort_by_time.Goals as goal

pub returns-clause-rising : goal.returns-clause-rising
returns-clause-rising c = rising _ (c.in_ok-sort_by_key.ensures.sorted (λ l. l.at.0) (answers_always _ _ _ (λ f a r q k. search rules)))

pub returns-clause-at_time : goal.returns-clause-at_time
returns-clause-at_time c = same_order _ _ (c.sort_by_key.ensures.stable (λ l. l.at.0) (answers_always _ _ _ (λ f a r q k. search rules)))
