use Rattle.std.proofs.Common.{rules}
use Rattle.std.proofs.lemmas.List.Sorted.{answers_always}
use Rattle.frame_ways.proofs.RowLemmas.{rising, same_first}
use Rattle.frame_ways.proofs.rows.sort_by_number.Goals as goal

pub returns-clause-rising : goal.returns-clause-rising
returns-clause-rising c = rising _ (c.in_ok-sort_by_key.ensures.sorted (λ r. r.number) (answers_always _ _ _ (λ f a r q k. search rules)))

pub returns-clause-first : goal.returns-clause-first
returns-clause-first c = same_first _ _ (c.sort_by_key.ensures.stable (λ r. r.number) (answers_always _ _ _ (λ f a r q k. search rules)))
