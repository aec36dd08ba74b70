-- By what the sort ensures.
use Rattle.std.proofs.Common.{rules}
use Rattle.std.proofs.lemmas.List.Sorted.{answers_always}
use Rattle.du_intake.proofs.ListingLemmas.{ascending}
use Rattle.du_intake.proofs.symbols.sort_by_start.Goals as goal

pub returns-clause-order : goal.returns-clause-order
returns-clause-order c = ascending _ (c.in_ok-sort_by_key.ensures.sorted (λ s. s.start.0) (answers_always _ _ _ (λ f a r q k. search rules)))

pub returns-clause-stable : goal.returns-clause-stable
returns-clause-stable c = c.sort_by_key.ensures.stable (λ s. s.start.0) (answers_always _ _ _ (λ f a r q k. search rules))
