-- By what the sort ensures.
use Rattle.std.proofs.Common.{rules}
use Rattle.std.proofs.lemmas.List.Sorted.{answers_always, length_permutation}
use Rattle.fh_base.proofs.OrderedLemmas.{ordered_from}
use Rattle.du_scheduler.proofs.PlanPartLemmas.{part_ranks}
use Rattle.du_scheduler.specs.Keys.{key_of}
use Rattle.du_scheduler.specs.Parts.{part_first}
use Rattle.du_scheduler.proofs.parts.sort_parts.Goals as goal

pub returns-clause-order : goal.returns-clause-order
returns-clause-order c = ordered_from part_first part_ranks _ (c.in_ok-sort_by_key.ensures.sorted key_of (answers_always _ _ _ (λ f a r q k. search rules)))

pub returns-clause-stable : goal.returns-clause-stable
returns-clause-stable c = c.sort_by_key.ensures.stable key_of (answers_always _ _ _ (λ f a r q k. search rules))

pub returns-clause-len : goal.returns-clause-len
returns-clause-len c = length_permutation _ _ c.sort_by_key.ensures.permutation
