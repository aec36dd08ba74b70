-- By what the sort ensures.
use Rattle.std.proofs.Common.{rules}
use Rattle.std.proofs.lemmas.List.Sorted.{answers_always}
use Rattle.explain_records.proofs.RecordLemmas.{same_records}
use Rattle.explain_records.specs.Order.{order_of}
use Rattle.explain_records.proofs.records.sort_by_order.Goals as goal

pub returns-clause-order : goal.returns-clause-order
returns-clause-order g c = c.in_ok-sort_by_key.ensures.sorted (λ r. order_of (g.R.Keyed.key_of r)) (answers_always _ _ _ (λ f a r q k. search rules))

pub returns-clause-same : goal.returns-clause-same
returns-clause-same g c = same_records g.R.Keyed.key_of _ _ (c.sort_by_key.ensures.stable (λ r. order_of (g.R.Keyed.key_of r)) (answers_always _ _ _ (λ f a r q k. search rules)))
