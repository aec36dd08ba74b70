-- By what the sort ensures.
use Rattle.std.proofs.Common.{rules}
use Rattle.std.proofs.lemmas.List.Sorted.{answers_always}
use Rattle.why_lines.specs.Starts.{start_key}
use Rattle.why_lines.proofs.OrderLemmas.{sorted_is}
use Rattle.why_lines.proofs.starts.sort_by_start.Goals as goal

pub returns : goal.returns
returns c =
    sorted_is _ _ (c.in_ok-sort_by_key.ensures.sorted start_key (answers_always _ _ _ (λ f a r q k. search rules)))
    (c.sort_by_key.ensures.stable start_key (answers_always _ _ _ (λ f a r q k. search rules)))
