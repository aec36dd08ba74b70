use Rattle.std.proofs.Common.{◌∙◌}
use Rattle.explain_records.proofs.HeardOrderLemmas.{answers_order}
use Rattle.explain_records.proofs.heard_records.HeardRecords.order.Goals as goal

pub returns : goal.returns
returns c =
    answers_order c.args.self _ _ _ _ _ _ _ _ c.order.result c.repeated.ensures c.repeated-2.ensures (λ side hold xs h. c.as_slice.ensures.value ∙ c.in_ok-ru.ensures side hold xs h)
    (λ side hold xs h. c.as_slice-2.ensures.value ∙ c.in_ok-du.ensures side hold xs h) c.in_ok-keep_repeated.ensures c.in_ok-keep_repeated-2.ensures c.in_ok-keep_begun.ensures
    c.in_ok-keep_begun-2.ensures c.order.ensures
