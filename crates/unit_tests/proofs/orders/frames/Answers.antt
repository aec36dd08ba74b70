use Rattle.unit_tests.proofs.StepLemmas.{none_timed, one_more_timed}
use Rattle.unit_tests.proofs.orders.frames.Goals as goal

pub returns : goal.returns
returns c =
    let of_0 = none_timed _ c.new-frames.ensures.items in
    let of_1 = one_more_timed _ _ _ c.in_ok-push.ensures.items of_0 c.in_ok-first.ensures in
    let of_2 = one_more_timed _ _ _ c.in_ok-push-2.ensures.items of_1 c.in_ok-second.ensures in
    let of_3 = one_more_timed _ _ _ c.in_ok-push-3.ensures.items of_2 c.in_ok-third.ensures in
    let of_4 = one_more_timed _ _ _ c.in_ok-push-4.ensures.items of_3 c.in_ok-fourth.ensures in
    let of_5 = one_more_timed _ _ _ c.in_ok-push-5.ensures.items of_4 c.in_ok-fifth.ensures in
    one_more_timed _ _ _ c.in_ok-push-6.ensures.items of_5 c.in_ok-sixth.ensures
