use Rattle.std.proofs.Common.{arith}
use Rattle.std.proofs.lemmas.Int.{ints}
use Rattle.window_plan.proofs.Cases.{made_of}
use Rattle.window_plan.proofs.fitting.fitted_in_order.Goals as goal

pub returns : goal.returns
returns c =
    made_of c.args.d.now _ _ _ _ _ _ c.requires c.in_ok-t1a_up.ensures.value c.in_ok-t1a_cp_ul.ensures.value c.in_ok-ta4.ensures.value
    (omega (arith, ints)) (omega (arith, ints, c.hold_for.ensures)) (omega (arith, ints, c.hold_for-2.ensures))
