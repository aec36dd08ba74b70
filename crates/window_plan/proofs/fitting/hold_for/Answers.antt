use Rattle.std.proofs.Common.{arith}
use Rattle.std.proofs.lemmas.Int.{ints}
use Rattle.window_plan.proofs.fitting.hold_for.Goals as goal

pub returns : goal.returns
returns c = omega (arith, ints, c.requires.sent.low, c.requires.sent.order, c.requires.sent.high, c.requires.delay.low, c.requires.delay.order, c.requires.delay.high)
