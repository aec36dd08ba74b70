use Rattle.std.proofs.Common.{arith}
use Rattle.std.proofs.lemmas.Int.{ints}
use Rattle.window_config.proofs.relations.right.Goals as goal

pub returns-in-HoldDl : goal.returns-in-HoldDl
returns-in-HoldDl c = rw c.in-HoldDl.is (omega (arith, ints, c.requires.t1a_up.low, c.requires.t1a_up.order, c.requires.t1a_up.high, c.requires.t12.low, c.requires.t12.order, c.requires.t12.high))

pub returns-in-HoldUl : goal.returns-in-HoldUl
returns-in-HoldUl c = rw c.in-HoldUl.is (omega (arith, ints, c.requires.ta3.low, c.requires.ta3.order, c.requires.ta3.high, c.requires.t34.low, c.requires.t34.order, c.requires.t34.high))
