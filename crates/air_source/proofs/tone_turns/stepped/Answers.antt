use Rattle.std.proofs.Common.{arith}
use Rattle.air_source.proofs.Sums.{less_is, sum_is}
use Rattle.air_source.proofs.tone_turns.stepped.Goals as goal

pub returns-then-less-sum-clause-value : goal.returns-then-less-sum-clause-value
returns-then-less-sum-clause-value c = λ v n rest step. less_is c.args.rest c.args.step c.args.turn v n c.requires.most c.requires.rest c.requires.step (omega (arith, c.if-less-sum.true)) rest step

pub returns-else-less-sum-clause-value : goal.returns-else-less-sum-clause-value
returns-else-less-sum-clause-value c = λ v n rest step. sum_is c.args.rest c.args.step c.args.turn v n c.requires.most c.requires.rest c.requires.step (λ lt. omega (arith, lt, c.if-less-sum.false)) rest step
