use Rattle.std.proofs.Common.{arith}
use Rattle.air_source.proofs.Blocks.{block_answered}
use Rattle.air_source.proofs.samples.Samples.block.Goals as goal

pub returns-clause-block : goal.returns-clause-block
returns-clause-block g c = λ answer by.
    block_answered _ answer c.args.id c.args.slot c.args.symbol c.args.prb c.loop-re.block c.loop-re.invariant.size c.loop-re.invariant.range
    (λ re lt. c.loop-re.invariant.done re (omega (arith, lt, c.loop-re-test.false))) by
