use Rattle.std.proofs.Common.{arith}
use Rattle.window_plan.proofs.Numbered.{numbered_are}
use Rattle.text_tests.proofs.made.endpoints.Goals as goal

pub returns-clause-endpoints : goal.returns-clause-endpoints
returns-clause-endpoints c = numbered_are c.loop-k.list c.args.first c.loop-k.k c.loop-k.invariant.count (omega (arith, c.requires.few, c.loop-k.auto.k-end)) c.loop-k.invariant.each
