use Rattle.std.proofs.Common.{pos, ◌≤ℤ◌, arith}
use Rattle.std.proofs.lemmas.Int.{ints}
use Rattle.std.proofs.lemmas.Result.{IfOk-weaker}
use Rattle.unit_model.specs.Radiated.{first_clock}
use Rattle.replay_tests.proofs.moments.meters_of.Goals as goal

clock_early : first_clock ≤ℤ pos 0
clock_early = omega (arith, ints)

pub returns : goal.returns
returns c = IfOk-weaker c.make.result _ _ (λ m h. h first_clock clock_early) c.make.ensures
