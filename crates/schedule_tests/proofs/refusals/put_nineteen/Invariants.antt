use Rattle.std.specs.Prelude.{All}
use Rattle.window_config.specs.Plans.{IsPlanLine}
use Rattle.schedule_tests.proofs.refusals.put_nineteen.Given as goal

abbrev pub invariant-loop-k : goal.invariant-loop-k
invariant-loop-k l = All IsPlanLine l.lines
