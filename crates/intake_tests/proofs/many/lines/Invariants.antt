use Rattle.std.specs.Prelude.{All}
use Rattle.window_config.specs.Plans.{IsPlanLine}
use Rattle.intake_tests.proofs.many.lines.Given as goal

abbrev pub invariant-loop-j : goal.invariant-loop-j
invariant-loop-j l = All IsPlanLine l.lines
