use Rattle.std.specs.Prelude.{All}
use Rattle.window_config.specs.Plans.{IsPlanLine}
use Rattle.bench_units.proofs.intake.plans.lines.Given as goal

abbrev pub invariant-loop-k : goal.invariant-loop-k
invariant-loop-k l = All IsPlanLine l.plan
