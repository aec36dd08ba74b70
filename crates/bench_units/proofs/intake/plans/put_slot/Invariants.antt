use Rattle.std.specs.Prelude.{All}
use Rattle.window_config.specs.Plans.{IsPlanLine}
use Rattle.bench_units.proofs.intake.plans.put_slot.Given as goal

abbrev pub invariant-loop-endpoint : goal.invariant-loop-endpoint
invariant-loop-endpoint l = All IsPlanLine l.lines
