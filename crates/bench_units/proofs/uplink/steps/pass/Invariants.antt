use Rattle.uplink_path.specs.Steps.{IsSenderOf, IsUnitOf}
use Rattle.bench_units.proofs.uplink.steps.pass.Given as goal

abbrev pub invariant-loop : goal.invariant-loop
invariant-loop g l = record {
  unit : IsUnitOf l.config l.unit;
  sender : IsSenderOf (λ f p. goal.F-pre g f p) (λ f p w. goal.F-post g f p w) l.config l.uplink;
}
