use Rattle.uplink_path.specs.Steps.{IsSenderOf, IsUnitOf}
use Rattle.schedule_tests.proofs.numbers.send_in_turn.Given as goal

abbrev pub invariant-loop-turn : goal.invariant-loop-turn
invariant-loop-turn g l = record {
  unit : IsUnitOf l.config l.unit;
  sender : IsSenderOf (λ f p. goal.F-pre g f p) (λ f p w. goal.F-post g f p w) l.config l.uplink;
}
