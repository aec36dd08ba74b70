use Rattle.std.proofs.Common.{List, length}
use Rattle.delay_measure.specs.declared.edge.Compensation.{Compensation}
use Rattle.delay_laws.specs.Ticks.{Begin}
use Rattle.delay_model.specs.Doings.{Doings}
use Rattle.unit_meters.specs.Begins.{MetersStand}
use Rattle.unit_meters.proofs.BeginLemmas.{IsBeginning}
use Rattle.unit_meters.proofs.meters.Meters.begin.Given as goal

abbrev pub invariant-loop-k : goal.invariant-loop-k
invariant-loop-k l = (bs : List Begin) (cr cd : Compensation) (x y : Doings) → MetersStand bs l.tick.0 cr cd x y l.initial.self
    → IsBeginning bs l.tick.0 cr cd x y l.self

abbrev pub decreases-loop-k : goal.decreases-loop-k
decreases-loop-k l = length l.self.waiting
