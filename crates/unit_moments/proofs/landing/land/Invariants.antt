use Rattle.std.proofs.Common.{◌≡◌, List}
use Rattle.delay_measure.specs.declared.edge.Compensation.{Compensation}
use Rattle.delay_model.specs.Doings.{Doings}
use Rattle.frame_ways.specs.Ways.{OnWay, frames_on_way}
use Rattle.unit_model.specs.Standing.{History}
use Rattle.unit_model.specs.declared.allocations.Allocation.{Allocation}
use Rattle.window_config.specs.declared.config.Config.{Config}
use Rattle.unit_moments.specs.Landing.{MayLand}
use Rattle.unit_moments.proofs.LandLemmas.{AreTold}
use Rattle.unit_moments.proofs.landing.land.Given as goal

abbrev pub invariant-loop-frame : goal.invariant-loop-frame
invariant-loop-frame g l = record {
  lands : (v : OnWay) (c : Compensation) (x : Doings) → MayLand v l.tick.0 c x l.initial.way l.initial.meter
      → AreTold g.A.ListeningAir.grew l.side v l.tick.0 c x (λ k planned h. g.U.TakesFrames.may_take l.initial.unit k planned l.tick.0 h)
      (λ k planned h. g.U.TakesFrames.may_take l.unit k planned l.tick.0 h) l.meter l.way l.initial.out l.out;
  unit : (k : Config) × (planned : List Allocation) × (h : History) × g.U.TakesFrames.may_take l.unit k planned l.tick.0 h;
  same : g.A.ListeningAir.same l.initial.out l.out;
  still : g.A.ListeningAir.faults l.out ≡ g.A.ListeningAir.faults l.initial.out;
}

abbrev pub decreases-loop-frame : goal.decreases-loop-frame
decreases-loop-frame g l = frames_on_way l.way
