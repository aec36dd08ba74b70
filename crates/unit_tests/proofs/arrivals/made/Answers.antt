use Rattle.air_source.specs.declared.events.Side.{Side}
use Rattle.std.proofs.Common.{List, [], ℤ, pos, Result, Ok, Err, IfOk}
use Rattle.window_config.specs.declared.config.Config.{Config}
use Rattle.unit_model.specs.Meetings.{Arrival}
use Rattle.unit_memory.specs.Memory.{Holds}
use Rattle.unit_memory.specs.declared.memory.UnitMemory.{UnitMemory}
use Rattle.unit_tests.proofs.arrivals.made.Goals as goal

nothing_came : {E : Type 0} (side : Side) (c : Config) (at : ℤ) (r : Result UnitMemory E) → IfOk r (λ m. (clock : ℤ) → Holds side c clock m [] []) → IfOk r (λ m. (s : Side) × (arrivals : List Arrival) × Holds s c at m arrivals [])
nothing_came side c at (Ok m) h = (side, [], h at)
nothing_came side c at (Err e) h = tt

pub returns : goal.returns
returns c = nothing_came c.args.side c.args.config.now (pos 14745600000) c.make.result c.make.ensures.holds
