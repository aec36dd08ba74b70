-- How far an air heard some events where a replay was cut (this project's profile).
use Rattle.std.specs.Prelude.{List, ◌⊎◌}
use Rattle.air_source.specs.Stops.{GrewSome, StopsIn}
use Rattle.air_source.specs.declared.airs.AirFault.{AirFault}
use Rattle.air_source.specs.declared.airs.AirFault.TheVariants.{Failed, NoMemory as WantsMemory}
use Rattle.air_source.specs.declared.events.Event.{Event}
use Rattle.fronthaul_replay.specs.declared.report.TextFault.{TextFault}
use Rattle.fronthaul_replay.specs.declared.report.TextFault.TheVariants.{WriteFault, NoMemory}

-- after a fault of writing it stopped in one of the events; where memory ran out it may have stopped between two, or before the first
abbrev pub CutBy : {A : Type 0} → TextFault → (A → List Event → A → Type 0) → (AirFault → A → Event → A → Type 0) → List Event → A → A → Type 0
CutBy WriteFault grew stopped events old new = StopsIn grew (stopped Failed) events old new
CutBy NoMemory grew stopped events old new = GrewSome grew events old new ⊎ StopsIn grew (stopped WantsMemory) events old new
