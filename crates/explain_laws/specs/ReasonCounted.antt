-- The missing cells of a replay are those that its counters count (this project's profile).
use Rattle.std.specs.Prelude.{◌≡◌, List, filter, length}
use Rattle.air_source.specs.Units.{same_side}
use Rattle.air_source.specs.declared.events.Side.{Side}
use Rattle.fault_counters.specs.Counts.{times}
use Rattle.fault_counters.specs.declared.kinds.Counter.TheVariants.{Missing}
use Rattle.window_config.specs.declared.config.Config.{Config}
use Rattle.replay_laws.specs.Events.{all_counted, events}
use Rattle.replay_laws.specs.Traffic.{Traffic}
use Rattle.explain_model.specs.Missing.{MissingCell, missing_of}

-- those of a unit
abbrev pub missing_at : Side → List MissingCell → List MissingCell
missing_at side xs = filter (λ x. same_side x.cell.side side) xs

-- there are as many as the unit's counter of missing cells was counted
abbrev pub MissingAreCounted : Type 0
MissingAreCounted = (side : Side) (c : Config) (t : Traffic) → length (missing_at side (missing_of c (events c t))) ≡ times (all_counted side c t) Missing
