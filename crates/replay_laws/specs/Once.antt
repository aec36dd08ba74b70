-- The cells that each unit reports in a replay: none twice (this project's profile).
use Rattle.air_source.specs.declared.events.Side.{Side}
use Rattle.window_config.specs.Configs.{IsConfig}
use Rattle.window_config.specs.declared.config.Config.{Config}
use Rattle.unit_laws.specs.Due.{AreDifferent}
use Rattle.replay_laws.specs.Events.{events}
use Rattle.unit_model.specs.Heard.{cells_heard}
use Rattle.replay_laws.specs.Traffic.{Traffic}

-- no two of a unit's events are reports of one cell
abbrev pub IsOnce : Config → Traffic → Type 0
IsOnce c t = (side : Side) → AreDifferent (cells_heard side (events c t))

-- in every configuration, whatever lands and is planned
abbrev pub AtMostOnce : Type 0
AtMostOnce = (c : Config) (t : Traffic) → IsConfig c → IsOnce c t
