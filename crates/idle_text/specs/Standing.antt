-- Spans of some endpoints.
use Rattle.std.specs.Prelude.{◌≡◌, ℕ, List}
use Rattle.window_config.specs.declared.config.Config.{Config}
use Rattle.window_config.specs.declared.endpoints.EndpointConfig.{EndpointConfig}
use Rattle.air_source.specs.declared.events.AirCell.{AirCell}
use Rattle.idle_spans.specs.Tables.{SpansValue, Stands}

-- the spans stand for some cells, in some frames of a configuration with these endpoints
pub record StandsFor (s : SpansValue) (endpoints : List EndpointConfig) : Type 0 where
  pub config : Config
  pub first : ℕ
  pub last : ℕ
  pub cells : List AirCell
  pub same : config.endpoints ≡ endpoints
  pub stands : Stands s config first last cells
