-- The table of one endpoint among all, and the cells that it stands for.
use Rattle.std.specs.Prelude.{◌≡◌, ℕ, List}
use Rattle.window_config.specs.declared.config.Config.{Config}
use Rattle.window_config.specs.declared.endpoints.EndpointConfig.{EndpointConfig}
use Rattle.air_source.specs.declared.events.AirCell.{AirCell}
use Rattle.idle_spans.specs.Tables.{SpansValue, Stands, endpoint_at}

pub record IsTableOf (s : SpansValue) (ep : ℕ) (e : EndpointConfig) (first last : ℕ) (cells : List AirCell) : Type 0 where
  pub config : Config
  pub stands : Stands s config first last cells
  pub is : e ≡ endpoint_at config ep

-- the spans stand for some cells of an endpoint
abbrev pub StandsAt : SpansValue → ℕ → EndpointConfig → Type 0
StandsAt s ep e = (first : ℕ) × (last : ℕ) × (cells : List AirCell) × IsTableOf s ep e first last cells
