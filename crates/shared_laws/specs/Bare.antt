-- What a unit reports, without the samples.
use Rattle.std.specs.Prelude.{◌≡◌, ℕ, ℤ, List, map, Option, None}
use Rattle.air_source.specs.declared.events.AirCell.{AirCell}
use Rattle.air_source.specs.declared.events.Side.{Side}
use Rattle.window_config.specs.declared.delays.Delays.{Delays}
use Rattle.window_config.specs.declared.endpoints.EndpointConfig.{EndpointConfig}
use Rattle.unit_model.specs.Radiated.{reported}
use Rattle.unit_model.specs.declared.cells.Block.{Block}
use Rattle.unit_model.specs.declared.cells.Cell.{Cell}
use Rattle.unit_model.specs.declared.cells.Claim.{Claim}

-- a cell without its samples: when and where it is, its section and its mask
abbrev pub bare : AirCell → AirCell
bare c = record { side = c.side; at = c.at; id = c.id; slot = c.slot; symbol = c.symbol; prb = c.prb; section = c.section; mask = c.mask; block = None }

-- which cells a unit reports, in which order, and all but their samples, is told by the claims alone, whatever data were received
abbrev pub PlacesAreOfClaims : Type 0
PlacesAreOfClaims =
    (side : Side) (d : Delays) (es : List EndpointConfig) (claims : Cell → ℕ → Option Claim) (blocks others : Cell → Option Block) (to : ℤ)
    → map bare (reported side d es (record { claims = claims; blocks = blocks }) to) ≡ map bare (reported side d es (record { claims = claims; blocks = others }) to)
