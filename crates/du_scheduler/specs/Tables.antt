-- The parts of all messages that the distributed unit sends (this project's means).
use Rattle.std.specs.Prelude.{◌≡◌, ℕ, ◌+◌, ◌*◌, ◌<◌, List, [], ◌∷◌, ◌++◌, slice_get, Some}
use Rattle.window_config.specs.declared.config.Config.{Config}
use Rattle.window_config.specs.declared.endpoints.EndpointConfig.{EndpointConfig}
use Rattle.unit_model.specs.Proper.{IsAt}
use Rattle.plan_model.specs.Sent.{SentFrame, sent}
use Rattle.plan_model.specs.declared.lines.PlannedLine.{PlannedLine}
use Rattle.plan_model.specs.declared.streams.Stream.{Stream}
use Rattle.plan_model.specs.declared.streams.Stream.TheVariants.{DownCommands, UpCommands, DownData}
use Rattle.du_scheduler.specs.declared.turns.Turn.{Turn}
use Rattle.plan_model.specs.SentOrder.{stream_place}
use Rattle.du_scheduler.specs.Runs.{turn_of}
use Rattle.du_scheduler.specs.Kept.{IsStreamParts}
use Rattle.du_scheduler.specs.declared.kept.StreamParts.{StreamParts}
use Rattle.du_scheduler.specs.declared.tables.Table.{Table}
use Rattle.fh_base.specs.Members.{IsIn}

-- a stream of an endpoint among all
pub record IsKeptInTable (c : Config) (ps : List PlannedLine) (stream : Stream) (ep : ℕ) (e : EndpointConfig) (all : List StreamParts) : Type 0 where
  pub kept : StreamParts
  pub at : slice_get all (3 * ep + stream_place stream) ≡ Some kept
  pub is : IsStreamParts c ps stream ep e kept

-- each stream that the distributed unit sends is kept
abbrev pub IsTable : Config → List PlannedLine → Table → Type 0
IsTable c ps t = (stream : Stream) (ep : ℕ) (e : EndpointConfig) → stream_place stream < 3 → IsAt c.endpoints ep e → IsKeptInTable c ps stream ep e t.streams.items

-- the frame is one that is sent for the plan of this table
pub record IsTurnOf (t : Table) (u : Turn) : Type 0 where
  pub config : Config
  pub lines : List PlannedLine
  pub frame : SentFrame
  pub table : IsTable config lines t
  pub there : IsIn frame (sent config lines)
  pub is : u ≡ turn_of frame

-- the streams of one endpoint more
pub record AddsEndpoint (c : Config) (ps : List PlannedLine) (ep : ℕ) (e : EndpointConfig) (old new : List StreamParts) : Type 0 where
  pub down_commands : StreamParts
  pub up_commands : StreamParts
  pub down_data : StreamParts
  pub is : new ≡ old ++ down_commands ∷ up_commands ∷ down_data ∷ []
  pub are_down_commands : IsStreamParts c ps DownCommands ep e down_commands
  pub are_up_commands : IsStreamParts c ps UpCommands ep e up_commands
  pub are_down_data : IsStreamParts c ps DownData ep e down_data
