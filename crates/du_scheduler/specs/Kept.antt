-- What is kept of a stream (this project's means).
use Rattle.std.specs.Prelude.{◌≡◌, ℕ, ◌+◌, ◌-◌, ◌<◌, ◌≤◌, List, length, map, take, drop, get_or}
use Rattle.window_config.specs.declared.config.Config.{Config}
use Rattle.window_config.specs.declared.endpoints.EndpointConfig.{EndpointConfig}
use Rattle.plan_model.specs.Streams.{Part, parts_in}
use Rattle.plan_model.specs.declared.lines.PlannedLine.{PlannedLine}
use Rattle.plan_model.specs.declared.streams.Stream.{Stream}
use Rattle.du_scheduler.specs.declared.parts.TimedPart.{TimedPart}
use Rattle.schedule_laws.specs.MessageParts.{stream_begins}
use Rattle.du_scheduler.specs.declared.kept.PlacedLine.{PlacedLine}
use Rattle.du_scheduler.specs.declared.kept.StreamParts.{StreamParts}

-- a part, by its line's place in the plan and its symbol
abbrev pub placed_line : Part → PlacedLine
placed_line p = record { line = p.planned.index; symbol = p.symbol }

abbrev pub placed_line_of : TimedPart → PlacedLine
placed_line_of x = record { line = x.line; symbol = x.symbol }

-- the parts of this stream, and where its messages begin
pub record IsStreamParts (c : Config) (ps : List PlannedLine) (stream : Stream) (ep : ℕ) (e : EndpointConfig) (k : StreamParts) : Type 0 where
  pub parts : k.parts.items ≡ map placed_line (parts_in ps stream ep e)
  pub begins : k.begins.items ≡ stream_begins c ps stream ep e

-- ---- a message

abbrev pub begin_of : StreamParts → ℕ → ℕ
begin_of k n = get_or k.begins.items n 0

-- the last message ends with the parts
abbrev pub end_of : StreamParts → ℕ → ℕ
end_of k n = get_or k.begins.items (n + 1) (length k.parts.items)

abbrev pub message_in : StreamParts → ℕ → List PlacedLine
message_in k n = take (end_of k n - begin_of k n) (drop (begin_of k n) k.parts.items)

pub record HasMessage (k : StreamParts) (n : ℕ) : Type 0 where
  pub number : n < length k.begins.items
  pub order : begin_of k n ≤ end_of k n
  pub within : end_of k n ≤ length k.parts.items
