-- The messages of a stream by its parts.
use Rattle.std.specs.Prelude.{◌≡◌, ℕ, List, map, Option, Some, None}
use Rattle.window_config.specs.declared.config.Config.{Config}
use Rattle.window_config.specs.declared.endpoints.EndpointConfig.{EndpointConfig}
use Rattle.plan_model.specs.Departures.{departures_of}
use Rattle.plan_model.specs.Streams.{most_parts, parts_in}
use Rattle.plan_model.specs.declared.lines.PlannedLine.{PlannedLine}
use Rattle.plan_model.specs.declared.streams.Stream.{Stream}
use Rattle.plan_model.specs.declared.streams.Stream.TheVariants.{DownCommands, UpCommands, DownData, UpData}
use Rattle.du_scheduler.specs.Runs.{stream_runs}
use Rattle.du_scheduler.specs.Parts.{timed}
use Rattle.du_scheduler.specs.Walks.{walked}
use Rattle.du_scheduler.specs.declared.limits.Limits.{Limits}

-- a command goes in one frame
abbrev pub fragment_limit : Config → Stream → Option ℕ
fragment_limit c DownCommands = None
fragment_limit c UpCommands = None
fragment_limit c DownData = Some c.fragment
fragment_limit c UpData = Some c.fragment

abbrev pub limits_of : Config → Stream → ℕ → Limits
limits_of c stream ep = record {
  endpoint = ep;
  stream = stream;
  pack = most_parts c stream;
  fragment = fragment_limit c stream;
  departures = departures_of c stream;
}

-- What the walk over a stream's parts finds are the messages of its definition, each with all its frames.
abbrev pub PartsMakeRuns : Type 0
PartsMakeRuns =
    (c : Config) (lines : List PlannedLine) (stream : Stream) (ep : ℕ) (e : EndpointConfig)
    → walked (limits_of c stream ep) (map (timed stream) (parts_in lines stream ep e)) ≡ stream_runs c lines stream ep e
