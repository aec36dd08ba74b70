-- All frames that the distributed unit sends for a plan, in their order: by time, at one time by endpoint, in an endpoint downlink
-- commands, uplink commands and data, and in each by number and subsequence (this project's profile). Nothing is sorted.
use Rattle.std.specs.Prelude.{ℕ, ℤ, pos, ◌+◌, ◌+ℤ◌, List, [], ◌∷◌, ◌++◌, map, filter}
use Rattle.std.specs.Int.{int_gap}
use Rattle.std.specs.Ordering.{int_eq}
use Rattle.window_config.specs.declared.config.Config.{Config}
use Rattle.window_config.specs.declared.endpoints.EndpointConfig.{EndpointConfig}
use Rattle.fh_base.specs.Lists.{each, each_tick}
use Rattle.unit_model.specs.Radiated.{first_clock}
use Rattle.unit_model.specs.Times.{end_of_time}
use Rattle.plan_model.specs.Departures.{sent_at}
use Rattle.plan_model.specs.Packs.{Message, Numbered}
use Rattle.plan_model.specs.Streams.{Part, frames_in, messages_of}
use Rattle.plan_model.specs.declared.lines.PlannedLine.{PlannedLine}
use Rattle.plan_model.specs.declared.streams.Stream.{Stream}
use Rattle.plan_model.specs.declared.streams.Stream.TheVariants.{DownCommands, UpCommands, DownData}
use Rattle.unit_model.specs.Terms.{joined}

-- a frame: when it leaves, its message, that message's number, and which of the message's frames it is
pub record SentFrame : Type 0 where
  pub at : ℤ
  pub ep : ℕ
  pub endpoint : EndpointConfig
  pub stream : Stream
  pub message : Message Part
  pub number : ℕ
  pub sub : ℕ

abbrev pub frame_of : Config → Stream → ℕ → EndpointConfig → Numbered Part → ℕ → SentFrame
frame_of c stream ep e n sub = record {
  at = sent_at c stream n sub;
  ep = ep;
  endpoint = e;
  stream = stream;
  message = n.message;
  number = n.number;
  sub = sub;
}

abbrev pub message_frames : Config → Stream → ℕ → EndpointConfig → Numbered Part → List SentFrame
message_frames c stream ep e n = each 0 (frames_in c stream n.message) (λ sub. frame_of c stream ep e n sub ∷ [])

abbrev pub stream_frames : Config → List PlannedLine → Stream → ℕ → EndpointConfig → List SentFrame
stream_frames c lines stream ep e = joined (map (message_frames c stream ep e) (messages_of c lines stream ep e))

abbrev pub endpoint_frames : Config → List PlannedLine → ℕ → EndpointConfig → List SentFrame
endpoint_frames c lines ep e =
    stream_frames c lines DownCommands ep e ++ (stream_frames c lines UpCommands ep e ++ stream_frames c lines DownData ep e)

-- those of these endpoints, of which the first has the index `ep`
unfoldable pub frames_from : Config → List PlannedLine → ℕ → List EndpointConfig → List SentFrame
frames_from c lines ep [] = []
frames_from c lines ep (e ∷ es) = endpoint_frames c lines ep e ++ frames_from c lines (ep + 1) es

-- tick by tick those that leave then
unfoldable pub sent : Config → List PlannedLine → List SentFrame
sent c lines =
    each_tick first_clock (int_gap first_clock (end_of_time +ℤ pos 1)) (λ t. filter (λ f. int_eq f.at t) (frames_from c lines 0 c.endpoints))
