-- The uplink data messages of a plan as flows of fragments: one for each endpoint, none where there is no endpoint. The radio unit
-- sends their frames. Times are ticks.
use Rattle.std.specs.Prelude.{ℕ, ℤ, pos, ◌+ℤ◌, List, [], length}
use Rattle.std.specs.List.{slice_get}
use Rattle.std.specs.Option.{option_map_or}
use Rattle.fragment_laws.specs.Flow.{Bounds, Flow}
use Rattle.window_config.specs.Windows.{ticks_of_ns}
use Rattle.window_config.specs.declared.config.Config.{Config}
use Rattle.window_config.specs.declared.endpoints.EndpointConfig.{EndpointConfig}
use Rattle.plan_model.specs.Departures.{departures_of, start_of_part}
use Rattle.plan_model.specs.Packs.{Numbered}
use Rattle.plan_model.specs.Streams.{Part, frames_in, messages_of}
use Rattle.plan_model.specs.declared.lines.PlannedLine.{PlannedLine}
use Rattle.plan_model.specs.declared.streams.Stream.TheVariants.{UpData}
use Rattle.frame_bytes.specs.Cuts.{piece_at}
use Rattle.uplink_model.specs.Frames.{Antenna, uplink_message_bytes}
use Rattle.uplink_laws.specs.Streams.{message_for}

-- the messages of the endpoint with this index
abbrev pub uplink_messages_at : Config → List PlannedLine → ℕ → List (Numbered Part)
uplink_messages_at c ps ep = option_map_or (λ e. messages_of c ps UpData ep e) (slice_get c.endpoints ep) []

-- the bytes of a fragment of a message, with the antenna's samples
abbrev pub fragment_text : Config → Antenna → EndpointConfig → Numbered Part → ℕ → List ℕ
fragment_text c antenna e n sub = piece_at c.fragment (uplink_message_bytes antenna e (message_for n.message)) sub

-- the bytes of each fragment, by endpoint, message and subsequence
abbrev pub text_of : Config → Antenna → List PlannedLine → ℕ → ℕ → ℕ → List ℕ
text_of c antenna ps ep j sub =
    option_map_or (λ e. option_map_or (λ n. fragment_text c antenna e n sub) (slice_get (messages_of c ps UpData ep e) j) []) (slice_get c.endpoints ep) []

-- when the symbol of message j starts
abbrev pub flow_start_at : Config → List PlannedLine → ℕ → ℕ → ℤ
flow_start_at c ps ep j = option_map_or (λ n. start_of_part n.message.first) (slice_get (uplink_messages_at c ps ep) j) (pos 0)

abbrev pub uplink_flow_of : Config → Antenna → List PlannedLine → ℕ → Flow
uplink_flow_of c antenna ps ep = record {
  count = length (uplink_messages_at c ps ep);
  pieces = λ j. option_map_or (λ n. frames_in c UpData n.message) (slice_get (uplink_messages_at c ps ep) j) 0;
  low = λ j. flow_start_at c ps ep j +ℤ (departures_of c UpData).from.0;
  before = λ j. option_map_or (λ n. n.before) (slice_get (uplink_messages_at c ps ep) j) 0;
  gap = (departures_of c UpData).gap;
  spread = (departures_of c UpData).spread;
  text = text_of c antenna ps ep;
}

-- T34, and how long a generation holds at the distributed unit
abbrev pub uplink_bounds_of : Config → Bounds
uplink_bounds_of c = record { fast = ticks_of_ns c.delays.t34.min; slow = ticks_of_ns c.delays.t34.max; hold = ticks_of_ns c.delays.hold_ul }
