-- The downlink data messages of a plan as flows of fragments: one for each endpoint, none where there is no endpoint. Times are ticks.
use Rattle.std.specs.Prelude.{ℕ, pos, ◌+ℤ◌, List, [], length}
use Rattle.std.specs.List.{slice_get}
use Rattle.std.specs.Option.{option_map_or}
use Rattle.fragment_laws.specs.Flow.{Bounds, Flow}
use Rattle.window_config.specs.Windows.{ticks_of_ns}
use Rattle.window_config.specs.declared.config.Config.{Config}
use Rattle.plan_model.specs.Departures.{departures_of, start_of_part}
use Rattle.plan_model.specs.Packs.{Numbered}
use Rattle.plan_model.specs.Streams.{Part, frames_in, messages_of}
use Rattle.plan_model.specs.declared.lines.PlannedLine.{PlannedLine}
use Rattle.plan_model.specs.declared.streams.Stream.TheVariants.{DownData}
use Rattle.schedule_laws.specs.Premise.{Texts}

-- the messages of the endpoint with this index
abbrev pub messages_at : Config → List PlannedLine → ℕ → List (Numbered Part)
messages_at c ps ep = option_map_or (λ e. messages_of c ps DownData ep e) (slice_get c.endpoints ep) []

abbrev pub flow_of : Config → List PlannedLine → Texts → ℕ → Flow
flow_of c ps text ep = record {
  count = length (messages_at c ps ep);
  pieces = λ j. option_map_or (λ n. frames_in c DownData n.message) (slice_get (messages_at c ps ep) j) 0;
  low = λ j. option_map_or (λ n. start_of_part n.message.first +ℤ (departures_of c DownData).from.0) (slice_get (messages_at c ps ep) j) (pos 0);
  before = λ j. option_map_or (λ n. n.before) (slice_get (messages_at c ps ep) j) 0;
  gap = (departures_of c DownData).gap;
  spread = (departures_of c DownData).spread;
  text = text ep;
}

-- T12, and how long a generation holds
abbrev pub bounds_of : Config → Bounds
bounds_of c = record { fast = ticks_of_ns c.delays.t12.min; slow = ticks_of_ns c.delays.t12.max; hold = ticks_of_ns c.delays.hold_dl }
