-- The messages of a plan as a queue of frames sees them (times and order are this project's profile).
use Rattle.std.specs.Prelude.{◌≡◌, ℕ, ℤ, pos, ◌+◌, ◌+ℤ◌, List, [], ◌∷◌, ◌++◌, map, All}
use Rattle.std.specs.Int.{int_gap}
use Rattle.window_config.specs.Configs.{IsConfig}
use Rattle.window_config.specs.Plans.{IsPlanLine}
use Rattle.window_config.specs.Windows.{ticks_of_ns}
use Rattle.window_config.specs.declared.config.Config.{Config}
use Rattle.window_config.specs.declared.endpoints.EndpointConfig.{EndpointConfig}
use Rattle.window_config.specs.declared.plan.PlanLine.{PlanLine}
use Rattle.plan_model.specs.Departures.{departures_of, sent_at, start_of_part}
use Rattle.plan_model.specs.Lines.{planned}
use Rattle.plan_model.specs.Packs.{Numbered}
use Rattle.plan_model.specs.Sent.{SentFrame, sent}
use Rattle.plan_model.specs.Streams.{Part, frames_in, messages_of}
use Rattle.plan_model.specs.Valid.{IsValid}
use Rattle.plan_model.specs.declared.lines.PlannedLine.{PlannedLine}
use Rattle.plan_model.specs.declared.streams.Stream.{Stream}
use Rattle.plan_model.specs.declared.streams.Stream.TheVariants.{DownCommands, UpCommands, DownData}
use Rattle.du_scheduler.specs.Turns.{AreRising, IsRun, rest_of, times}
use Rattle.du_scheduler.specs.declared.turns.Run.{Run}
use Rattle.du_scheduler.specs.declared.turns.Turn.{Turn}
use Rattle.unit_model.specs.Terms.{joined}

-- a frame, as the order sees it
abbrev pub turn_of : SentFrame → Turn
turn_of f = record { at = record { 0 = f.at }; endpoint = f.ep; stream = f.stream; number = f.number; sub = f.sub }

-- the gap between the frames of a symbol, in ticks
abbrev pub gap_ticks : Config → ℕ
gap_ticks c = int_gap (pos 0) (ticks_of_ns c.gap)

-- when the frames of a message's symbol leave at the latest
abbrev pub latest : Config → Stream → Numbered Part → ℤ
latest c stream n = (start_of_part n.message.first +ℤ (departures_of c stream).from.0) +ℤ pos (departures_of c stream).spread

-- a message with all its frames
abbrev pub run_of : Config → Stream → ℕ → Numbered Part → Run
run_of c stream ep n = record {
  turn = record { at = record { 0 = sent_at c stream n 0 }; endpoint = ep; stream = stream; number = n.number; sub = 0 };
  last = record { 0 = latest c stream n };
  left = frames_in c stream n.message;
}

abbrev pub stream_runs : Config → List PlannedLine → Stream → ℕ → EndpointConfig → List Run
stream_runs c lines stream ep e = map (run_of c stream ep) (messages_of c lines stream ep e)

abbrev pub endpoint_runs : Config → List PlannedLine → ℕ → EndpointConfig → List Run
endpoint_runs c lines ep e =
    stream_runs c lines DownCommands ep e ++ (stream_runs c lines UpCommands ep e ++ stream_runs c lines DownData ep e)

-- those of these endpoints, of which the first has the index `ep`
unfoldable pub runs_from : Config → List PlannedLine → ℕ → List EndpointConfig → List Run
runs_from c lines ep [] = []
runs_from c lines ep (e ∷ es) = endpoint_runs c lines ep e ++ runs_from c lines (ep + 1) es

-- all messages that the distributed unit sends
abbrev pub runs_of : Config → List PlannedLine → List Run
runs_of c lines = runs_from c lines 0 c.endpoints

-- the frames of all these messages
abbrev pub rests_of : ℕ → List Run → List Turn
rests_of gap runs = joined (map (rest_of gap) runs)

-- these frames in order, each as often as it is among the others
pub record IsOrderOf (all l : List Turn) : Type 0 where
  pub rising : AreRising l
  pub same : (t : Turn) → times t l ≡ times t all

-- What is sent for a valid plan is the frames of its messages in their order.
abbrev pub SentIsInOrder : Type 0
SentIsInOrder =
    (c : Config) (lines : List PlanLine) → IsConfig c → All IsPlanLine lines → IsValid c lines
    → IsOrderOf (rests_of (gap_ticks c) (runs_of c (planned c.endpoints lines))) (map turn_of (sent c (planned c.endpoints lines)))

-- Each of these messages is one that a queue takes: of 1 to 128 frames.
abbrev pub MessagesAreRuns : Type 0
MessagesAreRuns = (c : Config) (lines : List PlanLine) → IsConfig c → All IsPlanLine lines → IsValid c lines → All IsRun (runs_of c (planned c.endpoints lines))
