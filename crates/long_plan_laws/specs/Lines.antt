-- Plans of as many messages as one likes: one line in each frame, for the usual delays and an endpoint of 30 kHz.
use Rattle.std.specs.Prelude.{◌≡◌, ℕ, zero, suc, pos, ◌+◌, ◌≤◌, List, [], ◌∷◌, length}
use Rattle.window_config.specs.declared.config.Config.{Config}
use Rattle.window_config.specs.declared.plan.PlanKind.TheVariants.{Down}
use Rattle.window_config.specs.declared.plan.PlanLine.{PlanLine}
use Rattle.plan_model.specs.Examples.{config_with, usual}
use Rattle.plan_model.specs.Lines.{planned}
use Rattle.plan_model.specs.Streams.{messages_of}
use Rattle.plan_model.specs.Valid.{IsValid}
use Rattle.plan_model.specs.declared.streams.Stream.TheVariants.{DownData}
use Rattle.window_config.specs.declared.plan.TheConstants.{LAST_FRAME}

-- one endpoint of 30 kHz, one section a message
abbrev pub long_config : Config
long_config = config_with 1

-- PRB 0 in the first symbol of a frame
abbrev pub frame_line : ℕ → PlanLine
frame_line frame = record {
  kind = Down;
  id = 0;
  slot = record { frame = pos frame; subframe = 0; slot = 0 };
  symbol = 0;
  count = 1;
  start_prb = 0;
  num_prb = 1;
  mask = 4095;
  section = 1;
  beam = 0;
}

-- n lines, in n frames from one on
unfoldable pub frame_lines : ℕ → ℕ → List PlanLine
frame_lines frame zero = []
frame_lines frame (suc n) = frame_line frame ∷ frame_lines (frame + 1) n

-- such a plan from frame 1 on is valid, and has as many data messages of its one endpoint as it has lines
abbrev pub LongPlansAreValid : Type 0
LongPlansAreValid = (n : ℕ) → n ≤ LAST_FRAME → IsValid long_config (frame_lines 1 n)

abbrev pub LongPlansAreLong : Type 0
LongPlansAreLong = (n : ℕ) → n ≤ LAST_FRAME → length (messages_of long_config (planned long_config.endpoints (frame_lines 1 n)) DownData 0 usual) ≡ n
