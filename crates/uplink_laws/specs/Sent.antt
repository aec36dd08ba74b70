-- That the bytes of a valid plan's frames are read as what is planned.
use Rattle.std.specs.Prelude.{ℕ, ◌<◌, ◌^◌, true, List, All}
use Rattle.bfp_codec.specs.Shrunk.{CanPack}
use Rattle.fh_base.specs.declared.values.Slot.{Slot}
use Rattle.window_config.specs.Configs.{IsConfig}
use Rattle.window_config.specs.Plans.{IsPlanLine}
use Rattle.window_config.specs.declared.config.Config.{Config}
use Rattle.window_config.specs.declared.endpoints.EndpointConfig.{EndpointConfig}
use Rattle.window_config.specs.declared.plan.PlanLine.{PlanLine}
use Rattle.unit_model.specs.Claims.{cell_at}
use Rattle.unit_model.specs.Proper.{IsAt}
use Rattle.plan_model.specs.Lines.{planned}
use Rattle.plan_model.specs.Valid.{IsValid}
use Rattle.schedule_laws.specs.Data.{AreWritten}
use Rattle.schedule_laws.specs.Least.{AreReadable}
use Rattle.sent_frames.specs.Frames.{sent_bytes}
use Rattle.uplink_laws.specs.Frames.{blocks_of, texts_of}
use Rattle.sent_frames.specs.Messages.{Source}

-- A valid plan of a configuration, and a source whose blocks the endpoints' methods can pack; an eAxC id has 16 bits and numPrb 8,
-- as in the types that hold them.
pub record IsSendable (c : Config) (lines : List PlanLine) (source : Source) : Type 0 where
  pub config : IsConfig c
  pub lines_fit : All IsPlanLine lines
  pub valid : IsValid c lines
  pub ids : All (λ (e : EndpointConfig). e.id < 2 ^ 16) c.endpoints
  pub num_prbs : All (λ (l : PlanLine). l.num_prb < 2 ^ 8) lines
  pub can : (ep : ℕ) (e : EndpointConfig) → IsAt c.endpoints ep e → (slot : Slot) (symbol prb : ℕ) → CanPack e.format.method (source (cell_at ep true slot symbol prb))

-- each frame's bytes, whenever they are received, are read as the one command of its line, or as its one fragment
abbrev pub SentFramesAreRead : Type 0
SentFramesAreRead =
    (c : Config) (lines : List PlanLine) (source : Source) → IsSendable c lines source
    → AreReadable c (planned c.endpoints lines) (texts_of c (planned c.endpoints lines) source) (sent_bytes c source)

-- the fragments of each message, joined, are read as the sections of its lines, each PRB with its cell's shrunk block
abbrev pub SentMessagesSay : Type 0
SentMessagesSay =
    (c : Config) (lines : List PlanLine) (source : Source) → IsSendable c lines source
    → AreWritten c (planned c.endpoints lines) (texts_of c (planned c.endpoints lines) source) (blocks_of c source)
