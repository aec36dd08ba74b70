-- What is sent of a long plan: with a silent source, each frame once, T12's minimum late.
use Rattle.std.specs.Prelude.{ℕ, zero, suc, ◌≤◌, List, [], ◌∷◌}
use Rattle.bfp_codec.specs.Samples.{no_iq}
use Rattle.bfp_codec.specs.declared.samples.Iq.{Iq}
use Rattle.plan_model.specs.Lines.{planned}
use Rattle.schedule_laws.specs.Least.{with_least_delay}
use Rattle.sent_frames.specs.Frames.{sent_bytes}
use Rattle.sent_frames.specs.Messages.{Source}
use Rattle.uplink_laws.specs.Radiated.{CopiesArrive}
use Rattle.uplink_laws.specs.Sent.{IsSendable}
use Rattle.long_plan_laws.specs.Lines.{frame_lines, long_config}
use Rattle.window_config.specs.declared.plan.TheConstants.{LAST_FRAME}

-- n samples of 0
abbrev pub silent : ℕ → List Iq
silent zero = []
silent (suc n) = no_iq ∷ silent n

abbrev pub silence : Source
silence cell = silent 12

-- the premise of the laws of a sent plan is met
pub record IsLongPlanSent (n : ℕ) : Type 0 where
  pub sendable : IsSendable long_config (frame_lines 1 n) silence
  pub arrive : CopiesArrive long_config (planned long_config.endpoints (frame_lines 1 n)) silence
      (with_least_delay long_config (planned long_config.endpoints (frame_lines 1 n)) (sent_bytes long_config silence))

abbrev pub LongPlansAreSent : Type 0
LongPlansAreSent = (n : ℕ) → n ≤ LAST_FRAME → IsLongPlanSent n
