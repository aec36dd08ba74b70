-- The jobs of one symbol, and what follows for its messages and frames.
use Rattle.std.specs.Prelude.{◌≡◌, ℕ, ℤ, pos, ◌<◌, ◌+ℤ◌, ◌≤ℤ◌, ◌&&◌, ◌==◌, Bool, true, false, List, [], ◌∷◌, ◌++◌, All}
use Rattle.std.specs.List.{AllPairs}
use Rattle.fh_base.specs.Air.{air_of}
use Rattle.fh_base.specs.Numbering.{IsSlotOf, symbols_of}
use Rattle.fh_base.specs.declared.values.Slot.{Slot}
use Rattle.window_config.specs.Limits.{IsWithinLimits}
use Rattle.window_config.specs.Windows.{ticks_of_ns}
use Rattle.window_config.specs.declared.config.Config.{Config}
use Rattle.window_config.specs.declared.endpoints.EndpointConfig.{EndpointConfig}
use Rattle.unit_model.specs.Claims.{same_slot}
use Rattle.fh_base.specs.Lists.{onto}
use Rattle.unit_model.specs.Proper.{IsAt}
use Rattle.unit_model.specs.Radiated.{first_clock}
use Rattle.unit_model.specs.Sweeps.{sweep}
use Rattle.unit_model.specs.Uplink.{jobs, symbol_jobs}
use Rattle.unit_model.specs.declared.allocations.Allocation.{Allocation}
use Rattle.unit_model.specs.declared.jobs.UplinkJob.{UplinkJob}
use Rattle.plan_model.specs.Packs.{Message}
use Rattle.uplink_model.specs.Frames.{Antenna, uplink_message_frames}
use Rattle.uplink_model.specs.Messages.{uplink_messages_of, same_job_symbol}

-- ---- jobs

-- a job of this symbol of an endpoint
abbrev pub is_job_in : ℕ → Slot → ℕ → UplinkJob → Bool
is_job_in ep slot symbol j = (j.ep == ep) && (same_slot j.slot slot && (j.symbol == symbol))

-- these are in one run among all, and no other job is of the symbol
pub record StandInOneRun (ep : ℕ) (slot : Slot) (symbol : ℕ) (run all : List UplinkJob) : Type 0 where
  pub before : List UplinkJob
  pub after : List UplinkJob
  pub is : all ≡ before ++ (run ++ after)
  pub none_before : All (λ j. is_job_in ep slot symbol j ≡ false) before
  pub none_after : All (λ j. is_job_in ep slot symbol j ≡ false) after

-- the jobs of a symbol that starts by a time are in one run among those up to it
abbrev pub JobsStandTogether : Type 0
JobsStandTogether =
    (es : List EndpointConfig) (accepted : List Allocation) (to : ℤ) (ep : ℕ) (e : EndpointConfig) (slot : Slot) (symbol : ℕ) → IsAt es ep e
    → IsSlotOf e.numerology slot → symbol < symbols_of e.numerology → first_clock ≤ℤ air_of e.numerology slot symbol → air_of e.numerology slot symbol ≤ℤ to
    → StandInOneRun ep slot symbol (symbol_jobs accepted ep e slot symbol) (jobs es accepted to)

-- ---- messages

-- no message goes past a time: those of the jobs up to a later time are those up to the time, and then those of the symbols after it
abbrev pub MessagesEndInTime : Type 0
MessagesEndInTime =
    (c : Config) (accepted : List Allocation) (to later : ℤ) → first_clock ≤ℤ to → to ≤ℤ later
    → uplink_messages_of c (jobs c.endpoints accepted later)
    ≡ uplink_messages_of c (jobs c.endpoints accepted to) ++ uplink_messages_of c (sweep (symbol_jobs accepted) c.endpoints (to +ℤ pos 1) (later +ℤ pos 1))

-- ---- frames

-- each frame of a message leaves in Ta3 after its symbol's start
abbrev pub FramesLeaveInTa3 : Type 0
FramesLeaveInTa3 =
    (c : Config) (antenna : Antenna) (earlier : List (Message UplinkJob)) (m : Message UplinkJob) → IsWithinLimits c.delays
    → All (λ f. ((m.first.s.0 +ℤ ticks_of_ns c.delays.ta3.min) ≤ℤ f.at.0) × (f.at.0 ≤ℤ (m.first.s.0 +ℤ ticks_of_ns c.delays.ta3.max))) (uplink_message_frames c antenna earlier m)

-- and none before one that is before it
abbrev pub FramesLeaveInTurn : Type 0
FramesLeaveInTurn =
    (c : Config) (antenna : Antenna) (earlier : List (Message UplinkJob)) (m : Message UplinkJob) → AllPairs (λ f g. f.at.0 ≤ℤ g.at.0) (uplink_message_frames c antenna earlier m)

-- of two messages of one symbol, the later one's frames leave no earlier
abbrev pub NoneOvertakes : Type 0
NoneOvertakes =
    (c : Config) (antenna : Antenna) (accepted : List Allocation) (to : ℤ) (before between after : List (Message UplinkJob)) (m n : Message UplinkJob)
    → uplink_messages_of c (jobs c.endpoints accepted to) ≡ before ++ (m ∷ (between ++ (n ∷ after))) → same_job_symbol m.first n.first ≡ true
    → All (λ f. All (λ g. f.at.0 ≤ℤ g.at.0) (uplink_message_frames c antenna (onto (m ∷ onto [] before) between) n)) (uplink_message_frames c antenna (onto [] before) m)
