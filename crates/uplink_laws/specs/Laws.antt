-- The uplink stream of a plan, whose first frames the plan's test for dense messages reads, is what the radio unit sends for its lines.
use Rattle.std.specs.Prelude.{◌≡◌, ℕ, ℤ, ◌+◌, ◌==◌, List, filter, map}
use Rattle.window_config.specs.declared.config.Config.{Config}
use Rattle.window_config.specs.declared.endpoints.EndpointConfig.{EndpointConfig}
use Rattle.window_config.specs.declared.plan.PlanLine.{PlanLine}
use Rattle.unit_model.specs.Proper.{IsAt}
use Rattle.plan_model.specs.Dense.{sendings}
use Rattle.plan_model.specs.Departures.{departure, departures_of}
use Rattle.plan_model.specs.Lines.{planned}
use Rattle.plan_model.specs.Packs.{Numbered}
use Rattle.plan_model.specs.Streams.{parts_in, messages_of as stream_messages}
use Rattle.plan_model.specs.declared.streams.Stream.TheVariants.{UpData}
use Rattle.unit_model.specs.declared.jobs.UplinkJob.{UplinkJob}
use Rattle.uplink_model.specs.Frames.{Antenna}
use Rattle.uplink_laws.specs.Streams.{is_message_of, job_for, numbered_for, planned_frames, planned_jobs, planned_messages, stream_frames_for}

-- an endpoint's jobs are the parts of its uplink stream, in their order
abbrev pub JobsAreParts : Type 0
JobsAreParts =
    (c : Config) (lines : List PlanLine) (ep : ℕ) (e : EndpointConfig) → IsAt c.endpoints ep e
    → filter (λ j. j.ep == ep) (planned_jobs c (planned c.endpoints lines)) ≡ map job_for (parts_in (planned c.endpoints lines) UpData ep e)

-- an endpoint's messages are those of its stream, with the same numbers, and as many frames of their symbols before their own
abbrev pub MessagesAreTheStream : Type 0
MessagesAreTheStream =
    (c : Config) (lines : List PlanLine) (ep : ℕ) (e : EndpointConfig) → IsAt c.endpoints ep e
    → filter (is_message_of ep) (planned_messages c (planned c.endpoints lines)) ≡ map numbered_for (stream_messages c (planned c.endpoints lines) UpData ep e)

-- an endpoint's frames are those of its stream, at the times of the plan's test
abbrev pub FramesAreTheStream : Type 0
FramesAreTheStream =
    (c : Config) (antenna : Antenna) (lines : List PlanLine) (ep : ℕ) (e : EndpointConfig) → IsAt c.endpoints ep e
    → filter (λ f. f.ep == ep) (planned_frames c antenna (planned c.endpoints lines)) ≡ stream_frames_for c antenna (planned c.endpoints lines) ep e

-- when the first frame of a message leaves
abbrev pub first_leaves : Config → Numbered UplinkJob → ℤ
first_leaves c n = departure (departures_of c UpData) n.message.first.s.0 (n.before + 0)

-- the times that the plan's test reads are those of the first frames
abbrev pub TestReadsFirstFrames : Type 0
TestReadsFirstFrames =
    (c : Config) (lines : List PlanLine) (ep : ℕ) (e : EndpointConfig) → IsAt c.endpoints ep e
    → map (λ s. s.at.0) (sendings c (planned c.endpoints lines) UpData ep e)
    ≡ map (first_leaves c) (filter (is_message_of ep) (planned_messages c (planned c.endpoints lines)))
