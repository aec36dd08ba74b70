-- What the radio unit sends for the uplink lines of a plan, in the words in which the plan's test reads it (the plan, its numbers and
-- times are this project's profile).
use Rattle.std.specs.Prelude.{ℕ, ◌==◌, List, [], ◌∷◌, Bool, map, reverse}
use Rattle.window_config.specs.declared.config.Config.{Config}
use Rattle.window_config.specs.declared.endpoints.EndpointConfig.{EndpointConfig}
use Rattle.air_source.specs.declared.links.LinkFrame.{LinkFrame}
use Rattle.fh_base.specs.Lists.{each}
use Rattle.unit_model.specs.Times.{end_of_time}
use Rattle.unit_model.specs.Uplink.{job_of, jobs}
use Rattle.unit_model.specs.declared.allocations.Allocation.{Allocation}
use Rattle.unit_model.specs.declared.jobs.UplinkJob.{UplinkJob}
use Rattle.plan_model.specs.Departures.{sent_at, start_of_part}
use Rattle.plan_model.specs.Lines.{line_allocation}
use Rattle.plan_model.specs.Packs.{Message, Numbered}
use Rattle.plan_model.specs.Streams.{Part, frames_in, messages_of as stream_messages}
use Rattle.plan_model.specs.declared.lines.PlannedLine.{PlannedLine}
use Rattle.plan_model.specs.declared.streams.Stream.TheVariants.{UpData}
use Rattle.uplink_model.specs.Frames.{Antenna, uplink_fragment_bytes, frames_behind}
use Rattle.uplink_model.specs.Messages.{uplink_frames_before, uplink_messages_of, number_behind}
use Rattle.unit_model.specs.Terms.{joined}

-- ---- the radio unit's messages with their numbers

-- each of these messages, after those before it, the newest of these first: its number, and how many frames of its symbol leave
-- before its own
unfoldable pub jobs_numbered_behind : Config → List (Message UplinkJob) → List (Message UplinkJob) → List (Numbered UplinkJob)
jobs_numbered_behind c earlier [] = []
jobs_numbered_behind c earlier (m ∷ ms) =
    record { message = m; number = number_behind m.first.ep earlier; before = uplink_frames_before c m.first earlier } ∷ jobs_numbered_behind c (m ∷ earlier) ms

-- those of one endpoint
abbrev pub is_message_of : ℕ → Numbered UplinkJob → Bool
is_message_of ep n = n.message.first.ep == ep

-- ---- of a plan

-- what these lines name, the last line first, as what was accepted
abbrev pub planned_allocations : List PlannedLine → List Allocation
planned_allocations ps = reverse (map line_allocation ps)

-- the jobs of their uplink lines
abbrev pub planned_jobs : Config → List PlannedLine → List UplinkJob
planned_jobs c ps = jobs c.endpoints (planned_allocations ps) end_of_time

-- the messages that these make, with their numbers
abbrev pub planned_messages : Config → List PlannedLine → List (Numbered UplinkJob)
planned_messages c ps = jobs_numbered_behind c [] (uplink_messages_of c (planned_jobs c ps))

-- and all their frames, as they are handed over
abbrev pub planned_frames : Config → Antenna → List PlannedLine → List LinkFrame
planned_frames c antenna ps = frames_behind c antenna [] (uplink_messages_of c (planned_jobs c ps))

-- ---- what answers to what

-- an uplink line in one of its symbols is this job
abbrev pub job_for : Part → UplinkJob
job_for p = job_of p.planned.ep (start_of_part p) p.planned.line.slot p.symbol (line_allocation p.planned)

abbrev pub message_for : Message Part → Message UplinkJob
message_for m = record { first = job_for m.first; more = map job_for m.more }

abbrev pub numbered_for : Numbered Part → Numbered UplinkJob
numbered_for n = record { message = message_for n.message; number = n.number; before = n.before }

-- frame `sub` of a message of a plan's uplink stream, as the radio unit sends it
abbrev pub frame_for : Config → Antenna → ℕ → EndpointConfig → Numbered Part → ℕ → LinkFrame
frame_for c antenna ep e n sub = record {
  at = record { 0 = sent_at c UpData n sub };
  ep = ep;
  frame = uplink_fragment_bytes c antenna e (message_for n.message) n.number sub;
}

abbrev pub message_frames_for : Config → Antenna → ℕ → EndpointConfig → Numbered Part → List LinkFrame
message_frames_for c antenna ep e n = each 0 (frames_in c UpData n.message) (λ sub. frame_for c antenna ep e n sub ∷ [])

-- the frames of an endpoint's uplink stream
abbrev pub stream_frames_for : Config → Antenna → List PlannedLine → ℕ → EndpointConfig → List LinkFrame
stream_frames_for c antenna ps ep e = joined (map (message_frames_for c antenna ep e) (stream_messages c ps UpData ep e))
