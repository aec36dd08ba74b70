-- What arrives at both units where the windows pass the check, nothing is injected, each command that a valid plan sends and each frame
-- that the radio unit sends for it has a copy, and each copy's delay lies in T12 or T34 (O-RAN.WG4.CUS, delay management). Times are
-- ticks.
use Rattle.std.specs.Prelude.{◌≡◌, ◌≢◌, ℕ, ◌+ℤ◌, ◌≤ℤ◌, List, []}
use Rattle.bfp_codec.specs.Shrunk.{CanPack}
use Rattle.fh_base.specs.declared.values.Slot.{Slot}
use Rattle.air_source.specs.Answers.{block_of}
use Rattle.air_source.specs.declared.links.LinkFrame.{LinkFrame}
use Rattle.window_config.specs.Relations.{PassesCheck}
use Rattle.window_config.specs.Windows.{ticks_of_ns}
use Rattle.window_config.specs.declared.config.Config.{Config}
use Rattle.window_config.specs.declared.endpoints.EndpointConfig.{EndpointConfig}
use Rattle.window_config.specs.declared.plan.PlanLine.{PlanLine}
use Rattle.unit_model.specs.Meetings.{Arrival}
use Rattle.unit_model.specs.Proper.{IsAt}
use Rattle.unit_model.specs.Reports.{accepted_of}
use Rattle.unit_model.specs.Times.{end_of_time}
use Rattle.unit_model.specs.Uplink.{jobs}
use Rattle.unit_model.specs.declared.jobs.UplinkJob.{UplinkJob}
use Rattle.plan_model.specs.Lines.{planned}
use Rattle.plan_model.specs.Sent.{SentFrame, sent}
use Rattle.plan_model.specs.declared.lines.PlannedLine.{PlannedLine}
use Rattle.plan_model.specs.declared.streams.Stream.TheVariants.{DownData}
use Rattle.schedule_laws.specs.Premise.{AreInOrder}
use Rattle.sent_frames.specs.Messages.{Source}
use Rattle.uplink_laws.specs.Radiated.{IsSentCopy}
use Rattle.uplink_laws.specs.Sent.{IsSendable}
use Rattle.uplink_model.specs.Frames.{Antenna, frames_behind}
use Rattle.uplink_model.specs.Messages.{uplink_messages_of}
use Rattle.fh_base.specs.Members.{IsIn}

-- What was received at the radio unit: each arrival is a copy of a frame that is sent, within T12 of its sending time, and of each
-- command that is sent a copy was received; downlink data may be lost.
pub record CommandsArrive (c : Config) (ps : List PlannedLine) (source : Source) (down : List Arrival) : Type 0 where
  pub came : (a : Arrival) → IsIn a down → (f : SentFrame) × IsIn f (sent c ps) × IsSentCopy c source f a
  pub every : (f : SentFrame) → IsIn f (sent c ps) → f.stream ≢ DownData → (a : Arrival) × IsIn a down × IsSentCopy c source f a

-- the jobs of the uplink sections that were accepted of what arrived at the radio unit
abbrev pub jobs_of : Config → List Arrival → List UplinkJob
jobs_of c down = jobs c.endpoints (accepted_of c down) end_of_time

-- all frames that the radio unit sends for jobs, as they are handed over
abbrev pub frames_of : Config → Antenna → List UplinkJob → List LinkFrame
frames_of c antenna js = frames_behind c antenna [] (uplink_messages_of c js)

-- a copy of a frame: its very bytes, no sooner than T34's minimum after it left and no later than the maximum
pub record IsUplinkCopy (c : Config) (f : LinkFrame) (a : Arrival) : Type 0 where
  pub from : (f.at.0 +ℤ ticks_of_ns c.delays.t34.min) ≤ℤ a.at
  pub to : a.at ≤ℤ (f.at.0 +ℤ ticks_of_ns c.delays.t34.max)
  pub bytes : a.frame ≡ f.frame

-- What was received at the distributed unit, the newest first: each arrival is a copy of a frame that the radio unit sends for these
-- jobs, and of each such frame a copy was received.
pub record AnswersArrive (c : Config) (antenna : Antenna) (js : List UplinkJob) (up : List Arrival) : Type 0 where
  pub in_order : AreInOrder up
  pub came : (a : Arrival) → IsIn a up → (f : LinkFrame) × IsIn f (frames_of c antenna js) × IsUplinkCopy c f a
  pub every : (f : LinkFrame) → IsIn f (frames_of c antenna js) → (a : Arrival) × IsIn a up × IsUplinkCopy c f a

-- an antenna whose blocks each endpoint's method can pack
abbrev pub CanAnswer : Config → Antenna → Type 0
CanAnswer c antenna =
    (ep : ℕ) (e : EndpointConfig) → IsAt c.endpoints ep e → (slot : Slot) (symbol prb : ℕ) → CanPack e.format.method (block_of antenna e.id slot symbol prb)

-- A configuration, a plan and the samples of both ways, and what was received at both units, where the windows pass the check: the
-- commands at the radio unit, and at the distributed unit what the radio unit sends for what it accepted of them.
pub record BothArrive (c : Config) (lines : List PlanLine) (source : Source) (antenna : Antenna) (down up : List Arrival) : Type 0 where
  pub sendable : IsSendable c lines source
  pub can : CanAnswer c antenna
  pub check : PassesCheck c.delays
  pub down_arrive : CommandsArrive c (planned c.endpoints lines) source down
  pub up_arrive : AnswersArrive c antenna (jobs_of c down) up
