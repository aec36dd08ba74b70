-- The message that may take more sections, while a unit's jobs are taken.
use Rattle.std.specs.Prelude.{◌≡◌, ℕ, ◌≤◌, ◌<◌, List, All, length, Option, Some, None, false, ℤ, pos, ◌^◌, ◌≤ℤ◌, ◌++◌, ◌∷◌}
use Rattle.fh_base.specs.Carrier.{is_outside}
use Rattle.window_config.specs.declared.config.Config.{Config}
use Rattle.window_config.specs.declared.endpoints.EndpointConfig.{EndpointConfig}
use Rattle.unit_model.specs.ProperJobs.{IsProperJob}
use Rattle.unit_model.specs.declared.jobs.UplinkJob.{UplinkJob}
use Rattle.plan_model.specs.Packs.{Message, parts_of, size_of}
use Rattle.uplink_model.specs.Messages.{job_fields, messages_behind, uplink_messages_of}
use Rattle.uplink_path.specs.Packing.{IsPacked}
use Rattle.uplink_path.specs.Sending.{SentSome}
use Rattle.uplink_path.specs.Emitting.{AreNumbered}
use Rattle.uplink_path.specs.declared.pending.Pending.{Pending}
use Rattle.uplink_path.specs.declared.uplink.Uplink.{Uplink}
use Rattle.air_source.specs.Answers.{AnswersBy}
use Rattle.air_source.specs.declared.links.LinkFrame.{LinkFrame}
use Rattle.air_source.specs.declared.places.RePlace.{RePlace}
use Rattle.bfp_codec.specs.declared.samples.Wide.{Wide}
use Rattle.fh_base.specs.Lists.{onto}
use Rattle.uplink_model.specs.Frames.{Antenna, frames_behind}
use Rattle.window_config.specs.declared.config.TheConstants.{MESSAGE_SECTIONS}
use Rattle.ecpri_fragments.specs.declared.place.TheConstants.{MESSAGE_BYTES}

-- a job of a message of an endpoint
pub record IsPartOf (e : EndpointConfig) (ep : ℕ) (j : UplinkJob) : Type 0 where
  pub ep_is : j.ep ≡ ep
  pub start_prb : j.start_prb < 1024
  pub prbs : is_outside e.prbs j.start_prb j.num_prb ≡ false

-- a message that may be sent
pub record IsProperMessage (c : Config) (m : Message UplinkJob) : Type 0 where
  pub to : ℤ
  pub first : IsProperJob c.endpoints to m.first
  pub high : to ≤ℤ pos (2 ^ 53)
  pub parts : All (IsPartOf first.endpoint m.first.ep) (parts_of m)
  pub size : size_of (job_fields c.endpoints) m ≤ MESSAGE_BYTES
  pub few : length (parts_of m) ≤ MESSAGE_SECTIONS

-- a job that may be sent
pub record CanTake (c : Config) (j : UplinkJob) : Type 0 where
  pub to : ℤ
  pub proper : IsProperJob c.endpoints to j
  pub high : to ≤ℤ pos (2 ^ 53)

-- the message that is open is this one, where there is one
abbrev pub IsOpen : Config → Option Pending → Option (Message UplinkJob) → Type 0
IsOpen c None None = Unit {0}
IsOpen c None (Some m) = ⊥
IsOpen c (Some p) None = ⊥
IsOpen c (Some p) (Some m) = IsPacked c p m × IsProperMessage c m

-- a job may be taken
pub record CanPack {F : Type 0} (u : Uplink F) (opened : Option Pending) (j : UplinkJob) : Type 0 where
  pub config : Config
  pub messages : List (Message UplinkJob)
  pub message : Option (Message UplinkJob)
  pub numbered : AreNumbered config u messages
  pub is_open : IsOpen config opened message
  pub can : CanTake config j

-- the messages that these jobs make after the one that is open
abbrev pub messages_from : Config → Option (Message UplinkJob) → List UplinkJob → List (Message UplinkJob)
messages_from c None js = uplink_messages_of c js
messages_from c (Some m) js = messages_behind c m js

-- a job was taken: the messages that were closed by it were sent, and one is open
pub record TookJob {F : Type 0} (post : RePlace → Wide → Type 0) (c : Config) (ms : List (Message UplinkJob)) (opened : Option (Message UplinkJob)) (j : UplinkJob) (u : Uplink F) (p : Pending)
    (old new : List LinkFrame) : Type 0 where
  pub closed : List (Message UplinkJob)
  pub message : Message UplinkJob
  pub is : (js : List UplinkJob) → messages_from c opened (j ∷ js) ≡ closed ++ messages_behind c message js
  pub packed : IsPacked c p message
  pub proper : IsProperMessage c message
  pub sent : (antenna : Antenna) → AnswersBy post antenna → new ≡ old ++ frames_behind c antenna ms closed
  pub numbered : AreNumbered c u (onto ms closed)

-- the first frames of the message that the job closes were sent
pub record StoppedAtJob (c : Config) (ms : List (Message UplinkJob)) (antenna : Antenna) (opened : Option (Message UplinkJob)) (j : UplinkJob) (old new : List LinkFrame) : Type 0 where
  pub closed : List (Message UplinkJob)
  pub rest : (js : List UplinkJob) → List (Message UplinkJob)
  pub is : (js : List UplinkJob) → messages_from c opened (j ∷ js) ≡ closed ++ rest js
  pub some : SentSome (frames_behind c antenna ms closed) old new
