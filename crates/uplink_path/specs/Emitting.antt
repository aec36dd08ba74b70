-- What a radio unit's messages become (this project's profile).
use Rattle.std.specs.Prelude.{◌≡◌, ℕ, ◌+◌, ◌<◌, ◌%◌, true, false, List, ◌++◌, length, slice_index_or}
use Rattle.window_config.specs.Configs.{IsConfig}
use Rattle.window_config.specs.declared.config.Config.{Config}
use Rattle.air_source.specs.Kept.{IsKept}
use Rattle.air_source.specs.declared.links.LinkFrame.{LinkFrame}
use Rattle.air_source.specs.declared.places.RePlace.{RePlace}
use Rattle.air_source.specs.declared.samples.Samples.{Samples}
use Rattle.bfp_codec.specs.declared.samples.Wide.{Wide}
use Rattle.fh_base.specs.Lists.{onto}
use Rattle.unit_model.specs.Standing.{History, owed_until}
use Rattle.unit_model.specs.declared.jobs.UplinkJob.{UplinkJob}
use Rattle.plan_model.specs.Packs.{Message}
use Rattle.ru_buffers.specs.Calls.{StandsFor}
use Rattle.ru_buffers.specs.declared.unit.Ru.{Ru}
use Rattle.uplink_model.specs.Frames.{Antenna, frames_behind}
use Rattle.uplink_model.specs.Messages.{uplink_frames_before, uplink_messages_of, number_behind}
use Rattle.air_source.specs.Answers.{AnswersBy}
use Rattle.uplink_path.specs.Sending.{AreRules, SentSome, rules_of, wait_behind, wait_in}
use Rattle.uplink_path.specs.declared.uplink.Uplink.{Uplink}

-- it was made from this configuration, and it numbered these messages, the newest first
pub record AreNumbered {F : Type 0} (c : Config) (u : Uplink F) (ms : List (Message UplinkJob)) : Type 0 where
  pub config : IsConfig c
  pub rules : u.rules ≡ rules_of c
  pub kept : AreRules u.rules
  pub endpoints : u.endpoints.items ≡ c.endpoints
  pub room : length u.buffer.items ≡ 8 + c.fragment
  pub size : length u.numbers ≡ 16
  pub numbers : (ep : ℕ) → ep < 16 → slice_index_or u.numbers ep 0 ≡ number_behind ep ms % 256
  pub wait : (j : UplinkJob) → wait_in u.run j ≡ wait_behind c (uplink_frames_before c j ms)

-- the antenna whose samples it sends
abbrev pub kept_antenna : {F : Type 0} → Uplink F → Samples F
kept_antenna u = u.antenna

-- no memory was wanting so far
abbrev pub HasNotFailed : {F : Type 0} → Uplink F → Type 0
HasNotFailed u = u.failed ≡ false

-- after want of memory
abbrev pub HasFailed : {F : Type 0} → Uplink F → Type 0
HasFailed u = u.failed ≡ true

-- a history after these messages of the unit were given too
abbrev pub given_too : History → List UplinkJob → History
given_too h js = record { clock = h.clock; arrivals = h.arrivals; reported = h.reported; given = h.given ++ js }

-- The radio unit's jobs up to its clock were sent, with the samples of each antenna by which the closure answers, and it stands for
-- them as given.
pub record SentAll {F : Type 0} (post : RePlace → Wide → Type 0) (c : Config) (h : History) (ms : List (Message UplinkJob)) (u : Uplink F) (ru : Ru) (old new : List LinkFrame) : Type 0 where
  pub sent : (antenna : Antenna) → AnswersBy post antenna → new ≡ old ++ frames_behind c antenna ms (uplink_messages_of c (owed_until c h h.clock))
  pub numbered : AreNumbered c u (onto ms (uplink_messages_of c (owed_until c h h.clock)))
  pub stands : StandsFor c ru (given_too h (owed_until c h h.clock))

-- the first of their frames were sent, and it stands for the first of the jobs as given
pub record SentFirst (post : RePlace → Wide → Type 0) (c : Config) (h : History) (ms : List (Message UplinkJob)) (ru : Ru) (old new : List LinkFrame) : Type 0 where
  pub sent : (antenna : Antenna) → AnswersBy post antenna → SentSome (frames_behind c antenna ms (uplink_messages_of c (owed_until c h h.clock))) old new
  pub given : List UplinkJob
  pub left : List UplinkJob
  pub jobs : owed_until c h h.clock ≡ given ++ left
  pub stands : StandsFor c ru (given_too h given)

-- it may be asked to send what this unit has to give
pub record MaySend {F : Type 0} (pre : F → RePlace → Type 0) (post : F → RePlace → Wide → Type 0) (u : Uplink F) (ru : Ru) : Type 0 where
  pub config : Config
  pub history : History
  pub messages : List (Message UplinkJob)
  pub numbered : AreNumbered config u messages
  pub stands : StandsFor config ru history
  pub kept : IsKept pre post u.antenna
