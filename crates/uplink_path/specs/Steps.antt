-- What call after call of a unit and its sender rests on.
use Rattle.std.specs.Prelude.{List}
use Rattle.air_source.specs.Kept.{IsKept}
use Rattle.air_source.specs.declared.places.RePlace.{RePlace}
use Rattle.bfp_codec.specs.declared.samples.Wide.{Wide}
use Rattle.window_config.specs.declared.config.Config.{Config}
use Rattle.unit_model.specs.Standing.{History}
use Rattle.unit_model.specs.declared.jobs.UplinkJob.{UplinkJob}
use Rattle.plan_model.specs.Packs.{Message}
use Rattle.ru_buffers.specs.Calls.{HasGivenPast, StandsFor}
use Rattle.ru_buffers.specs.declared.unit.Ru.{Ru}
use Rattle.uplink_path.specs.Emitting.{AreNumbered}
use Rattle.uplink_path.specs.declared.uplink.Uplink.{Uplink}

-- a unit of this configuration, which may receive a frame
pub record IsUnitOf (c : Config) (u : Ru) : Type 0 where
  pub history : History
  pub stands : StandsFor c u history
  pub given : HasGivenPast u

-- what sends the frames of such a unit
pub record IsSenderOf {F : Type 0} (pre : F → RePlace → Type 0) (post : F → RePlace → Wide → Type 0) (c : Config) (u : Uplink F) : Type 0 where
  pub messages : List (Message UplinkJob)
  pub numbered : AreNumbered c u messages
  pub kept : IsKept pre post u.antenna
