-- What is known of these messages and frames.
use Rattle.std.specs.Prelude.{◌≡◌, ℕ, List, ◌++◌, All}
use Rattle.window_config.specs.declared.config.Config.{Config}
use Rattle.fh_base.specs.Lists.{onto}
use Rattle.unit_model.specs.declared.jobs.UplinkJob.{UplinkJob}
use Rattle.plan_model.specs.Packs.{Message, packs}
use Rattle.uplink_model.specs.Frames.{Antenna, frames_behind}
use Rattle.uplink_model.specs.Messages.{job_fields, uplink_messages_of}

-- the jobs of one endpoint make the messages that `plan_model` makes of parts
abbrev pub MessagesArePacks : Type 0
MessagesArePacks =
    (c : Config) (ep : ℕ) (js : List UplinkJob) → All (λ j. j.ep ≡ ep) js → uplink_messages_of c js ≡ packs (job_fields c.endpoints) c.pack js

-- the frames of these messages are those of the first of them, and then those of the rest
abbrev pub FramesAppend : Type 0
FramesAppend =
    (c : Config) (antenna : Antenna) (earlier ms ns : List (Message UplinkJob))
    → frames_behind c antenna earlier (ms ++ ns) ≡ frames_behind c antenna earlier ms ++ frames_behind c antenna (onto earlier ms) ns
