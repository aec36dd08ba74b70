-- What the message that is being packed holds.
use Rattle.std.specs.Prelude.{◌≡◌, List, length, map, take}
use Rattle.window_config.specs.declared.config.Config.{Config}
use Rattle.unit_model.specs.declared.jobs.UplinkJob.{UplinkJob}
use Rattle.plan_model.specs.Packs.{Message, parts_of}
use Rattle.plan_model.specs.Sizes.{measured}
use Rattle.frame_bytes.specs.declared.messages.DataSection.{DataSection}
use Rattle.uplink_model.specs.Frames.{section_of}
use Rattle.uplink_model.specs.Messages.{job_fields}
use Rattle.uplink_path.specs.declared.pending.Pending.{Pending}
use Rattle.window_config.specs.declared.config.TheConstants.{MESSAGE_SECTIONS}

-- its sections
abbrev pub sections_in : Pending → List DataSection
sections_in p = take p.size.parts p.sections

-- it is this message
pub record IsPacked (c : Config) (p : Pending) (m : Message UplinkJob) : Type 0 where
  pub first : p.first ≡ m.first
  pub room : length p.sections ≡ MESSAGE_SECTIONS
  pub sections : sections_in p ≡ map section_of (parts_of m)
  pub size : p.size ≡ measured (job_fields c.endpoints) m
