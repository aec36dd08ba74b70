-- A message whose parts are in a list of lines, as it can be written (this project's means).
use Rattle.std.specs.Prelude.{◌≡◌, ◌<◌, ◌≤◌, ⊤, List, [], ◌∷◌, length, map, Some}
use Rattle.std.specs.List.{slice_get}
use Rattle.plan_model.specs.Packs.{Message, parts_of}
use Rattle.plan_model.specs.Streams.{Part}
use Rattle.plan_model.specs.declared.lines.PlannedLine.{PlannedLine}
use Rattle.frame_bytes.specs.Messages.{MessageFits}
use Rattle.frame_bytes.specs.declared.messages.DataSection.{DataSection}
use Rattle.sent_frames.specs.Messages.{data_head, data_section}
use Rattle.du_scheduler.specs.Kept.{placed_line}
use Rattle.du_scheduler.specs.declared.kept.PlacedLine.{PlacedLine}
use Rattle.fh_base.specs.declared.symbols.TheConstants.{SLOT_SYMBOLS}
use Rattle.window_config.specs.declared.config.TheConstants.{MESSAGE_SECTIONS}
use Rattle.frame_bytes.specs.Headers.{carrier_of}
use Rattle.fh_base.specs.declared.carrier.TheConstants.{CARRIER_PRBS}

-- each part's line is at its place
abbrev pub StandIn : List PlannedLine → List Part → Type 0
StandIn lines [] = ⊤
StandIn lines (x ∷ xs) = (slice_get lines x.planned.index ≡ Some x.planned) × StandIn lines xs

-- these are the places of the parts
pub record StandsAt (lines : List PlannedLine) (parts : List PlacedLine) (xs : List Part) : Type 0 where
  pub are : parts ≡ map placed_line xs
  pub stand : StandIn lines xs

abbrev pub message_sections : Message Part → List DataSection
message_sections m = map data_section (parts_of m)

-- a data message that can be written
pub record IsData (lines : List PlannedLine) (parts : List PlacedLine) (m : Message Part) : Type 0 where
  pub at : StandsAt lines parts (parts_of m)
  pub few : length (parts_of m) ≤ MESSAGE_SECTIONS
  pub symbol : m.first.symbol < SLOT_SYMBOLS
  pub prbs : m.first.planned.endpoint.prbs ≤ CARRIER_PRBS
  pub fits : MessageFits (carrier_of m.first.planned.endpoint) (data_head m.first) (message_sections m)
