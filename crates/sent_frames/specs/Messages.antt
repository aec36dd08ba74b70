-- The downlink U-plane message of lines of a plan in one symbol (O-RAN.WG4.CUS, U-plane messages).
use Rattle.std.specs.Prelude.{ℕ, true, List, map}
use Rattle.std.specs.List.{slice_index_or}
use Rattle.bfp_codec.specs.declared.samples.Iq.{Iq}
use Rattle.uplane_sections.specs.declared.values.UHead.{UHead}
use Rattle.unit_model.specs.Claims.{cell_at}
use Rattle.unit_model.specs.declared.cells.Cell.{Cell}
use Rattle.plan_model.specs.Packs.{Message, parts_of}
use Rattle.plan_model.specs.Streams.{Part}
use Rattle.frame_bytes.specs.declared.messages.DataSection.{DataSection}
use Rattle.frame_bytes.specs.Messages.{message_of}
use Rattle.frame_bytes.specs.Headers.{frame_id_of, carrier_of}

-- the twelve samples of each cell
abbrev pub Source : Type 0
Source = Cell → List Iq

-- the application header: dataDirection 1, filterIndex 0
abbrev pub data_head : Part → UHead
data_head x = record {
  down = true;
  filter = 0;
  frame_id = frame_id_of x.planned.line.slot.frame;
  subframe = x.planned.line.slot.subframe;
  slot = x.planned.line.slot.slot;
  symbol = x.symbol;
}

-- sectionId, startPrbu and numPrbu are the line's
abbrev pub data_section : Part → DataSection
data_section x = record { id = x.planned.line.section; start_prb = x.planned.line.start_prb; num_prb = x.planned.line.num_prb }

-- the samples of a part's PRB
abbrev pub part_samples : Source → Part → ℕ → List Iq
part_samples source x prb = source (cell_at x.planned.ep true x.planned.line.slot x.symbol prb)

-- the samples of a PRB in the section at a place; there is none at a place past the last
abbrev pub message_samples : Source → Message Part → ℕ → ℕ → List Iq
message_samples source m place prb = part_samples source (slice_index_or (parts_of m) place m.first) prb

-- the application bytes: a section for each part, in their order
abbrev pub message_bytes : Source → Message Part → List ℕ
message_bytes source m = message_of (carrier_of m.first.planned.endpoint) (message_samples source m) (data_head m.first) (map data_section (parts_of m))
