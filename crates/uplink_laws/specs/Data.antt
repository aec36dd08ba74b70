-- Uplink data, once each: whatever is repeated, reordered or delayed within the bounds, over any number of messages.
use Rattle.std.specs.Prelude.{◌≡◌, ⊤, ℕ, ℤ, pos, ◌-◌, true, false, List, [], ◌∷◌, map, Some}
use Rattle.std.specs.Int.{int_rem_euclid}
use Rattle.std.specs.List.{slice_get, slice_index_or}
use Rattle.std.specs.Option.{option_map_or}
use Rattle.air_source.specs.Answers.{block_of}
use Rattle.air_source.specs.declared.events.Side.TheVariants.{Du}
use Rattle.bfp_codec.specs.Shrunk.{shrunk}
use Rattle.fragment_laws.specs.Once.{Completed, texts, wholes}
use Rattle.window_config.specs.declared.config.Config.{Config}
use Rattle.window_config.specs.declared.endpoints.EndpointConfig.{EndpointConfig}
use Rattle.window_config.specs.declared.plan.PlanLine.{PlanLine}
use Rattle.window_config.specs.declared.verdicts.Class.TheVariants.{OnTime}
use Rattle.unit_model.specs.Blocks.{block_at, data_class, data_slot}
use Rattle.unit_model.specs.Claims.{cell_at, covers, first_prb, is_from, prb_count}
use Rattle.unit_model.specs.Decoding.{Sections, decode, decode_message, sections_of}
use Rattle.fh_base.specs.Lists.{onto}
use Rattle.unit_model.specs.Meetings.{Arrival, fragments}
use Rattle.unit_model.specs.Proper.{IsAt}
use Rattle.unit_model.specs.Reports.{data_of, met, timely_of}
use Rattle.unit_model.specs.declared.cells.Cell.{Cell}
use Rattle.unit_model.specs.declared.decoded.UserSection.{UserSection}
use Rattle.plan_model.specs.Lines.{line_allocation, planned, is_up_line}
use Rattle.plan_model.specs.Packs.{Numbered, parts_of}
use Rattle.plan_model.specs.Streams.{Part, frames_in, messages_of, part_in}
use Rattle.plan_model.specs.declared.lines.PlannedLine.{PlannedLine}
use Rattle.plan_model.specs.declared.streams.Stream.TheVariants.{UpData}
use Rattle.schedule_laws.specs.Data.{Blocks, planned_block}
use Rattle.sent_frames.specs.Messages.{Source}
use Rattle.uplink_model.specs.Frames.{Antenna}
use Rattle.uplink_laws.specs.Flows.{uplink_bounds_of, fragment_text}
use Rattle.uplink_laws.specs.Premise.{BothArrive}
use Rattle.ecpri_fragments.specs.Pieces.{joined}
use Rattle.fh_base.specs.Members.{IsIn}

-- what the endpoint's compression leaves of the antenna's block at each cell
abbrev pub antenna_blocks : Config → Antenna → Blocks
antenna_blocks c antenna cell = option_map_or (λ e. shrunk e.format.method (block_of antenna e.id cell.slot cell.symbol cell.prb)) (slice_get c.endpoints cell.ep) []

-- a section of data that carries an uplink line in one of its symbols: its header has filterIndex 0 and the frame's low 8 bits, and each
-- PRB its cell's samples (O-RAN.WG4.CUS, U-plane messages)
pub record IsUplinkDataFor (blocks : Blocks) (x : Part) (d : UserSection) : Type 0 where
  pub ep : d.ep ≡ x.planned.ep
  pub endpoint : d.endpoint ≡ x.planned.endpoint
  pub down : d.head.down ≡ false
  pub filter : d.head.filter ≡ 0
  pub frame_id : pos d.head.frame_id ≡ int_rem_euclid x.planned.line.slot.frame (pos 256)
  pub subframe : d.head.subframe ≡ x.planned.line.slot.subframe
  pub slot : d.head.slot ≡ x.planned.line.slot.slot
  pub id : d.section.id ≡ x.planned.line.section
  pub symbol : d.section.symbol ≡ x.symbol
  pub start_prb : d.section.start_prb ≡ x.planned.line.start_prb
  pub num_prb : d.section.num_prb ≡ x.planned.line.num_prb
  pub samples : (n : ℕ) → is_from (first_prb (line_allocation x.planned)) (prb_count (line_allocation x.planned)) n ≡ true
      → slice_index_or d.blocks (n - first_prb (line_allocation x.planned)) [] ≡ blocks (cell_at x.planned.ep false x.planned.line.slot x.symbol n)

-- one section for each part, in this order, of a message whose first and last fragments were received then
abbrev pub AreUplinkSections : Blocks → ℤ → ℤ → List Part → List UserSection → Type 0
AreUplinkSections blocks first last [] [] = ⊤
AreUplinkSections blocks first last [] (d ∷ ds) = ⊥
AreUplinkSections blocks first last (x ∷ xs) [] = ⊥
AreUplinkSections blocks first last (x ∷ xs) (d ∷ ds) = IsUplinkDataFor blocks x d × (d.first.0 ≡ first) × (d.last.0 ≡ last) × AreUplinkSections blocks first last xs ds

-- what all the fragments of a message say, joined: its parts, the newest section first
pub record IsUplinkDecoded (c : Config) (antenna : Antenna) (ep : ℕ) (e : EndpointConfig) (n : Numbered Part) (first last : ℤ) : Type 0 where
  pub sections : List UserSection
  pub is : decode Du ep e first last (joined (texts (fragment_text c antenna e n) (frames_in c UpData n.message))) ≡ Sections sections
  pub are : AreUplinkSections (antenna_blocks c antenna) first last (onto [] (parts_of n.message)) sections

-- what a message that became whole says
abbrev pub said_by : Config → Completed → List UserSection
said_by c w = option_map_or (λ e. sections_of (decode_message Du w.by.ep e w.message)) (slice_get c.endpoints w.by.ep) []

-- ---- the law

-- a section was received for a line in this symbol
pub record IsUplinkDataSent (blocks : Blocks) (x : Part) (ds : List UserSection) : Type 0 where
  pub section : UserSection
  pub came : IsIn section ds
  pub carries : IsUplinkDataFor blocks x section
  pub slot : data_slot section ≡ x.planned.line.slot

-- a section carries an uplink line's part, and is on time
pub record IsPlannedUplinkData (c : Config) (ps : List PlannedLine) (blocks : Blocks) (d : UserSection) : Type 0 where
  pub part : Part
  pub planned_is : IsIn part.planned ps
  pub uplink : is_up_line part.planned ≡ true
  pub carries : IsUplinkDataFor blocks part d
  pub slot : data_slot d ≡ part.planned.line.slot
  pub class : data_class Du c.delays d ≡ OnTime

-- Of the arrivals at the distributed unit, the newest first: what is decoded is what the messages say that became whole, one after the
-- other; a message says a section for each of its parts; each section carries an uplink line in one of its symbols, on time; each `ul`
-- line has one in each of its symbols; and the block of each uplink cell is that of any such line that covers it, none where no such line
-- does.
pub record AreUplinksDecodedOnce (c : Config) (ps : List PlannedLine) (antenna : Antenna) (up : List Arrival) : Type 0 where
  pub wholes_say : data_of Du c up ≡ joined (map (said_by c) (wholes (uplink_bounds_of c).hold (fragments (met Du c up))))
  pub messages : (ep : ℕ) (e : EndpointConfig) (n : Numbered Part) (first last : ℤ) → IsAt c.endpoints ep e → IsIn n (messages_of c ps UpData ep e)
      → IsUplinkDecoded c antenna ep e n first last
  pub each : (d : UserSection) → IsIn d (data_of Du c up) → IsPlannedUplinkData c ps (antenna_blocks c antenna) d
  pub every : (p : PlannedLine) (symbol : ℕ) → IsIn p ps → is_up_line p ≡ true → is_from p.line.symbol p.line.count symbol ≡ true
      → IsUplinkDataSent (antenna_blocks c antenna) (part_in symbol p) (data_of Du c up)
  pub blocks_are : (cell : Cell) → cell.down ≡ false → block_at (timely_of Du c up) cell ≡ planned_block (antenna_blocks c antenna) ps cell
  pub any_line : (cell : Cell) (p : PlannedLine) → IsIn p ps → is_up_line p ≡ true → covers (line_allocation p) cell ≡ true
      → block_at (timely_of Du c up) cell ≡ Some (record { id = p.line.section; samples = antenna_blocks c antenna cell })

abbrev pub EachUplinkIsDecodedOnce : Type 0
EachUplinkIsDecodedOnce =
    (c : Config) (lines : List PlanLine) (source : Source) (antenna : Antenna) (down up : List Arrival) → BothArrive c lines source antenna down up
    → AreUplinksDecodedOnce c (planned c.endpoints lines) antenna up
