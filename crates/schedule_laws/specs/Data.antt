-- Downlink data, once each: whatever is repeated, reordered or delayed within the bounds, over any number of messages.
use Rattle.std.specs.Prelude.{◌≡◌, ⊤, ℕ, ℤ, pos, ◌-◌, ◌<◌, ◌&&◌, Bool, true, false, not, if◌then◌else◌, List, [], ◌∷◌, Option, Some, None}
use Rattle.std.specs.Int.{int_rem_euclid}
use Rattle.std.specs.List.{slice_index_or}
use Rattle.air_source.specs.declared.events.Side.TheVariants.{Ru}
use Rattle.bfp_codec.specs.declared.samples.Wide.{Wide}
use Rattle.fragment_laws.specs.Apart.{of_message}
use Rattle.fragment_laws.specs.Flow.{numbers_of, size_to}
use Rattle.fragment_laws.specs.Once.{IsOnceWhole, answers, texts}
use Rattle.window_config.specs.declared.config.Config.{Config}
use Rattle.window_config.specs.declared.endpoints.EndpointConfig.{EndpointConfig}
use Rattle.window_config.specs.declared.plan.PlanLine.{PlanLine}
use Rattle.window_config.specs.declared.verdicts.Class.TheVariants.{OnTime}
use Rattle.unit_model.specs.Blocks.{block_at, data_class, data_slot}
use Rattle.unit_model.specs.Claims.{cell_at, covers, first_prb, is_from, prb_count}
use Rattle.unit_model.specs.Decoding.{Sections, decode}
use Rattle.fh_base.specs.Lists.{onto}
use Rattle.unit_model.specs.Meetings.{Arrival, fragments}
use Rattle.unit_model.specs.Proper.{IsAt}
use Rattle.unit_model.specs.Reports.{data_of, met, timely_of}
use Rattle.unit_model.specs.declared.cells.Block.{Block}
use Rattle.unit_model.specs.declared.cells.Cell.{Cell}
use Rattle.unit_model.specs.declared.decoded.UserSection.{UserSection}
use Rattle.plan_model.specs.Lines.{line_allocation, planned}
use Rattle.plan_model.specs.Packs.{Numbered, parts_of, size_of}
use Rattle.plan_model.specs.Streams.{Part, frames_in, messages_of, part_fields, part_in}
use Rattle.plan_model.specs.declared.lines.PlannedLine.{PlannedLine}
use Rattle.plan_model.specs.declared.streams.Stream.TheVariants.{DownData}
use Rattle.schedule_laws.specs.Flows.{bounds_of, flow_of}
use Rattle.schedule_laws.specs.Premise.{AllArrive, Texts}
use Rattle.ecpri_fragments.specs.Pieces.{joined}
use Rattle.fh_base.specs.Members.{IsIn}

-- the samples of each cell as they are read back: the source's block, shrunk by the endpoint's compression
abbrev pub Blocks : Type 0
Blocks = Cell → List Wide

-- a section of data that carries a line in one of its symbols: its header has the frame's low 8 bits, and each PRB its cell's samples
-- (O-RAN.WG4.CUS, U-plane messages)
pub record IsDataFor (blocks : Blocks) (x : Part) (d : UserSection) : Type 0 where
  pub ep : d.ep ≡ x.planned.ep
  pub endpoint : d.endpoint ≡ x.planned.endpoint
  pub down : d.head.down ≡ true
  pub frame_id : pos d.head.frame_id ≡ int_rem_euclid x.planned.line.slot.frame (pos 256)
  pub subframe : d.head.subframe ≡ x.planned.line.slot.subframe
  pub slot : d.head.slot ≡ x.planned.line.slot.slot
  pub id : d.section.id ≡ x.planned.line.section
  pub symbol : d.section.symbol ≡ x.symbol
  pub start_prb : d.section.start_prb ≡ x.planned.line.start_prb
  pub num_prb : d.section.num_prb ≡ x.planned.line.num_prb
  pub samples : (n : ℕ) → is_from (first_prb (line_allocation x.planned)) (prb_count (line_allocation x.planned)) n ≡ true
      → slice_index_or d.blocks (n - first_prb (line_allocation x.planned)) [] ≡ blocks (cell_at x.planned.ep true x.planned.line.slot x.symbol n)

-- one section for each part, in this order, of a message whose first and last fragments were received then
abbrev pub AreSections : Blocks → ℤ → ℤ → List Part → List UserSection → Type 0
AreSections blocks first last [] [] = ⊤
AreSections blocks first last [] (d ∷ ds) = ⊥
AreSections blocks first last (x ∷ xs) [] = ⊥
AreSections blocks first last (x ∷ xs) (d ∷ ds) = IsDataFor blocks x d × (d.first.0 ≡ first) × (d.last.0 ≡ last) × AreSections blocks first last xs ds

-- what all the bytes of a message say: its parts, the newest section first
pub record IsDecoded (c : Config) (text : Texts) (blocks : Blocks) (ep : ℕ) (e : EndpointConfig) (n : Numbered Part) (first last : ℤ) : Type 0 where
  pub sections : List UserSection
  pub is : decode Ru ep e first last (joined (texts (text ep n.number) (frames_in c DownData n.message))) ≡ Sections sections
  pub are : AreSections blocks first last (onto [] (parts_of n.message)) sections

-- the bytes of each data message: they are as many as its header and sections have, and its fragments joined say its sections
pub record AreWritten (c : Config) (ps : List PlannedLine) (text : Texts) (blocks : Blocks) : Type 0 where
  pub size : (ep : ℕ) (e : EndpointConfig) (n : Numbered Part) → IsAt c.endpoints ep e → IsIn n (messages_of c ps DownData ep e)
      → size_to (text ep n.number) (frames_in c DownData n.message) ≡ size_of part_fields n.message
  pub decoded : (ep : ℕ) (e : EndpointConfig) (n : Numbered Part) (first last : ℤ) → IsAt c.endpoints ep e → IsIn n (messages_of c ps DownData ep e)
      → IsDecoded c text blocks ep e n first last

-- ---- the law

-- a line that radiates covers a cell
abbrev pub radiates_in : PlannedLine → Cell → Bool
radiates_in p cell = not (line_allocation p).idle && covers (line_allocation p) cell

-- the block that a plan gives a downlink cell: the cell's samples, under the section id of the lines that cover it
abbrev pub planned_block : Blocks → List PlannedLine → Cell → Option Block
planned_block blocks [] cell = None
planned_block blocks (p ∷ ps) cell =
    if radiates_in p cell then Some (record { id = p.line.section; samples = blocks cell }) else planned_block blocks ps cell

-- a section was received for a line in this symbol
pub record IsDataSent (blocks : Blocks) (x : Part) (ds : List UserSection) : Type 0 where
  pub section : UserSection
  pub came : IsIn section ds
  pub carries : IsDataFor blocks x section
  pub slot : data_slot section ≡ x.planned.line.slot

-- a section carries a line's part, and is on time
pub record IsPlannedData (c : Config) (ps : List PlannedLine) (blocks : Blocks) (d : UserSection) : Type 0 where
  pub part : Part
  pub planned_is : IsIn part.planned ps
  pub carries : IsDataFor blocks part d
  pub slot : data_slot d ≡ part.planned.line.slot
  pub class : data_class Ru c.delays d ≡ OnTime

-- Of the arrivals, the newest first: each message becomes whole once, with all its pieces and within the bounds; each section that is
-- decoded carries a line in one of its symbols, on time; each `dl` line has one in each of its symbols; and the block of each downlink
-- cell is the plan's, none where no such line covers it.
pub record AreDecodedOnce (c : Config) (ps : List PlannedLine) (text : Texts) (blocks : Blocks) (arrivals : List Arrival) : Type 0 where
  pub whole : (ep j : ℕ) → j < (flow_of c ps text ep).count
      → IsOnceWhole (bounds_of c) (flow_of c ps text ep) j (of_message (numbers_of (bounds_of c) (flow_of c ps text)) ep j (fragments (met Ru c arrivals)))
      (answers (bounds_of c).hold (numbers_of (bounds_of c) (flow_of c ps text)) ep j (fragments (met Ru c arrivals)))
  pub each : (d : UserSection) → IsIn d (data_of Ru c arrivals) → IsPlannedData c ps blocks d
  pub every : (p : PlannedLine) (symbol : ℕ) → IsIn p ps → (line_allocation p).down ≡ true → (line_allocation p).idle ≡ false
      → is_from p.line.symbol p.line.count symbol ≡ true → IsDataSent blocks (part_in symbol p) (data_of Ru c arrivals)
  pub blocks_are : (cell : Cell) → cell.down ≡ true → block_at (timely_of Ru c arrivals) cell ≡ planned_block blocks ps cell

abbrev pub EachIsDecodedOnce : Type 0
EachIsDecodedOnce =
    (c : Config) (lines : List PlanLine) (text : Texts) (blocks : Blocks) (arrivals : List Arrival) → AllArrive c lines text arrivals
    → AreWritten c (planned c.endpoints lines) text blocks → AreDecodedOnce c (planned c.endpoints lines) text blocks arrivals
