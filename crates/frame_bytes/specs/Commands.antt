-- A C-plane message with one section (O-RAN.WG4.CUS, clauses 7.5.2 and 7.5.3).
use Rattle.std.specs.Prelude.{◌<◌, ◌^◌, ℕ, ℤ, List, [], ◌∷◌, ◌++◌, ◌==◌, if◌then◌else◌, true}
use Rattle.bfp_codec.specs.Layout.{twos}
use Rattle.ecpri_fragments.specs.declared.sequence.SeqField.{SeqField}
use Rattle.cplane_sections.specs.declared.values.CBody.{CBody}
use Rattle.cplane_sections.specs.declared.values.CBody.TheVariants.{Idle, Normal, Offset}
use Rattle.cplane_sections.specs.declared.values.CHead.{CHead}
use Rattle.cplane_sections.specs.declared.values.CSection.{CSection}
use Rattle.cplane_sections.specs.Header.{kind_of}
use Rattle.cplane_sections.specs.Message.{HeadFits, SectionFits}
use Rattle.cplane_sections.specs.Words.{BodyFits}
use Rattle.frame_bytes.specs.Spelled.{Field, in_bytes}
use Rattle.frame_bytes.specs.Transport.{frame_of}
use Rattle.bfp_codec.specs.Field.{flag}

-- timeOffset, frameStructure, cpLength and 8 reserved bits in type 0; udCompHdr and 8 reserved bits in type 1; in type 3
-- udCompHdr is in the place of the reserved bits
abbrev pub body_fields : CBody → List Field
body_fields (Idle time structure cp) = (16, time) ∷ (8, structure) ∷ (16, cp) ∷ (8, 0) ∷ []
body_fields (Normal comp) = (8, comp) ∷ (8, 0) ∷ []
body_fields (Offset time structure cp comp) = (16, time) ∷ (8, structure) ∷ (16, cp) ∷ (8, comp) ∷ []

-- dataDirection, payloadVersion 1, filterIndex, frameId, subframeId, slotId, startSymbolId, numberOfSections, sectionType
abbrev pub head_fields : CHead → List Field
head_fields h =
    (1, flag h.down) ∷ (3, 1) ∷ (4, h.filter) ∷ (8, h.frame_id) ∷ (4, h.subframe) ∷ (6, h.slot) ∷ (6, h.start_symbol)
    ∷ (8, h.count) ∷ (8, kind_of h.body) ∷ body_fields h.body

-- beamId, which type 0 has not
abbrev pub beam_in : ℕ → ℕ → ℕ
beam_in kind beam = if kind == 0 then 0 else beam

-- freqOffset in two's complement and 8 reserved bits, in type 3
abbrev pub offset_fields : ℕ → ℤ → List Field
offset_fields kind freq = if kind == 3 then (24, twos 24 freq) ∷ (8, 0) ∷ [] else []

-- sectionId, rb 0, symInc, startPrbc, numPrbc, reMask, numSymbol, ef 0, beamId
abbrev pub section_fields : ℕ → CSection → List Field
section_fields kind s =
    (12, s.id) ∷ (1, 0) ∷ (1, flag s.sym_inc) ∷ (10, s.start_prb) ∷ (8, s.num_prb) ∷ (12, s.mask) ∷ (4, s.num_symbol)
    ∷ (1, 0) ∷ (15, beam_in kind s.beam) ∷ offset_fields kind s.freq_offset

-- the application bytes
abbrev pub command_of : CHead → CSection → List ℕ
command_of h s = in_bytes (head_fields h) ++ in_bytes (section_fields (kind_of h.body) s)

-- a command is not cut: E is 1 and the subsequence id 0
abbrev pub whole_seq : ℕ → SeqField
whole_seq number = record { seq = number; last = true; sub = 0 }

-- the frame of a command: eCPRI type 2
abbrev pub command_frame : ℕ → ℕ → CHead → CSection → List ℕ
command_frame id number h s = frame_of 2 id (whole_seq number) (command_of h s)

-- a command whose numbers are in their fields' widths
pub record IsCommand (h : CHead) (s : CSection) : Type 0 where
  pub head_fits : HeadFits h
  pub frame_id : h.frame_id < 2 ^ 8
  pub count : h.count < 2 ^ 8
  pub body : BodyFits h.body
  pub section_fits : SectionFits s
  pub num_prb : s.num_prb < 2 ^ 8
