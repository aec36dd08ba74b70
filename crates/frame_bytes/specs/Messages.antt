-- A U-plane message with the samples of a source (O-RAN.WG4.CUS, clause 8.3.2).
use Rattle.std.specs.Prelude.{◌≡◌, ℕ, zero, suc, ◌+◌, ◌*◌, ◌<◌, ◌≤◌, ◌^◌, List, [], ◌∷◌, ◌++◌, All, false, if◌then◌else◌}
use Rattle.fh_base.specs.Carrier.{is_outside, first_of, count_of}
use Rattle.bfp_codec.specs.declared.samples.Iq.{Iq}
use Rattle.bfp_codec.specs.declared.methods.Method.{Method}
use Rattle.bfp_codec.specs.declared.methods.Format.{Format}
use Rattle.bfp_codec.specs.Layout.{HasWidth, length_of, packed_of}
use Rattle.uplane_sections.specs.declared.values.UHead.{UHead}
use Rattle.uplane_sections.specs.Section.{header_size}
use Rattle.uplane_sections.specs.Writes.{HeadFits, udCompHdr}
use Rattle.frame_bytes.specs.declared.messages.DataSection.{DataSection}
use Rattle.frame_bytes.specs.declared.messages.Carrier.{Carrier}
use Rattle.frame_bytes.specs.Spelled.{Field, in_bytes}
use Rattle.bfp_codec.specs.Field.{flag}
use Rattle.ecpri_fragments.specs.declared.place.TheConstants.{MESSAGE_BYTES}

-- dataDirection, payloadVersion 1, filterIndex, frameId, subframeId, slotId, symbolId
abbrev pub head_fields : UHead → List Field
head_fields h = (1, flag h.down) ∷ (3, 1) ∷ (4, h.filter) ∷ (8, h.frame_id) ∷ (4, h.subframe) ∷ (6, h.slot) ∷ (6, h.symbol) ∷ []

-- udCompHdr and 8 reserved bits, in a dynamic format
abbrev pub compression_fields : Format → List Field
compression_fields format = if format.dynamic then (8, udCompHdr format.method) ∷ (8, 0) ∷ [] else []

-- sectionId, rb 0, symInc 0, startPrbu, numPrbu
abbrev pub section_fields : Format → DataSection → List Field
section_fields format s = (12, s.id) ∷ (1, 0) ∷ (1, 0) ∷ (10, s.start_prb) ∷ (8, s.num_prb) ∷ compression_fields format

-- n packed PRBs from `prb` on, of the blocks that are answered for each
abbrev pub packed_prbs : Method → (ℕ → List Iq) → ℕ → ℕ → List ℕ
packed_prbs method block prb zero = []
packed_prbs method block prb (suc n) = packed_of method (block prb) ++ packed_prbs method block (prb + 1) n

-- a section on a carrier: its headers and its PRBs
unfoldable pub section_of : Carrier → (ℕ → List Iq) → DataSection → List ℕ
section_of c block s = in_bytes (section_fields c.format s) ++ packed_prbs c.format.method block (first_of s.start_prb s.num_prb) (count_of c.prbs s.num_prb)

-- sections, of which the first has this place in the message; the source answers by place and PRB
abbrev pub sections_of : Carrier → (ℕ → ℕ → List Iq) → ℕ → List DataSection → List ℕ
sections_of c source place [] = []
sections_of c source place (s ∷ ss) = section_of c (source place) s ++ sections_of c source (place + 1) ss

-- the application bytes
unfoldable pub message_of : Carrier → (ℕ → ℕ → List Iq) → UHead → List DataSection → List ℕ
message_of c source h ss = in_bytes (head_fields h) ++ sections_of c source 0 ss

-- how many bytes a section has
abbrev pub section_size : Carrier → ℕ → ℕ
section_size c num = header_size c.format + count_of c.prbs num * length_of c.format.method

abbrev pub sections_size : Carrier → List DataSection → ℕ
sections_size c [] = 0
sections_size c (s ∷ ss) = section_size c s.num_prb + sections_size c ss

-- how many application bytes a message has
abbrev pub message_size : Carrier → List DataSection → ℕ
message_size c ss = 4 + sections_size c ss

-- a section's fields in their widths, and its PRBs on the carrier
pub record SectionFits (c : Carrier) (s : DataSection) : Type 0 where
  pub id : s.id < 2 ^ 12
  pub start_prb : s.start_prb < 2 ^ 10
  pub within : is_outside c.prbs s.start_prb s.num_prb ≡ false

-- a message that can be written: at most 16,384 application bytes (this project's profile)
pub record MessageFits (c : Carrier) (h : UHead) (ss : List DataSection) : Type 0 where
  pub head : HeadFits h
  pub width : HasWidth c.format.method
  pub sections : All (SectionFits c) ss
  pub size : message_size c ss ≤ MESSAGE_BYTES

-- at each section and PRB of the message the source may be called, where `pre` says so
abbrev pub MayBeAsked : ℕ → ℕ → (ℕ → ℕ → Type 0) → Type 0
MayBeAsked sections prbs pre = (place prb : ℕ) → place < sections → prb < prbs → pre place prb

-- what is answered at a PRB of the carrier is what this function says
abbrev pub AnswersAt : ℕ → (ℕ → List Iq → Type 0) → (ℕ → List Iq) → Type 0
AnswersAt prbs post block = (prb : ℕ) (samples : List Iq) → prb < prbs → post prb samples → samples ≡ block prb

-- the same at each of so many sections
abbrev pub AnswersBy : ℕ → ℕ → (ℕ → ℕ → List Iq → Type 0) → (ℕ → ℕ → List Iq) → Type 0
AnswersBy sections prbs post source = (place : ℕ) → place < sections → AnswersAt prbs (post place) (source place)
