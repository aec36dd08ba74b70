-- Written C-plane messages: each reserved bit is 0.
use Rattle.std.specs.Prelude.{◌≡◌, ℕ, pos, ◌+◌, ◌≤◌, List, [], ◌∷◌, length, drop, Ok, ◌==◌, if◌then◌else◌}
use Rattle.fh_base.specs.declared.values.Shape.{Shape}
use Rattle.cplane_sections.specs.declared.values.CHead.{CHead}
use Rattle.cplane_sections.specs.declared.values.CSection.{CSection}
use Rattle.cplane_sections.specs.Header.{payloadVersion, sectionType, idle_reserved, normal_reserved, size_of_head, head_of, kind_of}
use Rattle.cplane_sections.specs.Section.{rb, ef, beamId, offset_reserved, size_of_section, section_of}
use Rattle.cplane_sections.specs.Tests.{checked}
use Rattle.cplane_sections.specs.Message.{sections_in}
use Rattle.bfp_codec.specs.Field.{flag}

-- the bytes begin with this header
pub record WritesHead (head : CHead) (bytes : List ℕ) : Type 0 where
  pub reads : head_of bytes ≡ head
  pub version : payloadVersion bytes ≡ 1
  pub kind : sectionType bytes ≡ kind_of head.body
  pub idle : kind_of head.body ≡ 0 → idle_reserved bytes ≡ 0
  pub normal : kind_of head.body ≡ 1 → normal_reserved bytes ≡ 0

-- what a message of a section type carries of a section, where the maintained symbol number was `before`
abbrev pub carried : ℕ → ℕ → CSection → CSection
carried kind before s = record {
  id = s.id;
  sym_inc = s.sym_inc;
  symbol = before + flag s.sym_inc;
  start_prb = s.start_prb;
  num_prb = s.num_prb;
  mask = s.mask;
  num_symbol = s.num_symbol;
  beam = if kind == 0 then 0 else s.beam;
  freq_offset = if kind == 3 then s.freq_offset else pos 0;
}

-- the bytes begin with this section
pub record WritesSection (kind : ℕ) (s : CSection) (bytes : List ℕ) : Type 0 where
  pub reads : (before : ℕ) → section_of kind before bytes ≡ carried kind before s
  pub each_rb : rb bytes ≡ 0
  pub no_extension : ef bytes ≡ 0
  pub idle : kind ≡ 0 → beamId bytes ≡ 0
  pub offset : kind ≡ 3 → offset_reserved bytes ≡ 0

-- the complete section is at a place
pub record StandsAt (kind : ℕ) (s : CSection) (bytes : List ℕ) (place : ℕ) : Type 0 where
  pub room : place + size_of_section kind ≤ length bytes
  pub writes : WritesSection kind s (drop place bytes)

-- the sections are written from a place to the end, one after the other
unfoldable pub AreWritten : ℕ → List ℕ → ℕ → List CSection → Type 0
AreWritten kind bytes place [] = place ≡ length bytes
AreWritten kind bytes place (s ∷ ss) = StandsAt kind s bytes place × AreWritten kind bytes (place + size_of_section kind) ss

-- the bytes are this header and these sections
pub record WritesMessage (head : CHead) (ss : List CSection) (bytes : List ℕ) : Type 0 where
  pub room : size_of_head (kind_of head.body) ≤ length bytes
  pub head_written : WritesHead head bytes
  pub sections_written : AreWritten (kind_of head.body) bytes (size_of_head (kind_of head.body)) ss

-- the bytes pass the tests, and give this header and these sections
pub record IsReadAs (shape : Shape) (head : CHead) (ss : List CSection) (bytes : List ℕ) : Type 0 where
  pub head_read : checked shape bytes ≡ Ok head
  pub sections_read : sections_in head bytes ≡ ss
