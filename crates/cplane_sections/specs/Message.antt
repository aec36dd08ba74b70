-- The sections of a C-plane message, and what the tests say of a header and its sections.
use Rattle.std.specs.Prelude.{◌≡◌, ℕ, zero, suc, pos, ◌+◌, ◌-◌, ◌<◌, ◌≤◌, ◌≤ℤ◌, ◌<ℤ◌, ◌^◌, neg_ℤ, List, [], ◌∷◌, length, drop, All, IsTrue}
use Rattle.fh_base.specs.declared.values.Shape.{Shape}
use Rattle.cplane_sections.specs.declared.values.CHead.{CHead}
use Rattle.cplane_sections.specs.declared.values.CSection.{CSection}
use Rattle.cplane_sections.specs.Header.{size_of_head, kind_of}
use Rattle.cplane_sections.specs.Section.{symInc, size_of_section, section_of}
use Rattle.cplane_sections.specs.Tests.{sections_pass}
use Rattle.bfp_codec.specs.Field.{flag}

-- n sections from a place on, where the maintained symbol number was `before`
unfoldable pub sections_of : ℕ → ℕ → List ℕ → ℕ → ℕ → List CSection
sections_of zero kind bytes place before = []
sections_of (suc n) kind bytes place before =
    section_of kind before (drop place bytes) ∷ sections_of n kind bytes (place + size_of_section kind) (before + symInc (drop place bytes))

-- the sections of a message with this header, each with its maintained symbol number
abbrev pub sections_in : CHead → List ℕ → List CSection
sections_in head bytes = sections_of head.count (kind_of head.body) bytes (size_of_head (kind_of head.body)) head.start_symbol

-- the first of n sections is at the place, and the others pass
pub record PassesOn (n kind : ℕ) (bytes : List ℕ) (place before : ℕ) : Type 0 where
  pub room : place + size_of_section kind ≤ length bytes
  pub below : before + symInc (drop place bytes) < 255
  pub rest : IsTrue (sections_pass (n - 1) (size_of_section kind) bytes (place + size_of_section kind) (before + symInc (drop place bytes)))
  pub first : sections_of n kind bytes place before ≡ section_of kind before (drop place bytes) ∷ sections_of (n - 1) kind bytes (place + size_of_section kind) (before + symInc (drop place bytes))

-- each field of the header in its width
pub record HeadFits (head : CHead) : Type 0 where
  pub filter : head.filter < 2 ^ 4
  pub subframe : head.subframe < 2 ^ 4
  pub slot : head.slot < 2 ^ 6
  pub start_symbol : head.start_symbol < 2 ^ 6

-- each field of the section in its width
pub record SectionFits (s : CSection) : Type 0 where
  pub id : s.id < 2 ^ 12
  pub start_prb : s.start_prb < 2 ^ 10
  pub mask : s.mask < 2 ^ 12
  pub num_symbol : s.num_symbol < 2 ^ 4
  pub beam : s.beam < 2 ^ 15
  pub freq_low : neg_ℤ (pos (2 ^ 23)) ≤ℤ s.freq_offset
  pub freq_high : s.freq_offset <ℤ pos (2 ^ 23)

-- a section that the tests admit where the maintained symbol number was `before`: its `symbol` is the maintained
-- number, it has a beam in types 1 and 3 only, and a frequency offset in type 3 only
pub record IsAdmitted (kind symbols before : ℕ) (s : CSection) : Type 0 where
  pub maintained : s.symbol ≡ before + flag s.sym_inc
  pub some : 0 < s.num_symbol
  pub within : s.symbol + s.num_symbol ≤ symbols
  pub no_beam : kind ≡ 0 → s.beam ≡ 0
  pub no_offset : (kind ≡ 3 → ⊥) → s.freq_offset ≡ pos 0

-- sections that the tests admit, one after the other
unfoldable pub AreAdmitted : ℕ → ℕ → ℕ → List CSection → Type 0
AreAdmitted kind symbols before [] = Unit {0}
AreAdmitted kind symbols before (s ∷ ss) = IsAdmitted kind symbols before s × AreAdmitted kind symbols s.symbol ss

-- a header and sections that the tests admit
pub record Admits (shape : Shape) (head : CHead) (ss : List CSection) : Type 0 where
  pub subframe : head.subframe ≤ 9
  pub slot : head.slot < shape.slots
  pub start_symbol : head.start_symbol < shape.symbols
  pub some : 0 < head.count
  pub count : head.count ≡ length ss
  pub sections : AreAdmitted (kind_of head.body) shape.symbols head.start_symbol ss

-- each field of a message in its width
pub record MessageFits (head : CHead) (ss : List CSection) : Type 0 where
  pub head_fits : HeadFits head
  pub sections_fit : All SectionFits ss
