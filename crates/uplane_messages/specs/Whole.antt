-- The items of a message that is not refused (O-RAN.WG4.CUS, clause 8.3.2).
use Rattle.std.specs.Prelude.{◌≡◌, ℕ, ◌+◌, ◌-◌, ◌<◌, List, [], ◌∷◌, false}
use Rattle.fh_base.specs.declared.values.Shape.{Shape}
use Rattle.uplane_sections.specs.declared.values.UHead.{UHead}
use Rattle.uplane_sections.specs.declared.values.USection.{USection}
use Rattle.uplane_sections.specs.Messages.{Item, Head, Section, Block}
use Rattle.fh_base.specs.Carrier.{is_outside, first_of, count_of}
use Rattle.uplane_sections.specs.Writes.{IsHeadAdmitted}

-- the symbol of a section is one of a slot, and its PRBs lie in the carrier
pub record IsSectionAdmitted (prbs : ℕ) (shape : Shape) (s : USection) : Type 0 where
  pub symbol : s.symbol < shape.symbols
  pub within : is_outside prbs s.start_prb s.num_prb ≡ false

-- n blocks, whose PRB numbers go up by one from `prb` on, and after them sections, each with just as many blocks as it
-- has PRBs, from its first PRB on
abbrev pub AreSections : ℕ → Shape → ℕ → ℕ → List Item → Type 0
AreSections prbs shape prb n [] = n ≡ 0
AreSections prbs shape prb n (Head h ∷ items) = ⊥
AreSections prbs shape prb n (Section s ∷ items) =
    (n ≡ 0) × IsSectionAdmitted prbs shape s × AreSections prbs shape (first_of s.start_prb s.num_prb) (count_of prbs s.num_prb) items
AreSections prbs shape prb n (Block p samples ∷ items) = (0 < n) × (p ≡ prb) × AreSections prbs shape (prb + 1) (n - 1) items

-- this header, which passed the tests, and then sections with all their blocks
pub record IsWhole (prbs : ℕ) (shape : Shape) (head : UHead) (items : List Item) : Type 0 where
  pub rest : List Item
  pub first : items ≡ Head head ∷ rest
  pub admitted : IsHeadAdmitted shape head
  pub sections : AreSections prbs shape 0 0 rest
