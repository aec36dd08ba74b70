-- What the application bytes of a sent message are read as, by the endpoint's format.
use Rattle.std.specs.Prelude.{ℕ, zero, suc, ◌+◌, ◌<◌, ◌^◌, List, [], ◌∷◌, ◌++◌, All, false}
use Rattle.fh_base.specs.declared.values.Shape.{Shape}
use Rattle.fh_base.specs.Carrier.{first_of, count_of}
use Rattle.bfp_codec.specs.declared.samples.Iq.{Iq}
use Rattle.bfp_codec.specs.declared.methods.Method.{Method}
use Rattle.bfp_codec.specs.Shrunk.{shrunk, CanPack}
use Rattle.uplane_sections.specs.declared.values.UHead.{UHead}
use Rattle.uplane_sections.specs.declared.values.USection.{USection}
use Rattle.uplane_sections.specs.Messages.{Item, Section, Block}
use Rattle.uplane_sections.specs.Writes.{IsHeadAdmitted}
use Rattle.frame_bytes.specs.declared.messages.DataSection.{DataSection}
use Rattle.frame_bytes.specs.declared.messages.Carrier.{Carrier}
use Rattle.frame_bytes.specs.Messages.{MessageFits}

-- a section as it is read: of this symbol, with the carrier's method
abbrev pub read_as : Carrier → ℕ → DataSection → USection
read_as c symbol s = record { id = s.id; sym_inc = false; symbol = symbol; start_prb = s.start_prb; num_prb = s.num_prb; method = c.format.method }

-- n PRBs from `prb` on, each with what compression leaves of its block
abbrev pub shrunk_prbs : Method → (ℕ → List Iq) → ℕ → ℕ → List Item
shrunk_prbs method block prb zero = []
shrunk_prbs method block prb (suc n) = Block prb (shrunk method (block prb)) ∷ shrunk_prbs method block (prb + 1) n

abbrev pub section_items : Carrier → ℕ → (ℕ → List Iq) → DataSection → List Item
section_items c symbol block s =
    Section (read_as c symbol s) ∷ shrunk_prbs c.format.method block (first_of s.start_prb s.num_prb) (count_of c.prbs s.num_prb)

-- sections, of which the first has this place in the message
abbrev pub sections_items : Carrier → ℕ → (ℕ → ℕ → List Iq) → ℕ → List DataSection → List Item
sections_items c symbol source place [] = []
sections_items c symbol source place (s ∷ ss) = section_items c symbol (source place) s ++ sections_items c symbol source (place + 1) ss

-- a message that a receiver admits: its numbers in their types, its header within the slots' shape, and blocks of 16 bits
pub record IsReadable (c : Carrier) (shape : Shape) (source : ℕ → ℕ → List Iq) (h : UHead) (ss : List DataSection) : Type 0 where
  pub fits : MessageFits c h ss
  pub frame_id : h.frame_id < 2 ^ 8
  pub num_prbs : All (λ (s : DataSection). s.num_prb < 2 ^ 8) ss
  pub admitted : IsHeadAdmitted shape h
  pub can : (place prb : ℕ) → CanPack c.format.method (source place prb)
