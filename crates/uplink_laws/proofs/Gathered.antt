-- What a reader gathers of a message that was told section by section.
use Rattle.std.proofs.Common.{◌≡◌, ℕ, zero, suc, ◌+◌, ◌<◌, List, [], ◌∷◌, ◌++◌, Option, refl, ap, sym, ◌∙◌, arith, append-nil, append_assoc}
use Rattle.std.specs.List.{slice_index_or}
use Rattle.fh_base.specs.Carrier.{first_of, count_of}
use Rattle.bfp_codec.specs.Shrunk.{shrunk}
use Rattle.bfp_codec.specs.declared.methods.Method.{Method}
use Rattle.bfp_codec.specs.declared.samples.Iq.{Iq}
use Rattle.bfp_codec.specs.declared.samples.Wide.{Wide}
use Rattle.uplane_sections.specs.declared.values.UHead.{UHead}
use Rattle.unit_model.specs.Decoding.{Gathering, SectionBlocks, gathered}
use Rattle.fh_base.specs.Lists.{onto}
use Rattle.unit_model.proofs.CountLemmas.{no_time}
use Rattle.frame_bytes.specs.Reading.{read_as, section_items, sections_items, shrunk_prbs}
use Rattle.frame_bytes.specs.declared.messages.Carrier.{Carrier}
use Rattle.frame_bytes.specs.declared.messages.DataSection.{DataSection}
use Rattle.uplink_laws.proofs.Fragments.{next_place}
use Rattle.unit_model.proofs.GatheringLemmas.{gathered-append as gathered_append}

-- n shrunk blocks from a PRB on
abbrev pub shrunk_blocks : Method → (ℕ → List Iq) → ℕ → ℕ → List (List Wide)
shrunk_blocks method block prb zero = []
shrunk_blocks method block prb (suc n) = shrunk method (block prb) ∷ shrunk_blocks method block (prb + 1) n

one_less : (k n : ℕ) → suc k < suc n → k < n
one_less k n h = omega (arith, h)

pub block_in : (method : Method) (block : ℕ → List Iq) (prb n k : ℕ) → k < n → slice_index_or (shrunk_blocks method block prb n) k [] ≡ shrunk method (block (prb + k))
block_in method block prb zero k h = absurd (omega (arith, h))
block_in method block prb (suc n) zero h = ap (λ j. shrunk method (block j)) (no_time prb)
block_in method block prb (suc n) (suc k) h = block_in method block (prb + 1) n k (one_less k n h) ∙ ap (λ j. shrunk method (block j)) (next_place prb k)

-- a section as it is gathered
abbrev pub read_part : Carrier → ℕ → (ℕ → List Iq) → DataSection → SectionBlocks
read_part c symbol block s = record { section = read_as c symbol s; blocks = shrunk_blocks c.format.method block (first_of s.start_prb s.num_prb) (count_of c.prbs s.num_prb) }

abbrev pub read_parts : Carrier → ℕ → (ℕ → ℕ → List Iq) → ℕ → List DataSection → List SectionBlocks
read_parts c symbol source place [] = []
read_parts c symbol source place (s ∷ ss) = read_part c symbol (source place) s ∷ read_parts c symbol source (place + 1) ss

abbrev gathering : Option UHead → List SectionBlocks → Gathering
gathering head parts = record { head = head; parts = parts }

abbrev with_blocks : SectionBlocks → List (List Wide) → SectionBlocks
with_blocks p blocks = record { section = p.section; blocks = p.blocks ++ blocks }

no_blocks : (p : SectionBlocks) → p ≡ with_blocks p []
no_blocks p = ap (λ (bs : List (List Wide)). let q : SectionBlocks = record { section = p.section; blocks = bs } in q) (sym (append-nil p.blocks))

prbs_gathered : (head : Option UHead) (parts : List SectionBlocks) (method : Method) (block : ℕ → List Iq) (prb n : ℕ) (p : SectionBlocks)
    → gathered (gathering head (p ∷ parts)) (shrunk_prbs method block prb n) ≡ gathering head (with_blocks p (shrunk_blocks method block prb n) ∷ parts)
unfolding gathered
prbs_gathered head parts method block prb zero p = ap (λ (q : SectionBlocks). gathering head (q ∷ parts)) (no_blocks p)
prbs_gathered head parts method block prb (suc n) p =
    prbs_gathered head parts method block (prb + 1) n (with_blocks p (shrunk method (block prb) ∷ []))
    ∙ ap (λ (bs : List (List Wide)). gathering head ((let q : SectionBlocks = record { section = p.section; blocks = bs } in q) ∷ parts))
    (append_assoc p.blocks (shrunk method (block prb) ∷ []) (shrunk_blocks method block (prb + 1) n))

section_gathered : (head : Option UHead) (parts : List SectionBlocks) (c : Carrier) (symbol : ℕ) (block : ℕ → List Iq) (s : DataSection)
    → gathered (gathering head parts) (section_items c symbol block s) ≡ gathering head (read_part c symbol block s ∷ parts)
unfolding gathered
section_gathered head parts c symbol block s =
    prbs_gathered head parts c.format.method block (first_of s.start_prb s.num_prb) (count_of c.prbs s.num_prb) (record { section = read_as c symbol s; blocks = [] })

-- the newest first
pub sections_gathered : (head : Option UHead) (parts : List SectionBlocks) (c : Carrier) (symbol : ℕ) (source : ℕ → ℕ → List Iq) (place : ℕ) (ss : List DataSection)
    → gathered (gathering head parts) (sections_items c symbol source place ss) ≡ gathering head (onto parts (read_parts c symbol source place ss))
unfolding gathered onto
sections_gathered head parts c symbol source place [] = refl
sections_gathered head parts c symbol source place (s ∷ ss) =
    gathered_append (gathering head parts) (section_items c symbol (source place) s) (sections_items c symbol source (place + 1) ss)
    ∙ ap (λ (g : Gathering). gathered g (sections_items c symbol source (place + 1) ss)) (section_gathered head parts c symbol (source place) s)
    ∙ sections_gathered head (read_part c symbol (source place) s ∷ parts) c symbol source (place + 1) ss
