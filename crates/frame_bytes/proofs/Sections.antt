-- Sections of a message, one after the other.
use Rattle.std.proofs.Common.{◌≡◌, ℕ, zero, suc, ◌+◌, ◌<◌, ◌≤◌, List, [], ◌∷◌, ◌++◌, length, take, get_or, refl, sym, ap, ◌∙◌, arith, add-zero, add-one, append-nil, append_assoc, length-append}
use Rattle.fh_base.specs.Carrier.{first_of, count_of}
use Rattle.bfp_codec.specs.declared.samples.Iq.{Iq}
use Rattle.uplane_sections.specs.declared.values.UHead.{UHead}
use Rattle.uplane_sections.specs.Section.{header_size}
use Rattle.frame_bytes.specs.declared.messages.Carrier.{Carrier}
use Rattle.frame_bytes.specs.declared.messages.DataSection.{DataSection}
use Rattle.frame_bytes.specs.Spelled.{in_bytes}
use Rattle.frame_bytes.specs.Messages.{head_fields, section_fields, packed_prbs, section_of, sections_of, message_of, section_size, sections_size, message_size}
use Rattle.frame_bytes.proofs.Fields.{length-in_bytes}
use Rattle.frame_bytes.proofs.DataFields.{section_width}
use Rattle.frame_bytes.proofs.PackedPrbs.{length_prbs}

-- what a list answers past its end
abbrev pub no_section : DataSection
no_section = record { id = 0; start_prb = 0; num_prb = 0 }

size_suc : (c : Carrier) (n : ℕ) (ss : List DataSection) (d : DataSection) → n < length ss → sections_size c (take (suc n) ss) ≡ sections_size c (take n ss) + section_size c (get_or ss n d).num_prb
size_suc c n [] d h = absurd (omega arith)
size_suc c zero (s ∷ ss) d h = omega arith
size_suc c (suc n) (s ∷ ss) d h = omega (arith, size_suc c n ss d (omega arith))

pub size_last : (c : Carrier) (n : ℕ) (ss : List DataSection) (d : DataSection) → n < length ss → sections_size c (take (n + 1) ss) ≡ sections_size c (take n ss) + section_size c (get_or ss n d).num_prb
size_last c n ss d h = ap (λ k. sections_size c (take k ss)) (add-one n) ∙ size_suc c n ss d h

pub size_front : (c : Carrier) (n : ℕ) (ss : List DataSection) → sections_size c (take n ss) ≤ sections_size c ss
size_front c zero ss = omega arith
size_front c (suc n) [] = omega arith
size_front c (suc n) (s ∷ ss) = omega (arith, size_front c n ss)

-- a section that is still to be written lies in the message
pub size_within : (c : Carrier) (n : ℕ) (ss : List DataSection) (d : DataSection) → n < length ss → sections_size c (take n ss) + section_size c (get_or ss n d).num_prb ≤ sections_size c ss
size_within c n ss d h = omega (arith, size_last c n ss d h, size_front c (n + 1) ss)

sections_suc : (c : Carrier) (blocks : ℕ → ℕ → List Iq) (place n : ℕ) (ss : List DataSection) (d : DataSection) → n < length ss
    → sections_of c blocks place (take (suc n) ss) ≡ sections_of c blocks place (take n ss) ++ section_of c (blocks (place + n)) (get_or ss n d)
sections_suc c blocks place n [] d h = absurd (omega arith)
sections_suc c blocks place zero (s ∷ ss) d h = append-nil (section_of c (blocks place) s) ∙ ap (λ k. section_of c (blocks k) s) (sym (add-zero place))
sections_suc c blocks place (suc n) (s ∷ ss) d h =
    let here = section_of c (blocks place) s in
    let next : place + 1 + n ≡ place + suc n = omega arith in
    ap (λ xs. here ++ xs) (sections_suc c blocks (place + 1) n ss d (omega arith))
    ∙ sym (append_assoc here (sections_of c blocks (place + 1) (take n ss)) (section_of c (blocks (place + 1 + n)) (get_or ss n d)))
    ∙ ap (λ k. sections_of c blocks place (s ∷ take n ss) ++ section_of c (blocks k) (get_or ss n d)) next

pub sections_last : (c : Carrier) (blocks : ℕ → ℕ → List Iq) (n : ℕ) (ss : List DataSection) (d : DataSection) → n < length ss
    → sections_of c blocks 0 (take (n + 1) ss) ≡ sections_of c blocks 0 (take n ss) ++ section_of c (blocks n) (get_or ss n d)
sections_last c blocks n ss d h =
    let place : 0 + n ≡ n = omega arith in
    ap (λ k. sections_of c blocks 0 (take k ss)) (add-one n) ∙ sections_suc c blocks 0 n ss d h ∙ ap (λ k. sections_of c blocks 0 (take n ss) ++ section_of c (blocks k) (get_or ss n d)) place

pub length_section : (c : Carrier) (block : ℕ → List Iq) (s : DataSection) → length (section_of c block s) ≡ section_size c s.num_prb
unfolding section_of
length_section c block s =
    omega (
      arith,
      length-append (in_bytes (section_fields c.format s)) (packed_prbs c.format.method block (first_of s.start_prb s.num_prb) (count_of c.prbs s.num_prb)),
      length-in_bytes (header_size c.format) (section_fields c.format s) (section_width c.format s),
      length_prbs c.format.method block (first_of s.start_prb s.num_prb) (count_of c.prbs s.num_prb),
    )

pub length_sections : (c : Carrier) (blocks : ℕ → ℕ → List Iq) (place : ℕ) (ss : List DataSection) → length (sections_of c blocks place ss) ≡ sections_size c ss
length_sections c blocks place [] = refl
length_sections c blocks place (s ∷ ss) =
    omega (arith, length-append (section_of c (blocks place) s) (sections_of c blocks (place + 1) ss), length_section c (blocks place) s, length_sections c blocks (place + 1) ss)

pub length_head : (h : UHead) → length (in_bytes (head_fields h)) ≡ 4
length_head h = length-in_bytes 4 (head_fields h) refl

pub length_message : (c : Carrier) (blocks : ℕ → ℕ → List Iq) (h : UHead) (ss : List DataSection) → length (message_of c blocks h ss) ≡ message_size c ss
unfolding message_of
length_message c blocks h ss = omega (arith, length-append (in_bytes (head_fields h)) (sections_of c blocks 0 ss), length_head h, length_sections c blocks 0 ss)
