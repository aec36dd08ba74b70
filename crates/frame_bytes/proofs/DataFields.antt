-- Headers of data messages, as the bytes that their fields spell.
use Rattle.std.proofs.Common.{◌≡◌, ℕ, ◌+◌, ◌*◌, ◌≤◌, inl, inr, false, List, length, take, refl, sym, ap, ◌∙◌, arith}
use Rattle.std.proofs.lemmas.Bool.{cases_Bool}
use Rattle.bfp_codec.specs.Field.{field}
use Rattle.bfp_codec.proofs.Field.{field_fits, field_drop}
use Rattle.bfp_codec.specs.declared.methods.Format.{Format}
use Rattle.bfp_codec.specs.Layout.{AreBytes}
use Rattle.uplane_sections.specs.declared.values.UHead.{UHead}
use Rattle.uplane_sections.specs.declared.values.USection.{USection}
use Rattle.uplane_sections.specs.Section.{header_size}
use Rattle.uplane_sections.specs.Writes.{WritesHead, WritesSection}
use Rattle.frame_bytes.specs.declared.messages.DataSection.{DataSection}
use Rattle.frame_bytes.specs.Spelled.{width_of, in_bytes}
use Rattle.frame_bytes.specs.Messages.{head_fields, compression_fields, section_fields}
use Rattle.frame_bytes.proofs.Fields.{AreAt, fields_are, front_is, bit_read}

pub head_is : (h : UHead) (bytes : List ℕ) → AreBytes bytes → WritesHead h bytes → bytes ≡ in_bytes (head_fields h)
unfolding AreAt
head_is h bytes small w =
    let down = bit_read (field bytes 0 1) h.down (field_fits bytes 0 1) (ap (λ (x : UHead). x.down) w.reads) in
    fields_are 4 bytes (head_fields h) w.len small refl (
      down,
      (
        w.version,
        (
          ap (λ (x : UHead). x.filter) w.reads,
          (
            ap (λ (x : UHead). x.frame_id) w.reads,
            (
              ap (λ (x : UHead). x.subframe) w.reads,
              (
                ap (λ (x : UHead). x.slot) w.reads,
                (
                  ap (λ (x : UHead). x.symbol) w.reads,
                  tt,
                ),
              ),
            ),
          ),
        ),
      ),
    )

-- the section as it is handed to be written
abbrev pub written_as : Format → DataSection → USection
written_as format s = record { id = s.id; sym_inc = false; symbol = 0; start_prb = s.start_prb; num_prb = s.num_prb; method = format.method }

compression_width : (format : Format) → 32 + width_of (compression_fields format) ≡ 8 * header_size format
compression_width format = elim (cases_Bool format.dynamic) [ inl is ↦ rw is refl | inr is ↦ rw is refl ]

pub section_width : (format : Format) (s : DataSection) → width_of (section_fields format s) ≡ 8 * header_size format
section_width format s =
    let c = compression_width format in
    let w : 12 + (1 + (1 + (10 + (8 + width_of (compression_fields format))))) ≡ 8 * header_size format = omega (arith, c) in w

compression_at : (format : Format) (s : DataSection) (bytes : List ℕ) → WritesSection format (written_as format s) bytes → AreAt bytes 32 (compression_fields format)
unfolding AreAt
compression_at format s bytes w = elim (cases_Bool format.dynamic) [
  | inl is ↦
      let k = w.compression is in
      rw is (sym (field_drop bytes 4 0 8) ∙ k.byte, (sym (field_drop bytes 4 8 8) ∙ k.reserved, tt))
  | inr is ↦ rw is tt
]

pub section_is : (format : Format) (s : DataSection) (bytes : List ℕ) (n : ℕ) → n ≡ header_size format → n ≤ length bytes → AreBytes bytes
    → WritesSection format (written_as format s) bytes → take n bytes ≡ in_bytes (section_fields format s)
unfolding AreAt
section_is format s bytes n size room small w =
    let reads = w.reads 0 in
    let inc = bit_read (field bytes 13 1) false (field_fits bytes 13 1) (ap (λ (x : USection). x.sym_inc) reads) in
    front_is n bytes (section_fields format s) room small (section_width format s ∙ ap (λ k. 8 * k) (sym size)) (
      ap (λ (x : USection). x.id) reads,
      (
        w.each_rb,
        (
          inc,
          (
            ap (λ (x : USection). x.start_prb) reads,
            (
              ap (λ (x : USection). x.num_prb) reads,
              compression_at format s bytes w,
            ),
          ),
        ),
      ),
    )
