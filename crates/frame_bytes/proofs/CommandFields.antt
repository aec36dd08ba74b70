-- Headers and sections of commands, as the bytes that their fields spell, and read back.
use Rattle.std.proofs.Common.{◌≡◌, ℕ, ℤ, pos, negsuc, ◌-ℤ◌, ltb, ◌+◌, ◌*◌, ◌^◌, ◌<◌, ◌≤◌, inl, inr, true, false, eqb, List, length, take, refl, sym, ap, ◌∙◌, arith}
use Rattle.std.proofs.lemmas.Bool.{cases_eq, cases_lt}
use Rattle.std.proofs.lemmas.Bool.Decides.{nat_tests}
use Rattle.std.proofs.lemmas.Int.{ints}
use Rattle.bfp_codec.specs.Field.{field, signed}
use Rattle.bfp_codec.proofs.Field.{field_fits}
use Rattle.bfp_codec.specs.Layout.{AreBytes, twos}
use Rattle.cplane_sections.specs.declared.values.CBody.{CBody}
use Rattle.cplane_sections.specs.declared.values.CBody.TheVariants.{Idle, Normal, Offset}
use Rattle.cplane_sections.specs.declared.values.CHead.{CHead}
use Rattle.cplane_sections.specs.declared.values.CSection.{CSection}
use Rattle.cplane_sections.specs.Header.{body_of, kind_of, size_of_head}
use Rattle.cplane_sections.specs.Section.{size_of_section}
use Rattle.cplane_sections.specs.Writes.{WritesHead, WritesSection}
use Rattle.frame_bytes.specs.Spelled.{width_of, in_bytes}
use Rattle.frame_bytes.specs.Commands.{body_fields, head_fields, section_fields, offset_fields, beam_in}
use Rattle.frame_bytes.proofs.Fields.{AreAt, front_is, bit_read}

time_in : CBody → ℕ
time_in (Idle t s c) = t
time_in (Normal u) = 0
time_in (Offset t s c u) = t

structure_in : CBody → ℕ
structure_in (Idle t s c) = s
structure_in (Normal u) = 0
structure_in (Offset t s c u) = s

cp_in : CBody → ℕ
cp_in (Idle t s c) = c
cp_in (Normal u) = 0
cp_in (Offset t s c u) = c

comp_in : CBody → ℕ
comp_in (Idle t s c) = 0
comp_in (Normal u) = u
comp_in (Offset t s c u) = u

-- what is after sectionType
body_at : (b : CBody) (bytes : List ℕ) → body_of (kind_of b) bytes ≡ b → (kind_of b ≡ 0 → field bytes 88 8 ≡ 0) → (kind_of b ≡ 1 → field bytes 56 8 ≡ 0) → AreAt bytes 48 (body_fields b)
unfolding AreAt time_in structure_in cp_in comp_in
body_at (Idle t s c) bytes e idle normal = (ap time_in e, (ap structure_in e, (ap cp_in e, (idle refl, tt))))
body_at (Normal u) bytes e idle normal = (ap comp_in e, (normal refl, tt))
body_at (Offset t s c u) bytes e idle normal = (ap time_in e, (ap structure_in e, (ap cp_in e, (ap comp_in e, tt))))

body_width : (b : CBody) → 48 + width_of (body_fields b) ≡ 8 * size_of_head (kind_of b)
body_width (Idle t s c) = refl
body_width (Normal u) = refl
body_width (Offset t s c u) = refl

pub head_width : (h : CHead) → width_of (head_fields h) ≡ 8 * size_of_head (kind_of h.body)
head_width h =
    let b = body_width h.body in
    let w : 1 + (3 + (4 + (8 + (4 + (6 + (6 + (8 + (8 + width_of (body_fields h.body))))))))) ≡ 8 * size_of_head (kind_of h.body) = omega (arith, b) in w

head_at : (h : CHead) (bytes : List ℕ) → WritesHead h bytes → AreAt bytes 0 (head_fields h)
unfolding AreAt
head_at h bytes w =
    let down = bit_read (field bytes 0 1) h.down (field_fits bytes 0 1) (ap (λ (x : CHead). x.down) w.reads) in
    let kind = w.kind in
    let body : body_of (kind_of h.body) bytes ≡ h.body = ap (λ k. body_of k bytes) (sym kind) ∙ ap (λ (x : CHead). x.body) w.reads in (
      down,
      (
        w.version,
        (
          ap (λ (x : CHead). x.filter) w.reads,
          (
            ap (λ (x : CHead). x.frame_id) w.reads,
            (
              ap (λ (x : CHead). x.subframe) w.reads,
              (
                ap (λ (x : CHead). x.slot) w.reads,
                (
                  ap (λ (x : CHead). x.start_symbol) w.reads,
                  (
                    ap (λ (x : CHead). x.count) w.reads,
                    (
                      kind,
                      body_at h.body bytes body w.idle w.normal,
                    ),
                  ),
                ),
              ),
            ),
          ),
        ),
      ),
    )

pub head_is : (h : CHead) (bytes : List ℕ) (n : ℕ) → n ≡ size_of_head (kind_of h.body) → n ≤ length bytes → AreBytes bytes → WritesHead h bytes → take n bytes ≡ in_bytes (head_fields h)
head_is h bytes n size room small w = front_is n bytes (head_fields h) room small (head_width h ∙ ap (λ k. 8 * k) (sym size)) (head_at h bytes w)

offset_width : (kind : ℕ) (freq : ℤ) → 64 + width_of (offset_fields kind freq) ≡ 8 * size_of_section kind
offset_width kind freq = elim (cases_eq kind 3) [
  | inl is ↦ rw is refl
  | inr ne ↦ let no : eqb kind 3 ≡ false = grind (arith, nat_tests) in rw no refl
]

pub section_width : (kind : ℕ) (s : CSection) → width_of (section_fields kind s) ≡ 8 * size_of_section kind
section_width kind s =
    let o = offset_width kind s.freq_offset in
    let w : 12 + (1 + (1 + (10 + (8 + (12 + (4 + (1 + (15 + width_of (offset_fields kind s.freq_offset))))))))) ≡ 8 * size_of_section kind = omega (arith, o) in w

twos_is : (z : ℤ) (x : ℕ) → z ≡ pos x -ℤ pos (2 ^ 24) → x < 2 ^ 24 → twos 24 z ≡ x
twos_is (pos n) x e h = absurd (omega (arith, ints))
twos_is (negsuc n) x e h = omega (arith, ints)

twos_signed : (x : ℕ) → x < 2 ^ 24 → twos 24 (signed 24 x) ≡ x
twos_signed x h = elim (cases_lt x (2 ^ 23)) [
  | inl lt ↦ let low : ltb x (2 ^ 23) ≡ true = grind (arith, nat_tests) in rw low refl
  | inr ge ↦ let high : ltb x (2 ^ 23) ≡ false = grind (arith, nat_tests) in twos_is (signed 24 x) x (rw high refl) h
]

offset_at : (kind : ℕ) (s : CSection) (bytes : List ℕ) → WritesSection kind s bytes → AreAt bytes 64 (offset_fields kind s.freq_offset)
unfolding AreAt
offset_at kind s bytes w = elim (cases_eq kind 3) [
  | inl is ↦
      let freq : signed 24 (field bytes 64 24) ≡ s.freq_offset = rw is at (ap (λ (x : CSection). x.freq_offset) (w.reads 0)) in
      rw is (sym (twos_signed (field bytes 64 24) (field_fits bytes 64 24)) ∙ ap (twos 24) freq, (w.offset is, tt))
  | inr ne ↦ let no : eqb kind 3 ≡ false = grind (arith, nat_tests) in rw no tt
]

beam_at : (kind : ℕ) (s : CSection) (bytes : List ℕ) → WritesSection kind s bytes → field bytes 49 15 ≡ beam_in kind s.beam
beam_at kind s bytes w = elim (cases_eq kind 0) [
  | inl is ↦ rw is (w.idle is)
  | inr ne ↦
      let no : eqb kind 0 ≡ false = grind (arith, nat_tests) in
      rw no (rw no at (ap (λ (x : CSection). x.beam) (w.reads 0)))
]

section_at : (kind : ℕ) (s : CSection) (bytes : List ℕ) → WritesSection kind s bytes → AreAt bytes 0 (section_fields kind s)
unfolding AreAt
section_at kind s bytes w =
    let reads = w.reads 0 in (
      ap (λ (x : CSection). x.id) reads,
      (
        w.each_rb,
        (
          bit_read (field bytes 13 1) s.sym_inc (field_fits bytes 13 1) (ap (λ (x : CSection). x.sym_inc) reads),
          (
            ap (λ (x : CSection). x.start_prb) reads,
            (
              ap (λ (x : CSection). x.num_prb) reads,
              (
                ap (λ (x : CSection). x.mask) reads,
                (
                  ap (λ (x : CSection). x.num_symbol) reads,
                  (
                    w.no_extension,
                    (
                      beam_at kind s bytes w,
                      offset_at kind s bytes w,
                    ),
                  ),
                ),
              ),
            ),
          ),
        ),
      ),
    )

pub section_is : (kind : ℕ) (s : CSection) (bytes : List ℕ) (n : ℕ) → n ≡ size_of_section kind → n ≤ length bytes → AreBytes bytes → WritesSection kind s bytes → take n bytes ≡ in_bytes (section_fields kind s)
section_is kind s bytes n size room small w = front_is n bytes (section_fields kind s) room small (section_width kind s ∙ ap (λ k. 8 * k) (sym size)) (section_at kind s bytes w)
