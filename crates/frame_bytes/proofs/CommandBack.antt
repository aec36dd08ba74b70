-- A command by its fields is read back.
use Rattle.std.proofs.Common.{◌≡◌, ℕ, pos, ◌^◌, ◌<◌, inl, inr, false, eqb, cond, List, [], ◌∷◌, take, refl, ap, ◌∙◌, arith}
use Rattle.std.proofs.lemmas.Bool.{cases_eq}
use Rattle.std.proofs.lemmas.Bool.Decides.{nat_tests}
use Rattle.std.proofs.lemmas.List.{take_all}
use Rattle.bfp_codec.specs.Field.{field, signed, flag}
use Rattle.fh_base.specs.declared.values.Shape.{Shape}
use Rattle.bfp_codec.specs.Layout.{twos}
use Rattle.bfp_codec.specs.Exponent.{Within}
use Rattle.bfp_codec.proofs.Twos.{signed_twos, twos_fits}
use Rattle.cplane_sections.specs.declared.values.CBody.{CBody}
use Rattle.cplane_sections.specs.declared.values.CBody.TheVariants.{Idle, Normal, Offset}
use Rattle.cplane_sections.specs.declared.values.CHead.{CHead}
use Rattle.cplane_sections.specs.declared.values.CSection.{CSection}
use Rattle.cplane_sections.specs.Header.{body_of, kind_of, size_of_head}
use Rattle.cplane_sections.specs.Section.{beam_of, offset_of, size_of_section}
use Rattle.cplane_sections.specs.Message.{SectionFits, Admits}
use Rattle.cplane_sections.specs.Words.{BodyFits}
use Rattle.cplane_sections.specs.Writes.{WritesHead, WritesSection, WritesMessage, IsReadAs}
use Rattle.cplane_sections.proofs.Front.{message_head, message_more}
use Rattle.cplane_sections.proofs.Back.{message_back}
use Rattle.frame_bytes.specs.Spelled.{in_bytes}
use Rattle.frame_bytes.specs.Commands.{body_fields, head_fields, section_fields, offset_fields, beam_in, command_of, IsCommand}
use Rattle.frame_bytes.proofs.Fields.{AreAt, AreSmall, at_fields, length-in_bytes, bit_small, bit_back}
use Rattle.frame_bytes.proofs.CommandFields.{head_width, section_width}

body_small : (b : CBody) → BodyFits b → AreSmall (body_fields b)
unfolding AreSmall
body_small (Idle t s c) f = (f.0, (f.1, (f.2, (omega arith, tt))))
body_small (Normal u) f = (f, (omega arith, tt))
body_small (Offset t s c u) f = (f.0, (f.1, (f.2, (f.3, tt))))

kind_small : (b : CBody) → kind_of b < 2 ^ 8
kind_small (Idle t s c) = omega arith
kind_small (Normal u) = omega arith
kind_small (Offset t s c u) = omega arith

head_small : (h : CHead) (s : CSection) → IsCommand h s → AreSmall (head_fields h)
unfolding AreSmall
head_small h s k =
    let f = k.head_fits in
    (bit_small h.down, (omega arith, (f.filter, (k.frame_id, (f.subframe, (f.slot, (f.start_symbol, (k.count, (kind_small h.body, body_small h.body k.body)))))))))

-- what the bytes of a body say
record SaysBody (b : CBody) (bytes : List ℕ) : Type 0 where
  is : body_of (kind_of b) bytes ≡ b
  idle : kind_of b ≡ 0 → field bytes 88 8 ≡ 0
  normal : kind_of b ≡ 1 → field bytes 56 8 ≡ 0

body_said : (b : CBody) (bytes : List ℕ) → AreAt bytes 48 (body_fields b) → SaysBody b bytes
unfolding AreAt
body_said (Idle t s c) bytes at =
    let time : field bytes 48 16 ≡ t = at.0 in
    let structure : field bytes 64 8 ≡ s = at.1.0 in
    let cp : field bytes 72 16 ≡ c = at.1.1.0 in
    record { is = rw (time, structure, cp) refl; idle = λ e. at.1.1.1.0; normal = λ e. absurd (omega arith) }
body_said (Normal u) bytes at =
    let comp : field bytes 48 8 ≡ u = at.0 in
    record { is = rw comp refl; idle = λ e. absurd (omega arith); normal = λ e. at.1.0 }
body_said (Offset t s c u) bytes at =
    let time : field bytes 48 16 ≡ t = at.0 in
    let structure : field bytes 64 8 ≡ s = at.1.0 in
    let cp : field bytes 72 16 ≡ c = at.1.1.0 in
    let comp : field bytes 88 8 ≡ u = at.1.1.1.0 in
    record { is = rw (time, structure, cp, comp) refl; idle = λ e. absurd (omega arith); normal = λ e. absurd (omega arith) }

head_written : (h : CHead) (s : CSection) → IsCommand h s → WritesHead h (in_bytes (head_fields h))
unfolding AreAt
head_written h s k =
    let bytes = in_bytes (head_fields h) in
    let at : AreAt bytes 0 (head_fields h) = at_fields (size_of_head (kind_of h.body)) (head_fields h) (head_width h) (head_small h s k) in
    let down : eqb (field bytes 0 1) 1 ≡ h.down = ap (λ n. eqb n 1) at.0 ∙ bit_back h.down in
    let filter : field bytes 4 4 ≡ h.filter = at.1.1.0 in
    let frame_id : field bytes 8 8 ≡ h.frame_id = at.1.1.1.0 in
    let subframe : field bytes 16 4 ≡ h.subframe = at.1.1.1.1.0 in
    let slot : field bytes 20 6 ≡ h.slot = at.1.1.1.1.1.0 in
    let symbol : field bytes 26 6 ≡ h.start_symbol = at.1.1.1.1.1.1.0 in
    let count : field bytes 32 8 ≡ h.count = at.1.1.1.1.1.1.1.0 in
    let kind : field bytes 40 8 ≡ kind_of h.body = at.1.1.1.1.1.1.1.1.0 in
    let said = body_said h.body bytes at.1.1.1.1.1.1.1.1.1 in
    let body = said.is in
    record {
      reads = rw (down, filter, frame_id, subframe, slot, symbol, count, kind, body) refl;
      version = at.1.0;
      kind = kind;
      idle = said.idle;
      normal = said.normal;
    }

within_24 : (s : CSection) → SectionFits s → Within 24 s.freq_offset
within_24 s f = record { low = f.freq_low; high = f.freq_high }

offset_small : (kind : ℕ) (s : CSection) → SectionFits s → AreSmall (offset_fields kind s.freq_offset)
unfolding AreSmall
offset_small kind s f = elim (cases_eq kind 3) [
  | inl is ↦ rw is (twos_fits 24 s.freq_offset (omega arith) (within_24 s f), (omega arith, tt))
  | inr ne ↦ let no : eqb kind 3 ≡ false = grind (arith, nat_tests) in rw no tt
]

beam_small : (kind : ℕ) (s : CSection) → SectionFits s → beam_in kind s.beam < 2 ^ 15
beam_small kind s f = let fits = f.beam in grind (arith, nat_tests)

section_small : (kind : ℕ) (s : CSection) → SectionFits s → s.num_prb < 2 ^ 8 → AreSmall (section_fields kind s)
unfolding AreSmall
section_small kind s f num =
    (f.id, (omega arith, (bit_small s.sym_inc, (f.start_prb, (num, (f.mask, (f.num_symbol, (omega arith, (beam_small kind s f, offset_small kind s f)))))))))

-- what the bytes of a section say after beamId
record SaysOffset (kind : ℕ) (s : CSection) (bytes : List ℕ) : Type 0 where
  is : offset_of kind bytes ≡ cond (eqb kind 3) s.freq_offset (pos 0)
  reserved : kind ≡ 3 → field bytes 88 8 ≡ 0

offset_said : (kind : ℕ) (s : CSection) (bytes : List ℕ) → SectionFits s → AreAt bytes 64 (offset_fields kind s.freq_offset) → SaysOffset kind s bytes
unfolding AreAt
offset_said kind s bytes f at = elim (cases_eq kind 3) [
  | inl is ↦
      let two : AreAt bytes 64 ((24, twos 24 s.freq_offset) ∷ (8, 0) ∷ []) = rw is at at in
      let freq : signed 24 (field bytes 64 24) ≡ s.freq_offset = ap (signed 24) two.0 ∙ signed_twos 24 s.freq_offset (omega arith) (within_24 s f) in
      record { is = rw is freq; reserved = λ e. two.1.0 }
  | inr ne ↦
      let no : eqb kind 3 ≡ false = grind (arith, nat_tests) in
      record { is = rw no refl; reserved = λ e. absurd (ne e) }
]

beam_said : (kind : ℕ) (s : CSection) (bytes : List ℕ) → field bytes 49 15 ≡ beam_in kind s.beam → beam_of kind bytes ≡ cond (eqb kind 0) 0 s.beam
beam_said kind s bytes e = grind (arith, nat_tests)

section_written : (kind : ℕ) (s : CSection) → SectionFits s → s.num_prb < 2 ^ 8 → WritesSection kind s (in_bytes (section_fields kind s))
unfolding AreAt
section_written kind s f num_fits =
    let bytes = in_bytes (section_fields kind s) in
    let at : AreAt bytes 0 (section_fields kind s) = at_fields (size_of_section kind) (section_fields kind s) (section_width kind s) (section_small kind s f num_fits) in
    let id : field bytes 0 12 ≡ s.id = at.0 in
    let inc : field bytes 13 1 ≡ flag s.sym_inc = at.1.1.0 in
    let inc_is : eqb (field bytes 13 1) 1 ≡ s.sym_inc = ap (λ n. eqb n 1) inc ∙ bit_back s.sym_inc in
    let prb : field bytes 14 10 ≡ s.start_prb = at.1.1.1.0 in
    let num : field bytes 24 8 ≡ s.num_prb = at.1.1.1.1.0 in
    let mask : field bytes 32 12 ≡ s.mask = at.1.1.1.1.1.0 in
    let symbols : field bytes 44 4 ≡ s.num_symbol = at.1.1.1.1.1.1.0 in
    let beam_at : field bytes 49 15 ≡ beam_in kind s.beam = at.1.1.1.1.1.1.1.1.0 in
    let beam = beam_said kind s bytes beam_at in
    let said = offset_said kind s bytes f at.1.1.1.1.1.1.1.1.1 in
    let offset = said.is in
    record {
      reads = λ before. rw (id, inc_is, inc, prb, num, mask, symbols, beam, offset) refl;
      each_rb = at.1.0;
      no_extension = at.1.1.1.1.1.1.1.0;
      idle = λ e. beam_at ∙ ap (λ k. beam_in k s.beam) e;
      offset = said.reserved;
    }

-- The application bytes of a command are read as that command with that one section.
pub command_back : (shape : Shape) (h : CHead) (s : CSection) → IsCommand h s → Admits shape h (s ∷ []) → IsReadAs shape h (s ∷ []) (command_of h s)
command_back shape h s k admits =
    let header = in_bytes (head_fields h) in
    let body = in_bytes (section_fields (kind_of h.body) s) in
    let len = length-in_bytes (size_of_head (kind_of h.body)) (head_fields h) (head_width h) in
    let size = length-in_bytes (size_of_section (kind_of h.body)) (section_fields (kind_of h.body) s) (section_width (kind_of h.body) s) in
    let front = message_head h header (size_of_head (kind_of h.body)) refl (omega arith) (head_written h s k) in
    let whole : take (size_of_head (kind_of h.body)) header ≡ header = take_all (size_of_head (kind_of h.body)) header (omega arith) in
    let begun : WritesMessage h [] header = rw whole at front in
    message_back shape h (s ∷ []) (command_of h s) (message_more h [] s header body begun (section_written (kind_of h.body) s k.section_fits k.num_prb) size) admits
