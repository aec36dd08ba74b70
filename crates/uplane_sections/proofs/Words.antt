-- What written words say of their fields.
use Rattle.std.proofs.Common.{◌≡◌, ℕ, ◌+◌, ◌*◌, ◌/◌, ◌%◌, ◌^◌, ◌<◌, ◌≤◌, Bool, true, false, cond, eqb, List, length, drop, get_or, refl, sym, ◌∙◌, arith}
use Rattle.std.proofs.lemmas.Bool.Decides.{nat_tests}
use Rattle.bfp_codec.specs.Field.{field, flag}
use Rattle.bfp_codec.proofs.Field.{field_of_word, field_in_byte, field_byte}
use Rattle.bfp_codec.specs.declared.methods.Method.{Method}
use Rattle.bfp_codec.specs.declared.methods.Method.TheVariants.{Plain, Bfp}
use Rattle.bfp_codec.specs.declared.methods.Format.{Format}
use Rattle.bfp_codec.specs.Layout.{HasWidth}
use Rattle.uplane_sections.specs.declared.values.UHead.{UHead}
use Rattle.uplane_sections.specs.declared.values.USection.{USection}
use Rattle.uplane_sections.specs.Section.{width_in, section_with}
use Rattle.uplane_sections.specs.Writes.{HeadFits, WritesHead, WritesCompression, WritesSection, udCompHdr, carried}
use Rattle.fh_base.proofs.Orders.{bit_test, bit_small}

pub head_written : (h : UHead) (bytes : List ℕ) → length bytes ≡ 4 → HeadFits h → h.frame_id < 2 ^ 8
    → field bytes 0 32 ≡ ((((flag h.down * 2 ^ 3 + 1) * 2 ^ 4 + h.filter) * 2 ^ 8 + h.frame_id) * 2 ^ 4 + h.subframe) * 2 ^ 12 + h.slot * 2 ^ 6 + h.symbol
    → WritesHead h bytes
head_written h bytes len fits frame_fits first =
    let f = bit_small h.down in
    let down : field bytes 0 1 ≡ flag h.down = field_of_word bytes 0 1 (omega arith) ∙ omega arith in
    let down_is : eqb (field bytes 0 1) 1 ≡ h.down = rw down (bit_test h.down) in
    let version : field bytes 1 3 ≡ 1 = field_of_word bytes 1 3 (omega arith) ∙ omega arith in
    let filter : field bytes 4 4 ≡ h.filter = field_of_word bytes 4 4 (omega arith) ∙ omega arith in
    let frame : field bytes 8 8 ≡ h.frame_id = field_of_word bytes 8 8 (omega arith) ∙ omega arith in
    let subframe : field bytes 16 4 ≡ h.subframe = field_of_word bytes 16 4 (omega arith) ∙ omega arith in
    let slot : field bytes 20 6 ≡ h.slot = field_of_word bytes 20 6 (omega arith) ∙ omega arith in
    let symbol : field bytes 26 6 ≡ h.symbol = field_of_word bytes 26 6 (omega arith) ∙ omega arith in
    record {
      len = len;
      version = version;
      reads = rw (down_is, filter, frame, subframe, slot, symbol) refl;
    }

-- the first word of a section
pub record WritesWord (s : USection) (bytes : List ℕ) : Type 0 where
  pub reads : (before : ℕ) (method : Method) → section_with (before + field bytes 13 1) method bytes ≡ carried before (record { id = s.id; sym_inc = s.sym_inc; symbol = s.symbol; start_prb = s.start_prb; num_prb = s.num_prb; method = method })
  pub each_rb : field bytes 12 1 ≡ 0

pub word_written : (s : USection) (bytes : List ℕ) → s.id < 2 ^ 12 → s.start_prb < 2 ^ 10 → s.num_prb < 2 ^ 8
    → field bytes 0 32 ≡ ((s.id * 4 + flag s.sym_inc) * 2 ^ 10 + s.start_prb) * 2 ^ 8 + s.num_prb → WritesWord s bytes
word_written s bytes id_fits start_fits num_fits first =
    let f = bit_small s.sym_inc in
    let id : field bytes 0 12 ≡ s.id = field_of_word bytes 0 12 (omega arith) ∙ omega arith in
    let rb : field bytes 12 1 ≡ 0 = field_of_word bytes 12 1 (omega arith) ∙ omega arith in
    let inc : field bytes 13 1 ≡ flag s.sym_inc = field_of_word bytes 13 1 (omega arith) ∙ omega arith in
    let prb : field bytes 14 10 ≡ s.start_prb = field_of_word bytes 14 10 (omega arith) ∙ omega arith in
    let num : field bytes 24 8 ≡ s.num_prb = field_of_word bytes 24 8 (omega arith) ∙ omega arith in
    let inc_is : eqb (field bytes 13 1) 1 ≡ s.sym_inc = rw inc (bit_test s.sym_inc) in
    record {
      reads = λ before method. rw (id, inc_is, inc, prb, num) refl;
      each_rb = rb;
    }

high_nibble : (header : List ℕ) → field header 0 4 ≡ get_or header 0 0 / 16 % 16
high_nibble header = field_in_byte header 0 4 (omega arith)

low_nibble : (header : List ℕ) → field header 4 4 ≡ get_or header 0 0 % 16
low_nibble header = field_in_byte header 4 4 (omega arith) ∙ omega arith

width_back : (w n : ℕ) → 1 ≤ w → w ≤ 16 → n ≡ w % 16 → cond (eqb n 0) 16 n ≡ w
width_back w n low high e = grind (arith, nat_tests)

pub compression_written : (method : Method) (header : List ℕ) → HasWidth method → get_or header 0 0 ≡ udCompHdr method → get_or header 1 0 ≡ 0 → WritesCompression method header
compression_written Plain header fits first second =
    let high : field header 0 4 ≡ 0 = high_nibble header ∙ rw first (omega arith) in
    let low : field header 4 4 ≡ 0 = low_nibble header ∙ rw first (omega arith) in
    record {
      known = rw (high, low) refl;
      reads = rw low refl;
      byte = field_byte header 0 (rw first (omega arith)) ∙ first;
      reserved = field_byte header 1 (rw second (omega arith)) ∙ second;
    }
compression_written (Bfp w) header fits first second =
    let high : field header 0 4 ≡ w % 16 = high_nibble header ∙ rw first (omega arith) in
    let low : field header 4 4 ≡ 1 = low_nibble header ∙ rw first (omega arith) in
    let width : width_in header ≡ w = width_back w (field header 0 4) fits.0 fits.1 high in
    record {
      known = rw low refl;
      reads = rw (low, width) refl;
      byte = field_byte header 0 (rw first (omega arith)) ∙ first;
      reserved = field_byte header 1 (rw second (omega arith)) ∙ second;
    }

pub static_written : (format : Format) (s : USection) (bytes : List ℕ) → format.dynamic ≡ false → s.method ≡ format.method → 4 ≤ length bytes → WritesWord s bytes → WritesSection format s bytes
static_written format s bytes is method room w =
    record {
      room = rw is room;
      reads = λ before. rw (is, method) (w.reads before format.method);
      each_rb = w.each_rb;
      compression = λ dynamic. absurd (let e : false ≡ true = sym is ∙ dynamic in cc);
    }

pub dynamic_written : (format : Format) (s : USection) (bytes : List ℕ) → format.dynamic ≡ true → 6 ≤ length bytes → WritesWord s bytes → WritesCompression s.method (drop 4 bytes) → WritesSection format s bytes
dynamic_written format s bytes is room w k =
    record {
      room = rw is room;
      reads = λ before. rw (is, k.reads) (w.reads before s.method);
      each_rb = w.each_rb;
      compression = λ dynamic. k;
    }
