-- What the words of a section say of its fields.
use Rattle.std.proofs.Common.{◌≡◌, ℕ, ℤ, pos, negsuc, ◌+◌, ◌*◌, ◌%◌, ◌^◌, ◌<◌, ◌≤ℤ◌, ◌<ℤ◌, neg_ℤ, eqb, cond, List, refl, ◌∙◌, arith, of_z}
use Rattle.std.proofs.lemmas.Int.{ints}
use Rattle.std.proofs.lemmas.Bool.Decides.{nat_tests}
use mir.Syntax.{w32}
use Rattle.bfp_codec.specs.Field.{field, signed, flag}
use Rattle.bfp_codec.proofs.Field.{field_of_word}
use Rattle.cplane_sections.specs.declared.values.CSection.{CSection}
use Rattle.cplane_sections.specs.Section.{offset_of}
use Rattle.cplane_sections.specs.Message.{SectionFits}
use Rattle.cplane_sections.specs.Writes.{WritesSection}
use Rattle.fh_base.proofs.Orders.{bit_test, bit_small}

beam_fits : (kind beam : ℕ) → beam < 2 ^ 15 → cond (eqb kind 0) 0 beam < 2 ^ 15
beam_fits kind beam h = grind (arith, nat_tests)

beam_read : (kind beam n : ℕ) → n ≡ cond (eqb kind 0) 0 beam → cond (eqb kind 0) 0 n ≡ cond (eqb kind 0) 0 beam
beam_read kind beam n e = grind (arith, nat_tests)

beam_none : (kind beam n : ℕ) → n ≡ cond (eqb kind 0) 0 beam → kind ≡ 0 → n ≡ 0
beam_none kind beam n e is = grind (arith, nat_tests)

-- the words of a section spell it
pub written_of_words : (kind : ℕ) (s : CSection) (bytes : List ℕ) → SectionFits s → s.num_prb < 2 ^ 8
    → field bytes 0 32 ≡ ((s.id * 4 + flag s.sym_inc) * 2 ^ 10 + s.start_prb) * 2 ^ 8 + s.num_prb
    → field bytes 32 32 ≡ (s.mask * 2 ^ 4 + s.num_symbol) * 2 ^ 16 + cond (eqb kind 0) 0 s.beam
    → offset_of kind bytes ≡ cond (eqb kind 3) s.freq_offset (pos 0) → (kind ≡ 3 → field bytes 88 8 ≡ 0) → WritesSection kind s bytes
written_of_words kind s bytes fits num_fits first second offset last =
    let f = bit_small s.sym_inc in
    let small = beam_fits kind s.beam fits.beam in
    let id : field bytes 0 12 ≡ s.id = field_of_word bytes 0 12 (omega arith) ∙ omega arith in
    let rb : field bytes 12 1 ≡ 0 = field_of_word bytes 12 1 (omega arith) ∙ omega arith in
    let inc : field bytes 13 1 ≡ flag s.sym_inc = field_of_word bytes 13 1 (omega arith) ∙ omega arith in
    let prb : field bytes 14 10 ≡ s.start_prb = field_of_word bytes 14 10 (omega arith) ∙ omega arith in
    let num : field bytes 24 8 ≡ s.num_prb = field_of_word bytes 24 8 (omega arith) ∙ omega arith in
    let mask : field bytes 32 12 ≡ s.mask = field_of_word bytes 32 12 (omega arith) ∙ omega arith in
    let symbols : field bytes 44 4 ≡ s.num_symbol = field_of_word bytes 44 4 (omega arith) ∙ omega arith in
    let ef : field bytes 48 1 ≡ 0 = field_of_word bytes 48 1 (omega arith) ∙ omega arith in
    let beam : field bytes 49 15 ≡ cond (eqb kind 0) 0 s.beam = field_of_word bytes 49 15 (omega arith) ∙ omega arith in
    let beam_is = beam_read kind s.beam (field bytes 49 15) beam in
    let inc_is : eqb (field bytes 13 1) 1 ≡ s.sym_inc = rw inc (bit_test s.sym_inc) in
    record {
      reads = λ before. rw (id, inc_is, inc, prb, num, mask, symbols, beam_is, offset) refl;
      each_rb = rb;
      no_extension = ef;
      idle = λ is. beam_none kind s.beam (field bytes 49 15) beam is;
      offset = last;
    }

pub offset_of_word : (z : ℤ) (bytes : List ℕ) → neg_ℤ (pos (2 ^ 23)) ≤ℤ z → z <ℤ pos (2 ^ 23) → field bytes 64 32 ≡ of_z w32 z * 2 ^ 8 % 2 ^ 32 → signed 24 (field bytes 64 24) ≡ z
offset_of_word (pos n) bytes low high word = rw (field_of_word bytes 64 24 (omega arith)) (grind (arith, ints))
offset_of_word (negsuc n) bytes low high word = rw (field_of_word bytes 64 24 (omega arith)) (grind (arith, ints))

pub last_of_word : (n : ℕ) (bytes : List ℕ) → field bytes 64 32 ≡ n * 2 ^ 8 % 2 ^ 32 → field bytes 88 8 ≡ 0
last_of_word n bytes word = field_of_word bytes 88 8 (omega arith) ∙ omega arith
