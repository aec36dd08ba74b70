-- What the tests say of a message that passed.
use Rattle.std.proofs.Common.{◌≡◌, ℕ, pos, neg_ℤ, zero, suc, ◌+◌, ◌^◌, ◌<◌, ◌≤◌, ◌≤ℤ◌, ◌<ℤ◌, eqb, List, length, drop, Ok, is_ok, IsTrue, refl, sym, ap, subst, arith}
use Rattle.std.specs.Prelude.{All}
use Rattle.std.proofs.lemmas.Bool.Decides.{nat_tests}
use Rattle.std.proofs.lemmas.Int.{ints}
use Rattle.std.proofs.lemmas.List.Elements.{All-cons, All-nil}
use Rattle.bfp_codec.specs.Field.{field, signed, flag}
use Rattle.bfp_codec.proofs.Field.{field_fits}
use Rattle.fh_base.specs.declared.values.Shape.{Shape}
use Rattle.cplane_sections.specs.declared.values.CHead.{CHead}
use Rattle.cplane_sections.specs.Header.{head_of, kind_of, size_of_head}
use Rattle.cplane_sections.specs.Section.{section_of, offset_of, beam_of, size_of_section}
use Rattle.cplane_sections.specs.Tests.{head_checked, walked, checked}
use Rattle.cplane_sections.specs.Message.{sections_of, sections_in, HeadFits, SectionFits, IsAdmitted, AreAdmitted, Admits, MessageFits}
use Rattle.cplane_sections.proofs.Onward.{Says, steps_on, some_section, passed}

bit_is : (n : ℕ) → n < 2 → n ≡ flag (eqb n 1)
bit_is n h = grind (arith, nat_tests)

section_admitted : (kind symbols : ℕ) (bytes : List ℕ) (place before next : ℕ) → Says (size_of_section kind) symbols bytes place before next → IsAdmitted kind symbols before (section_of kind before (drop place bytes))
section_admitted kind symbols bytes place before next said =
    let inc = bit_is (field (drop place bytes) 13 1) (field_fits (drop place bytes) 13 1) in
    let within = said.within in
    record {
      maintained = ap (λ n. before + n) inc;
      some = said.some;
      within = within;
      no_beam = λ is. grind (arith, nat_tests);
      no_offset = λ ne. grind (arith, nat_tests);
    }

walk_admits : (n kind symbols : ℕ) (bytes : List ℕ) (place before : ℕ) → IsTrue (is_ok (walked n (size_of_section kind) symbols bytes place before)) → AreAdmitted kind symbols before (sections_of n kind bytes place before)
unfolding sections_of AreAdmitted
walk_admits zero kind symbols bytes place before h = tt
walk_admits (suc n) kind symbols bytes place before h =
    let step = steps_on n (size_of_section kind) symbols bytes place before (some_section kind) h in
    let said = step.says_it in
    let others = rw said.next_is at step.others in
    (section_admitted kind symbols bytes place before step.next said, walk_admits n kind symbols bytes (place + size_of_section kind) (before + field (drop place bytes) 13 1) others)

length-sections_of : (n kind : ℕ) (bytes : List ℕ) (place before : ℕ) → length (sections_of n kind bytes place before) ≡ n
unfolding sections_of
length-sections_of zero kind bytes place before = refl
length-sections_of (suc n) kind bytes place before = ap suc (length-sections_of n kind bytes (place + size_of_section kind) (before + field (drop place bytes) 13 1))

-- a header that passed
record Headed (shape : Shape) (h : CHead) (bytes : List ℕ) : Type 0 where
  is : head_of bytes ≡ h
  subframe : field bytes 16 4 ≤ 9
  slot : field bytes 20 6 < shape.slots
  start_symbol : field bytes 26 6 < shape.symbols
  some : 0 < field bytes 32 8

headed : (shape : Shape) (h : CHead) (bytes : List ℕ) → head_checked shape bytes ≡ Ok h → Headed shape h bytes
headed shape h bytes e = record {
  is = grind (arith, nat_tests);
  subframe = grind (arith, nat_tests);
  slot = grind (arith, nat_tests);
  start_symbol = grind (arith, nat_tests);
  some = grind (arith, nat_tests);
}

-- a message that passed has a header and sections that the tests admit
pub admitted : (shape : Shape) (h : CHead) (bytes : List ℕ) → checked shape bytes ≡ Ok h → Admits shape h (sections_in h bytes)
admitted shape h bytes e =
    let p = passed shape h bytes e in
    let head = headed shape h bytes p.head in
    record {
      subframe = rw (sym (ap (λ (x : CHead). x.subframe) head.is)) head.subframe;
      slot = rw (sym (ap (λ (x : CHead). x.slot) head.is)) head.slot;
      start_symbol = rw (sym (ap (λ (x : CHead). x.start_symbol) head.is)) head.start_symbol;
      some = rw (sym (ap (λ (x : CHead). x.count) head.is)) head.some;
      count = sym (length-sections_of h.count (kind_of h.body) bytes (size_of_head (kind_of h.body)) h.start_symbol);
      sections = walk_admits h.count (kind_of h.body) shape.symbols bytes (size_of_head (kind_of h.body)) h.start_symbol p.sections;
    }

signed_low : (n : ℕ) → n < 2 ^ 24 → neg_ℤ (pos (2 ^ 23)) ≤ℤ signed 24 n
signed_low n h = grind (arith, ints, nat_tests)

signed_high : (n : ℕ) → n < 2 ^ 24 → signed 24 n <ℤ pos (2 ^ 23)
signed_high n h = grind (arith, ints, nat_tests)

offset_low : (kind : ℕ) (bytes : List ℕ) → neg_ℤ (pos (2 ^ 23)) ≤ℤ offset_of kind bytes
offset_low kind bytes = let low = signed_low (field bytes 64 24) (field_fits bytes 64 24) in grind (arith, ints, nat_tests)

offset_high : (kind : ℕ) (bytes : List ℕ) → offset_of kind bytes <ℤ pos (2 ^ 23)
offset_high kind bytes = let high = signed_high (field bytes 64 24) (field_fits bytes 64 24) in grind (arith, ints, nat_tests)

beam_small : (kind : ℕ) (bytes : List ℕ) → beam_of kind bytes < 2 ^ 15
beam_small kind bytes = let fits = field_fits bytes 49 15 in grind (arith, nat_tests)

section_fits : (kind before : ℕ) (bytes : List ℕ) → SectionFits (section_of kind before bytes)
section_fits kind before bytes = record {
  id = field_fits bytes 0 12;
  start_prb = field_fits bytes 14 10;
  mask = field_fits bytes 32 12;
  num_symbol = field_fits bytes 44 4;
  beam = beam_small kind bytes;
  freq_low = offset_low kind bytes;
  freq_high = offset_high kind bytes;
}

pub sections_fit : (n kind : ℕ) (bytes : List ℕ) (place before : ℕ) → All SectionFits (sections_of n kind bytes place before)
unfolding sections_of
sections_fit zero kind bytes place before = All-nil SectionFits
sections_fit (suc n) kind bytes place before =
    All-cons SectionFits _ _ (section_fits kind before (drop place bytes)) (sections_fit n kind bytes (place + size_of_section kind) (before + field (drop place bytes) 13 1))

-- each field of a message that passed is in its width
pub fits : (shape : Shape) (h : CHead) (bytes : List ℕ) → checked shape bytes ≡ Ok h → MessageFits h (sections_in h bytes)
fits shape h bytes e =
    let p = passed shape h bytes e in
    let head = headed shape h bytes p.head in
    let read : HeadFits (head_of bytes) = record { filter = field_fits bytes 4 4; subframe = field_fits bytes 16 4; slot = field_fits bytes 20 6; start_symbol = field_fits bytes 26 6 } in
    record {
      head_fits = subst HeadFits head.is read;
      sections_fit = sections_fit h.count (kind_of h.body) bytes (size_of_head (kind_of h.body)) h.start_symbol;
    }
