-- What was written is read back.
use Rattle.std.proofs.Common.{◌≡◌, ℕ, zero, suc, ◌+◌, ◌-◌, ◌*◌, ◌≤◌, false, not, cond, List, [], ◌∷◌, ◌++◌, length, take, drop, Ok, refl, sym, ap, ◌∙◌, arith, length-append, length-drop, append_assoc, inl, inr}
use Rattle.std.proofs.lemmas.List.{drop_at, length-take-le, take-append-le, take-append-drop, drop-append-le}
use Rattle.std.proofs.lemmas.Bool.{le-ltb, cases_Bool}
use Rattle.std.proofs.lemmas.Bool.Decides.{nat_tests}
use Rattle.bfp_codec.specs.Field.{field, flag}
use Rattle.bfp_codec.proofs.Field.{field_take, field_drop}
use Rattle.fh_base.specs.declared.values.Shape.{Shape}
use Rattle.bfp_codec.specs.declared.methods.Method.{Method}
use Rattle.bfp_codec.specs.declared.methods.Format.{Format}
use Rattle.bfp_codec.specs.Layout.{length_of}
use Rattle.uplane_sections.specs.declared.values.UHead.{UHead}
use Rattle.uplane_sections.specs.declared.values.USection.{USection}
use Rattle.uplane_sections.specs.declared.values.UWhy.TheVariants.{Method as UnknownMethod}
use Rattle.uplane_sections.specs.Header.{head_of}
use Rattle.fh_base.specs.Carrier.{first_of, count_of, is_outside}
use Rattle.uplane_sections.specs.Section.{startPrbu, numPrbu, section_with, section_of, method_of, header_size, method_in}
use Rattle.uplane_sections.specs.Messages.{Head, Section, Telling, fault, after, blocks, sections, told}
use Rattle.uplane_sections.specs.Phases.{checked, head_checked, symbol_checked, with_method, in_blocks, in_section, behind_first}
use Rattle.uplane_sections.specs.Writes.{WritesHead, WritesSection, WritesCompression, IsHeadAdmitted, IsAdmitted, carried, SaysSoFar, AddsSection}
use Rattle.uplane_sections.proofs.Behind.{behind}
use Rattle.uplane_sections.proofs.Told.{head_step, section_step, compression_step}
use Rattle.uplane_sections.proofs.Histories.{after_after}
use Rattle.uplane_sections.proofs.Runs.{no_bytes as nil_is}

head_passes : (shape : Shape) (h : UHead) (bytes : List ℕ) → WritesHead h bytes → IsHeadAdmitted shape h → head_checked shape bytes ≡ Ok h
head_passes shape h bytes w a =
    let subframe_is = ap (λ (x : UHead). x.subframe) w.reads in
    let slot_is = ap (λ (x : UHead). x.slot) w.reads in
    let symbol_is = ap (λ (x : UHead). x.symbol) w.reads in
    let version_is = w.version in
    let subframe = a.subframe in
    let slot = a.slot in
    let symbol = a.symbol in
    let result_is : head_checked shape bytes ≡ Ok (head_of bytes) = grind (arith, nat_tests) in
    result_is ∙ ap Ok w.reads

-- a header that is written is read back
pub head_back : (format : Format) (prbs : ℕ) (shape : Shape) (h : UHead) (bytes : List ℕ) → WritesHead h bytes → IsHeadAdmitted shape h → SaysSoFar format prbs shape bytes (Head h ∷ []) h.symbol
head_back format prbs shape h bytes w a = λ rest.
    let len = w.len in
    head_step format prbs shape 0 bytes rest w.len
    ∙ ap (λ r. checked 0 r (λ (h : UHead). after (Head h ∷ []) (sections format prbs shape (0 + 4) h.symbol 0 rest))) (head_passes shape h bytes w a)
    ∙ ap (λ n. after (Head h ∷ []) (sections format prbs shape n h.symbol 0 rest)) (sym len)

symbol_passes : (prbs : ℕ) (shape : Shape) (before : ℕ) (s : USection) (bytes : List ℕ) (method : Method) → section_with (before + field bytes 13 1) method bytes ≡ carried before s → field bytes 12 1 ≡ 0
    → IsAdmitted prbs shape before s → symbol_checked prbs shape before bytes ≡ Ok s.symbol
symbol_passes prbs shape before s bytes method reads rb a =
    let inc : before + field bytes 13 1 ≡ before + flag s.sym_inc = ap (λ (x : USection). x.symbol) reads in
    let start : field bytes 14 10 ≡ s.start_prb = ap (λ (x : USection). x.start_prb) reads in
    let num : field bytes 24 8 ≡ s.num_prb = ap (λ (x : USection). x.num_prb) reads in
    let maintained = a.maintained in
    let symbol = a.symbol in
    let within : is_outside prbs (startPrbu bytes) (numPrbu bytes) ≡ false = rw (start, num) a.within in
    let passes : symbol_checked prbs shape before bytes ≡ Ok (before + field bytes 13 1) = grind (arith, nat_tests) in
    passes ∙ ap Ok (omega arith)

carried_is : (prbs : ℕ) (shape : Shape) (before : ℕ) (s : USection) → IsAdmitted prbs shape before s → carried before s ≡ s
carried_is prbs shape before s a = rw (sym a.maintained) refl

-- the PRBs of packed bytes
blocks_back : (method : Method) (prb n : ℕ) (packed rest : List ℕ) → length packed ≡ n * length_of method → blocks method prb n (packed ++ rest) ≡ blocks method prb n packed
blocks_back method prb zero packed rest h = refl
blocks_back method prb (suc n) packed rest h =
    let len = length_of method in
    let l : length (packed ++ rest) ≡ length packed + length rest = length-append packed rest in
    let d : length (drop len packed) ≡ length packed - len = length-drop len packed in
    rw (
      le-ltb (length (packed ++ rest)) len (omega arith),
      le-ltb (length packed) len (omega arith),
      take-append-le len packed rest (omega arith),
      drop-append-le len packed rest (omega arith),
      blocks_back method (prb + 1) n (drop len packed) rest (omega arith),
    ) refl

packed_back : (format : Format) (prbs : ℕ) (shape : Shape) (method : Method) (symbol at prb n : ℕ) (packed rest : List ℕ) → length packed ≡ n * length_of method
    → in_blocks format prbs shape method symbol at prb n (packed ++ rest) ≡ after (blocks method prb n packed) (sections format prbs shape (at + length packed) symbol 0 rest)
packed_back format prbs shape method symbol at prb n packed rest h =
    let l : length (packed ++ rest) ≡ length packed + length rest = length-append packed rest in
    let b = behind format prbs shape (packed ++ rest) (length packed) 0 at symbol (n * length_of method) (omega arith) (omega arith) in
    rw (blocks_back method prb n packed rest h, b, drop_at packed rest (length packed) refl, le-ltb (length rest) 0 (omega arith)) refl

-- the headers of a section, with other bytes after them
headers_back : (format : Format) (prbs : ℕ) (shape : Shape) (s : USection) (headers rest : List ℕ) (at before : ℕ) → length headers ≡ header_size format → WritesSection format s headers → IsAdmitted prbs shape before s
    → sections format prbs shape at before 0 (headers ++ rest) ≡ in_section format prbs shape (at + length headers) s rest
headers_back format prbs shape s headers rest at before len w a =
    let xs = take 4 headers in
    let ys = drop 4 headers in
    let next : ℕ → Telling = λ symbol. cond format.dynamic (behind_first format prbs shape (at + 4) (section_with symbol format.method xs) (ys ++ rest)) (in_section format prbs shape (at + 4) (section_with symbol format.method xs) (ys ++ rest)) in
    let size : 4 ≤ header_size format = grind (arith, nat_tests) in
    let four : length xs ≡ 4 = length-take-le 4 headers (omega arith) in
    let split : headers ++ rest ≡ xs ++ (ys ++ rest) = ap (λ zs. zs ++ rest) (sym (take-append-drop 4 headers)) ∙ append_assoc xs ys rest in
    let f = λ (i : ℕ) (n : ℕ) (fits : i + n ≤ 32). field_take headers 4 i n (omega arith) in
    let id = f 0 12 (omega arith) in
    let rb_is = f 12 1 (omega arith) in
    let inc = f 13 1 (omega arith) in
    let prb = f 14 10 (omega arith) in
    let num = f 24 8 (omega arith) in
    let same : (symbol : ℕ) (method : Method) → section_with symbol method xs ≡ section_with symbol method headers = λ symbol method. rw (id, inc, prb, num) refl in
    let here = w.reads before ∙ carried_is prbs shape before s a in
    let symbol_is : before + field headers 13 1 ≡ s.symbol = ap (λ (x : USection). x.symbol) here in
    let passes : symbol_checked prbs shape before xs ≡ Ok s.symbol = rw (rb_is, inc, prb, num) (symbol_passes prbs shape before s headers _ (w.reads before) w.each_rb a) in
    let step = ap (sections format prbs shape at before 0) split ∙ section_step format prbs shape at before xs (ys ++ rest) four ∙ ap (λ r. checked at r next) passes in
    elim (cases_Bool format.dynamic) [
      | inl is ↦
          let k = w.compression is in
          let six : length headers ≡ 6 = rw is at len in
          let d : length ys ≡ length headers - 4 = length-drop 4 headers in
          let on : at + 4 + 2 ≡ at + length headers = omega arith in
          let begun : with_method (section_with s.symbol format.method xs) s.method ≡ s =
          ap (λ (x : USection). with_method x s.method) (same s.symbol format.method ∙ ap (λ n. section_with n format.method headers) (sym symbol_is))
          ∙ ap (λ (x : USection). with_method x s.method) here in
          step ∙ ap (λ b. cond b (behind_first format prbs shape (at + 4) (section_with s.symbol format.method xs) (ys ++ rest)) (in_section format prbs shape (at + 4) (section_with s.symbol format.method xs) (ys ++ rest))) is
          ∙ compression_step format prbs shape (at + 4) (section_with s.symbol format.method xs) ys rest (omega arith)
          ∙ ap (λ b. cond (not b) (fault (at + 4 - 4) UnknownMethod) (in_section format prbs shape (at + 4 + 2) (with_method (section_with s.symbol format.method xs) (method_in ys)) rest)) k.known
          ∙ ap (λ (m : Method). in_section format prbs shape (at + 4 + 2) (with_method (section_with s.symbol format.method xs) m) rest) k.reads
          ∙ ap (λ (x : USection). in_section format prbs shape (at + 4 + 2) x rest) begun
          ∙ ap (λ n. in_section format prbs shape n s rest) on
      | inr is ↦
          let whole : length headers ≡ 4 = rw is at len in
          let d : length ys ≡ length headers - 4 = length-drop 4 headers in
          let none : ys ++ rest ≡ rest = ap (λ zs. zs ++ rest) (nil_is ys (omega arith)) in
          let begun : section_with s.symbol format.method xs ≡ s =
          same s.symbol format.method ∙ ap (λ n. section_with n format.method headers) (sym symbol_is) ∙ rw is at here in
          step ∙ ap (λ b. cond b (behind_first format prbs shape (at + 4) (section_with s.symbol format.method xs) (ys ++ rest)) (in_section format prbs shape (at + 4) (section_with s.symbol format.method xs) (ys ++ rest))) is
          ∙ ap (λ (x : USection). in_section format prbs shape (at + 4) x (ys ++ rest)) begun
          ∙ ap (λ (zs : List ℕ). in_section format prbs shape (at + 4) s zs) none
          ∙ ap (λ n. in_section format prbs shape (at + n) s rest) (sym whole)
    ]

compression_front : (method : Method) (bytes : List ℕ) (n : ℕ) → 6 ≤ n → WritesCompression method (drop 4 bytes) → WritesCompression method (drop 4 (take n bytes))
compression_front method bytes n six k =
    let g : (i m : ℕ) → i + m ≤ 16 → field (drop 4 (take n bytes)) i m ≡ field (drop 4 bytes) i m = λ i m fits.
    field_drop (take n bytes) 4 i m ∙ field_take bytes n (8 * 4 + i) m (omega arith) ∙ sym (field_drop bytes 4 i m) in
    let high = g 0 4 (omega arith) in
    let low = g 4 4 (omega arith) in
    record {
      known = rw (high, low) k.known;
      reads = rw (high, low) k.reads;
      byte = g 0 8 (omega arith) ∙ k.byte;
      reserved = g 8 8 (omega arith) ∙ k.reserved;
    }

method_front : (format : Format) (s : USection) (bytes : List ℕ) (n : ℕ) → n ≡ header_size format → WritesSection format s bytes → method_of format (take n bytes) ≡ method_of format bytes
method_front format s bytes n size w = elim (cases_Bool format.dynamic) [
  | inl is ↦
      let k = w.compression is in
      let six : n ≡ 6 = rw is at size in
      let front = compression_front s.method bytes n (omega arith) k in
      rw is (front.reads ∙ sym k.reads)
  | inr is ↦ rw is refl
]

written_front : (format : Format) (s : USection) (bytes : List ℕ) (n : ℕ) → n ≡ header_size format → WritesSection format s bytes → WritesSection format s (take n bytes)
written_front format s bytes n size w =
    let least : 4 ≤ header_size format = grind (arith, nat_tests) in
    let room = w.room in
    let len : length (take n bytes) ≡ n = length-take-le n bytes (omega arith) in
    let f = λ (i : ℕ) (k : ℕ) (fits : i + k ≤ 32). field_take bytes n i k (omega arith) in
    let id = f 0 12 (omega arith) in
    let rb_is = f 12 1 (omega arith) in
    let inc = f 13 1 (omega arith) in
    let prb = f 14 10 (omega arith) in
    let num = f 24 8 (omega arith) in
    let method = method_front format s bytes n size w in
    let same : (before : ℕ) → section_of before (method_of format (take n bytes)) (take n bytes) ≡ section_of before (method_of format bytes) bytes = λ before. rw (id, inc, prb, num, method) refl in
    record {
      room = omega arith;
      reads = λ before. same before ∙ w.reads before;
      each_rb = rb_is ∙ w.each_rb;
      compression = λ is. compression_front s.method bytes n (let six : n ≡ 6 = rw is at size in omega arith) (w.compression is);
    }

pub section_back : (format : Format) (prbs : ℕ) (shape : Shape) (s : USection) (bytes : List ℕ) (n : ℕ) → n ≡ header_size format → WritesSection format s bytes → AddsSection format prbs shape s (take n bytes)
section_back format prbs shape s bytes n size w = λ front packed items before m a len rest.
    let headers = take n bytes in
    let room = w.room in
    let whole : length headers ≡ header_size format = length-take-le n bytes (omega arith) ∙ size in
    let written = written_front format s bytes n size w in
    let at = length front in
    let all : (front ++ (headers ++ packed)) ++ rest ≡ front ++ (headers ++ (packed ++ rest)) = append_assoc front (headers ++ packed) rest ∙ ap (λ zs. front ++ zs) (append_assoc headers packed rest) in
    let end : at + length headers + length packed ≡ length (front ++ (headers ++ packed)) = omega (arith, length-append front (headers ++ packed), length-append headers packed) in
    let more = Section s ∷ blocks s.method (first_of s.start_prb s.num_prb) (count_of prbs s.num_prb) packed in
    ap (told format prbs shape) all ∙ m (headers ++ (packed ++ rest))
    ∙ ap (λ (t : Telling). after items t) (headers_back format prbs shape s headers (packed ++ rest) at before whole written a)
    ∙ ap (λ (t : Telling). after items (after (Section s ∷ []) t)) (packed_back format prbs shape s.method s.symbol (at + length headers) (first_of s.start_prb s.num_prb) (count_of prbs s.num_prb) packed rest len)
    ∙ ap (λ k. after items (after more (sections format prbs shape k s.symbol 0 rest))) end
    ∙ sym (after_after items more (sections format prbs shape (length (front ++ (headers ++ packed))) s.symbol 0 rest))
