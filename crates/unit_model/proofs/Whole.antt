-- The sections of a message that is not refused: each test was passed, and each PRB was received.
use Rattle.std.proofs.Common.{◌≡◌, ℕ, ℤ, zero, suc, ◌+◌, ◌-◌, ◌*◌, ◌<◌, ◌≤◌, Bool, true, false, cond, List, [], ◌∷◌, ◌++◌, length, take, drop, map, Option, Some, None, refl, arith, length-append, length-drop}
use Rattle.std.specs.Prelude.{All, nat_lt, nat_le, not, ◌&&◌, ◌||◌, ◌==◌}
use Rattle.std.proofs.lemmas.List.Elements.{All-map, All-cons, All-nil, All-weaker}
use Rattle.std.proofs.lemmas.Bool.Decides.{nat_tests}
use Rattle.fh_base.specs.declared.values.Shape.{Shape}
use Rattle.fh_base.specs.Numbering.{shape_of, slots_of}
use Rattle.air_source.specs.declared.events.Side.{Side}
use Rattle.bfp_codec.specs.declared.methods.Format.{Format}
use Rattle.bfp_codec.specs.declared.methods.Method.{Method}
use Rattle.bfp_codec.specs.Layout.{length_of, unpacked_of}
use Rattle.uplane_sections.specs.declared.values.UHead.{UHead}
use Rattle.uplane_sections.specs.declared.values.URefusal.{URefusal}
use Rattle.uplane_sections.specs.declared.values.USection.{USection}
use Rattle.uplane_sections.specs.declared.values.UWhy.TheVariants.{Truncated, Version, SlotRange, SymbolRange, EveryOtherRb, PrbRange, Method as UnknownMethod}
use Rattle.uplane_sections.specs.Header.{symbolId, subframeId, slotId, payloadVersion, head_of}
use Rattle.fh_base.specs.Carrier.{is_outside, first_of, count_of}
use Rattle.uplane_sections.specs.Section.{rb, is_method, startPrbu, numPrbu, symInc, header_size, method_of, section_of, size_of}
use Rattle.uplane_sections.specs.Messages.{Item, Head, Section, Telling, refused, after, blocks, section_at, sections, told}
use Rattle.window_config.specs.declared.endpoints.EndpointConfig.{EndpointConfig}
use Rattle.unit_model.specs.Decoding.{SectionBlocks, Gathering, nothing_told, without_blocks, longer, gathered, has_way, data_with, decoded_from, decode, Sections, Backwards, sections_of}
use Rattle.unit_model.specs.declared.decoded.UserSection.{UserSection}
use Rattle.unit_model.specs.Proper.{IsAt, IsTime, IsProperData}
use Rattle.fh_base.proofs.Orders.{not_lt, not_le, neither_le}
use Rattle.uplane_sections.proofs.Refusing.{passes, refusal_at}

-- a section that passed the tests, with all its PRBs
pub record IsWholePart (prbs : ℕ) (shape : Shape) (p : SectionBlocks) : Type 0 where
  pub symbol : p.section.symbol < shape.symbols
  pub within : is_outside prbs p.section.start_prb p.section.num_prb ≡ false
  pub blocks : length p.blocks ≡ count_of prbs p.section.num_prb

-- what was gathered goes on with the same header, and its sections are whole
pub record IsWholeAfter (prbs : ℕ) (shape : Shape) (head : Option UHead) (g : Gathering) : Type 0 where
  pub same_head : g.head ≡ head
  pub parts : All (IsWholePart prbs shape) g.parts

abbrev with_parts : Option UHead → List SectionBlocks → Gathering
with_parts head ps = record { head = head; parts = ps }

-- these items give the newest section n further PRBs
record Lengthens (n : ℕ) (head : Option UHead) (p : SectionBlocks) (ps : List SectionBlocks) (items rest : List Item) : Type 0 where
  q : SectionBlocks
  section : q.section ≡ p.section
  blocks : length q.blocks ≡ length p.blocks + n
  is : gathered (with_parts head (p ∷ ps)) (items ++ rest) ≡ gathered (with_parts head (q ∷ ps)) rest

lengthens : (method : Method) (prb n : ℕ) (bytes : List ℕ) (head : Option UHead) (p : SectionBlocks) (ps : List SectionBlocks) (rest : List Item) → n * length_of method ≤ length bytes →
    Lengthens n head p ps (blocks method prb n bytes) rest
unfolding gathered
lengthens method prb zero bytes head p ps rest h = record { q = p; section = refl; blocks = omega arith; is = refl }
lengthens method prb (suc n) bytes head p ps rest h =
    let size = length_of method in
    let samples = unpacked_of method (take size bytes) in
    let there : nat_lt (length bytes) size ≡ false = grind (arith, nat_tests) in
    let room : n * size ≤ length (drop size bytes) = omega (arith, length-drop size bytes) in
    let more = lengthens method (prb + 1) n (drop size bytes) head (longer samples p) ps rest room in
    let one : length (p.blocks ++ samples ∷ []) ≡ length p.blocks + 1 = length-append p.blocks (samples ∷ []) in
    let b : length more.q.blocks ≡ length p.blocks + suc n = omega (arith, more.blocks, one) in
    record { q = more.q; section = more.section; blocks = b; is = rw there more.is }

neither_lt : (m n : ℕ) (t : Bool) → (nat_lt m n || t) ≡ false → n < suc m
neither_lt m n t h = grind (arith, nat_tests)

whole_part : (prbs : ℕ) (shape : Shape) (s : USection) (q : SectionBlocks) → q.section ≡ s → s.symbol < shape.symbols → is_outside prbs s.start_prb s.num_prb ≡ false → length q.blocks ≡ count_of prbs s.num_prb →
    IsWholePart prbs shape q
whole_part prbs shape s q e below within b = record {
  symbol = rw e below;
  within = rw e within;
  blocks = rw e b;
}

module _ (format : Format) (prbs : ℕ) (shape : Shape) where
  -- what follows a section adds complete sections to complete ones
  abbrev pub GoesOn : Telling → Type 0
  GoesOn next = (g : Gathering) → next.refusal ≡ None → All (IsWholePart prbs shape) g.parts → IsWholeAfter prbs shape g.head (gathered g next.items)

  section_whole : (at before : ℕ) (bytes : List ℕ) (next : Telling) → GoesOn next → GoesOn (section_at format prbs shape at before bytes next)
  unfolding gathered
  section_whole at before bytes next on g none all =
      let method = method_of format bytes in
      let count = count_of prbs (numPrbu bytes) in
      let behind = drop (header_size format) bytes in
      let s = section_of before method bytes in
      let told_here = blocks method (first_of (startPrbu bytes) (numPrbu bytes)) count behind in
      let short = refusal_at (at + length bytes) Truncated in
      let t1 = nat_lt (length bytes) 4 in
      let t2 = rb bytes == 1 in
      let t3 = nat_le shape.symbols (before + symInc bytes) in
      let t4 = is_outside prbs (startPrbu bytes) (numPrbu bytes) in
      let t5 = format.dynamic && nat_lt (length bytes) 6 in
      let t6 = format.dynamic && not (is_method (drop 4 bytes)) in
      let t7 = nat_lt (length bytes) (size_of format prbs bytes) in
      let x7 = cond t7 (refused short) next in
      let x6 = after (Section s ∷ told_here) x7 in
      let x5 = cond t6 (refused (refusal_at at UnknownMethod)) x6 in
      let x4 = cond t5 (refused short) x5 in
      let x3 = cond t4 (refused (refusal_at at PrbRange)) x4 in
      let x2 = cond t3 (refused (refusal_at at SymbolRange)) x3 in
      let x1 = cond t2 (refused (refusal_at at EveryOtherRb)) x2 in
      let p1 = passes t1 short x1 none in
      let p2 = passes t2 (refusal_at at EveryOtherRb) x2 p1.rest in
      let p3 = passes t3 (refusal_at at SymbolRange) x3 p2.rest in
      let p4 = passes t4 (refusal_at at PrbRange) x4 p3.rest in
      let p5 = passes t5 short x5 p4.rest in
      let p6 = passes t6 (refusal_at at UnknownMethod) x6 p5.rest in
      let p7 = passes t7 short next p6.rest in
      let size = not_lt (length bytes) (size_of format prbs bytes) p7.passed in
      let room : count * length_of method ≤ length behind = omega (arith, length-drop (header_size format) bytes) in
      let l = lengthens method (first_of (startPrbu bytes) (numPrbu bytes)) count behind g.head (without_blocks s) g.parts next.items room in
      let below = not_le shape.symbols (before + symInc bytes) p3.passed in
      let counted : length l.q.blocks ≡ count = omega (arith, l.blocks) in
      let part : IsWholePart prbs shape l.q = whole_part prbs shape s l.q l.section below p4.passed counted in
      let after_it = on (with_parts g.head (l.q ∷ g.parts)) p7.rest (All-cons (IsWholePart prbs shape) l.q g.parts part all) in
      rw (p1.passed, p2.passed, p3.passed, p4.passed, p5.passed, p6.passed, p7.passed, l.is) after_it

  sections_whole : (at before skip : ℕ) (bytes : List ℕ) → GoesOn (sections format prbs shape at before skip bytes)
  unfolding gathered
  sections_whole at before skip [] = λ g none all. record { same_head = refl; parts = all }
  sections_whole at before (suc skip) (b ∷ bytes) = sections_whole (at + 1) before skip bytes
  sections_whole at before zero (b ∷ bytes) =
      section_whole at before (b ∷ bytes) _ (sections_whole (at + 1) (before + symInc (b ∷ bytes)) (size_of format prbs (b ∷ bytes) - 1) bytes)

  -- the header of a message that is not refused, and its sections
  pub record IsWholeMessage (g : Gathering) : Type 0 where
    pub head : UHead
    pub has_head : g.head ≡ Some head
    pub subframe : head.subframe < 10
    pub slot : head.slot < shape.slots
    pub parts : All (IsWholePart prbs shape) g.parts

  pub message_whole : (bytes : List ℕ) → (told format prbs shape bytes).refusal ≡ None → IsWholeMessage (gathered nothing_told (told format prbs shape bytes).items)
  unfolding gathered
  message_whole bytes none =
      let head = head_of bytes in
      let next = sections format prbs shape 4 (symbolId bytes) 0 (drop 4 bytes) in
      let t1 = nat_lt (length bytes) 4 in
      let t2 = not (payloadVersion bytes == 1) in
      let t3 = nat_lt 9 (subframeId bytes) || nat_le shape.slots (slotId bytes) in
      let t4 = nat_le shape.symbols (symbolId bytes) in
      let x4 = after (Head head ∷ []) next in
      let x3 = cond t4 (refused (refusal_at 0 SymbolRange)) x4 in
      let x2 = cond t3 (refused (refusal_at 0 SlotRange)) x3 in
      let x1 = cond t2 (refused (refusal_at 0 Version)) x2 in
      let p1 = passes t1 (refusal_at (0 + length bytes) Truncated) x1 none in
      let p2 = passes t2 (refusal_at 0 Version) x2 p1.rest in
      let p3 = passes t3 (refusal_at 0 SlotRange) x3 p2.rest in
      let p4 = passes t4 (refusal_at 0 SymbolRange) x4 p3.rest in
      let start = with_parts (Some head) [] in
      let w = sections_whole 4 (symbolId bytes) 0 (drop 4 bytes) start p4.rest (All-nil (IsWholePart prbs shape)) in
      let whole : IsWholeMessage (gathered start next.items) = record {
        head = head;
        has_head = w.same_head;
        subframe = neither_lt 9 (subframeId bytes) (nat_le shape.slots (slotId bytes)) p3.passed;
        slot = neither_le (nat_lt 9 (subframeId bytes)) shape.slots (slotId bytes) p3.passed;
        parts = w.parts;
      } in
      rw (p1.passed, p2.passed, p3.passed, p4.passed) whole

data_proper : (es : List EndpointConfig) (ep : ℕ) (e : EndpointConfig) (first last : ℤ) (head : UHead) (ps : List SectionBlocks) → IsAt es ep e → IsTime first → IsTime last →
    head.subframe < 10 → head.slot < slots_of e.numerology → All (IsWholePart e.prbs (shape_of e.numerology)) ps → All (IsProperData es) (map (data_with ep e first last head) ps)
data_proper es ep e first last head ps i f l subframe slot parts =
    All-map (IsProperData es) (data_with ep e first last head) ps
    (All-weaker (IsWholePart e.prbs (shape_of e.numerology)) (λ p. IsProperData es (data_with ep e first last head p))
    (λ p w. record { endpoint = i; first = f; last = l; subframe = subframe; slot = slot; symbol = w.symbol; within = w.within; blocks = w.blocks }) ps parts)

way_proper : (es : List EndpointConfig) (ds : List UserSection) (way : Bool) → All (IsProperData es) ds → All (IsProperData es) (sections_of (cond way (Sections ds) Backwards))
way_proper es ds true h = h
way_proper es ds false h = All-nil (IsProperData es)

told_proper : (es : List EndpointConfig) (side : Side) (ep : ℕ) (e : EndpointConfig) (first last : ℤ) (g : Gathering) (r : Option URefusal) → IsAt es ep e → IsTime first → IsTime last →
    (r ≡ None → IsWholeMessage e.format e.prbs (shape_of e.numerology) g) → All (IsProperData es) (sections_of (decoded_from side ep e first last g r))
told_proper es side ep e first last g (Some r) i f l w = All-nil (IsProperData es)
told_proper es side ep e first last g None i f l w =
    let m = w refl in
    rw m.has_head (way_proper es (map (data_with ep e first last m.head) g.parts) (has_way side m.head) (data_proper es ep e first last m.head g.parts i f l m.subframe m.slot m.parts))

-- each section of a message that was decoded is proper
pub decode_proper : (es : List EndpointConfig) (side : Side) (ep : ℕ) (e : EndpointConfig) (first last : ℤ) (bytes : List ℕ) → IsAt es ep e → IsTime first → IsTime last →
    All (IsProperData es) (sections_of (decode side ep e first last bytes))
unfolding decode
decode_proper es side ep e first last bytes i f l =
    told_proper es side ep e first last (gathered nothing_told (told e.format e.prbs (shape_of e.numerology) bytes).items) (told e.format e.prbs (shape_of e.numerology) bytes).refusal i f l
    (message_whole e.format e.prbs (shape_of e.numerology) bytes)
