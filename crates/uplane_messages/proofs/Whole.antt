-- The items of a message that is not refused: each test was passed, and each PRB was received.
use Rattle.std.proofs.Common.{◌≡◌, ℕ, zero, suc, ◌+◌, ◌-◌, ◌*◌, ◌≤◌, Bool, false, cond, List, [], ◌∷◌, ◌++◌, length, drop, None, refl, sym, ap, subst, ◌∙◌, arith, length-drop}
use Rattle.std.specs.Prelude.{nat_lt, nat_le, not, ◌&&◌, ◌||◌, ◌==◌}
use Rattle.std.proofs.lemmas.Bool.Decides.{nat_tests}
use Rattle.fh_base.specs.declared.values.Shape.{Shape}
use Rattle.bfp_codec.specs.declared.methods.Format.{Format}
use Rattle.bfp_codec.specs.declared.methods.Method.{Method}
use Rattle.bfp_codec.specs.Layout.{length_of}
use Rattle.uplane_sections.specs.declared.values.UHead.{UHead}
use Rattle.uplane_sections.specs.declared.values.UWhy.TheVariants.{Truncated, Version, SlotRange, SymbolRange, EveryOtherRb, PrbRange, Method as UnknownMethod}
use Rattle.uplane_sections.specs.declared.steps.UFeed.{UFeed}
use Rattle.uplane_sections.specs.declared.steps.UFeed.TheVariants as feed
use Rattle.uplane_sections.specs.Phases.{feed_told}
use Rattle.uplane_sections.specs.Header.{symbolId, subframeId, slotId, payloadVersion, head_of}
use Rattle.fh_base.specs.Carrier.{is_outside, first_of, count_of}
use Rattle.uplane_sections.specs.Section.{rb, is_method, startPrbu, numPrbu, symInc, header_size, method_of, section_of, size_of}
use Rattle.uplane_sections.specs.Messages.{Item, Head, Section, Block, Telling, refused, after, blocks, section_at, sections, told}
use Rattle.uplane_messages.specs.Whole.{AreSections, IsWhole}
use Rattle.fh_base.proofs.Orders.{not_lt, not_le, neither_le}
use Rattle.uplane_sections.proofs.Refusing.{passes, refusal_at}

-- where no block is to follow, the number of the next one says nothing
any_number : (prbs : ℕ) (shape : Shape) (p q : ℕ) (items : List Item) → AreSections prbs shape p 0 items → AreSections prbs shape q 0 items
any_number prbs shape p q [] h = h
any_number prbs shape p q (Head head ∷ items) h = h
any_number prbs shape p q (Section s ∷ items) h = h
any_number prbs shape p q (Block prb samples ∷ items) h = absurd (omega (arith, h.0))

-- all n blocks, and then sections
blocks_are : (prbs : ℕ) (shape : Shape) (method : Method) (prb n : ℕ) (bytes : List ℕ) (rest : List Item) → n * length_of method ≤ length bytes → AreSections prbs shape 0 0 rest →
    AreSections prbs shape prb n (blocks method prb n bytes ++ rest)
blocks_are prbs shape method prb zero bytes rest h r = any_number prbs shape 0 prb rest r
blocks_are prbs shape method prb (suc n) bytes rest h r =
    let size = length_of method in
    let there : nat_lt (length bytes) size ≡ false = grind (arith, nat_tests) in
    let room : n * size ≤ length (drop size bytes) = omega (arith, length-drop size bytes) in
    let less : suc n - 1 ≡ n = omega arith in
    let more = blocks_are prbs shape method (prb + 1) n (drop size bytes) rest room r in
    rw (there, less) (omega arith, refl, more)

-- the header of a message is the item that it tells first
unfoldable pub head_in : UHead → List Item → UHead
head_in none [] = none
head_in none (Head head ∷ items) = head
head_in none (Section s ∷ items) = none
head_in none (Block prb samples ∷ items) = none

pub its_head : (prbs : ℕ) (shape : Shape) (head given : UHead) (items left : List Item) (what : UFeed) → what ≡ feed.Head given → items ≡ feed_told what ++ left → IsWhole prbs shape head items →
    IsWhole prbs shape given items
unfolding head_in
its_head prbs shape head given items left what w f whole =
    let first : items ≡ Head given ∷ left = f ∙ ap (λ (x : UFeed). feed_told x ++ left) w in
    let same : head ≡ given = ap (head_in head) (sym whole.first ∙ first) in
    subst (λ (h : UHead). IsWhole prbs shape h items) same whole

neither_lt : (m n : ℕ) (t : Bool) → (nat_lt m n || t) ≡ false → n ≤ m
neither_lt m n t h = grind (arith, nat_tests)

module _ (format : Format) (prbs : ℕ) (shape : Shape) where
  -- where it is not refused it tells sections with all their blocks
  abbrev TellsSections : Telling → Type 0
  TellsSections t = t.refusal ≡ None → AreSections prbs shape 0 0 t.items

  section_whole : (at before : ℕ) (bytes : List ℕ) (next : Telling) → TellsSections next → TellsSections (section_at format prbs shape at before bytes next)
  section_whole at before bytes next on none =
      let method = method_of format bytes in
      let count = count_of prbs (numPrbu bytes) in
      let behind = drop (header_size format) bytes in
      let s = section_of before method bytes in
      let told_here = blocks method (first_of (startPrbu bytes) (numPrbu bytes)) count behind in
      let short = refusal_at (at + length bytes) Truncated in
      let t1 = nat_lt (length bytes) 4 in
      let t2 = rb bytes == 1 in
      let t3 = nat_le shape.symbols (before + symInc bytes) in
      let t4 = is_outside prbs (startPrbu bytes) (numPrbu bytes) in
      let t5 = format.dynamic && nat_lt (length bytes) 6 in
      let t6 = format.dynamic && not (is_method (drop 4 bytes)) in
      let t7 = nat_lt (length bytes) (size_of format prbs bytes) in
      let x7 = cond t7 (refused short) next in
      let x6 = after (Section s ∷ told_here) x7 in
      let x5 = cond t6 (refused (refusal_at at UnknownMethod)) x6 in
      let x4 = cond t5 (refused short) x5 in
      let x3 = cond t4 (refused (refusal_at at PrbRange)) x4 in
      let x2 = cond t3 (refused (refusal_at at SymbolRange)) x3 in
      let x1 = cond t2 (refused (refusal_at at EveryOtherRb)) x2 in
      let p1 = passes t1 short x1 none in
      let p2 = passes t2 (refusal_at at EveryOtherRb) x2 p1.rest in
      let p3 = passes t3 (refusal_at at SymbolRange) x3 p2.rest in
      let p4 = passes t4 (refusal_at at PrbRange) x4 p3.rest in
      let p5 = passes t5 short x5 p4.rest in
      let p6 = passes t6 (refusal_at at UnknownMethod) x6 p5.rest in
      let p7 = passes t7 short next p6.rest in
      let size = not_lt (length bytes) (size_of format prbs bytes) p7.passed in
      let room : count * length_of method ≤ length behind = omega (arith, length-drop (header_size format) bytes) in
      let below = not_le shape.symbols (before + symInc bytes) p3.passed in
      let its_blocks = blocks_are prbs shape method (first_of (startPrbu bytes) (numPrbu bytes)) count behind next.items room (on p7.rest) in
      let within = p4.passed in
      rw (p1.passed, p2.passed, p3.passed, p4.passed, p5.passed, p6.passed, p7.passed) (refl, record { symbol = below; within = within }, its_blocks)

  sections_whole : (at before skip : ℕ) (bytes : List ℕ) → TellsSections (sections format prbs shape at before skip bytes)
  sections_whole at before skip [] = λ none. refl
  sections_whole at before (suc skip) (b ∷ bytes) = sections_whole (at + 1) before skip bytes
  sections_whole at before zero (b ∷ bytes) =
      section_whole at before (b ∷ bytes) _ (sections_whole (at + 1) (before + symInc (b ∷ bytes)) (size_of format prbs (b ∷ bytes) - 1) bytes)

  -- A message that is not refused tells one header, and then sections with all their blocks.
  pub message_whole : (bytes : List ℕ) → (told format prbs shape bytes).refusal ≡ None → IsWhole prbs shape (head_of bytes) (told format prbs shape bytes).items
  message_whole bytes none =
      let head = head_of bytes in
      let next = sections format prbs shape 4 (symbolId bytes) 0 (drop 4 bytes) in
      let t1 = nat_lt (length bytes) 4 in
      let t2 = not (payloadVersion bytes == 1) in
      let t3 = nat_lt 9 (subframeId bytes) || nat_le shape.slots (slotId bytes) in
      let t4 = nat_le shape.symbols (symbolId bytes) in
      let x4 = after (Head head ∷ []) next in
      let x3 = cond t4 (refused (refusal_at 0 SymbolRange)) x4 in
      let x2 = cond t3 (refused (refusal_at 0 SlotRange)) x3 in
      let x1 = cond t2 (refused (refusal_at 0 Version)) x2 in
      let p1 = passes t1 (refusal_at (0 + length bytes) Truncated) x1 none in
      let p2 = passes t2 (refusal_at 0 Version) x2 p1.rest in
      let p3 = passes t3 (refusal_at 0 SlotRange) x3 p2.rest in
      let p4 = passes t4 (refusal_at 0 SymbolRange) x4 p3.rest in
      record {
        rest = next.items;
        first = rw (p1.passed, p2.passed, p3.passed, p4.passed) refl;
        admitted = record {
          subframe = neither_lt 9 (subframeId bytes) (nat_le shape.slots (slotId bytes)) p3.passed;
          slot = neither_le (nat_lt 9 (subframeId bytes)) shape.slots (slotId bytes) p3.passed;
          symbol = not_le shape.symbols (symbolId bytes) p4.passed;
        };
        sections = sections_whole 4 (symbolId bytes) 0 (drop 4 bytes) p4.rest;
      }
