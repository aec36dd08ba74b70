-- What the bytes of a U-plane message say, by a recursion on all of them: the header, the sections and their PRBs up to
-- the first test that fails, and that refusal.
use Rattle.std.specs.Prelude.{ℕ, zero, suc, ◌+◌, ◌-◌, ◌==◌, ◌&&◌, ◌||◌, not, if◌then◌else◌, List, [], ◌∷◌, ◌++◌, length, take, drop, nat_lt, nat_le, Option, Some, None}
use Rattle.fh_base.specs.declared.values.Shape.{Shape}
use Rattle.bfp_codec.specs.declared.methods.Method.{Method}
use Rattle.bfp_codec.specs.declared.methods.Format.{Format}
use Rattle.bfp_codec.specs.declared.samples.Wide.{Wide}
use Rattle.bfp_codec.specs.Layout.{length_of, unpacked_of}
use Rattle.uplane_sections.specs.declared.values.UHead.{UHead}
use Rattle.uplane_sections.specs.declared.values.USection.{USection}
use Rattle.uplane_sections.specs.declared.values.URefusal.{URefusal}
use Rattle.uplane_sections.specs.declared.values.UWhy.{UWhy}
use Rattle.uplane_sections.specs.declared.values.UWhy.TheVariants.{Truncated, Version, SlotRange, SymbolRange, EveryOtherRb, PrbRange, Method as UnknownMethod}
use Rattle.uplane_sections.specs.Header.{payloadVersion, subframeId, slotId, symbolId, head_of}
use Rattle.fh_base.specs.Carrier.{is_outside, first_of, count_of}
use Rattle.uplane_sections.specs.Section.{rb, symInc, startPrbu, numPrbu, is_method, method_of, header_size, section_of, size_of}

-- what is told of a message: its header, the header of a section, a PRB with its number and its samples
pub data Item : Type 0 where
  Head : UHead → Item
  Section : USection → Item
  Block : ℕ → List Wide → Item

pub record Telling : Type 0 where
  pub items : List Item
  pub refusal : Option URefusal

abbrev pub done : Telling
done = record { items = []; refusal = None }

abbrev pub refused : URefusal → Telling
refused r = record { items = []; refusal = Some r }

abbrev pub fault : ℕ → UWhy → Telling
fault place why = refused (record { place = place; why = why })

-- these, and then what t tells
abbrev pub after : List Item → Telling → Telling
after items t = record { items = items ++ t.items; refusal = t.refusal }

-- the whole PRBs that the bytes begin with, n at most, numbered from `prb` on
abbrev pub blocks : Method → ℕ → ℕ → List ℕ → List Item
blocks method prb zero bytes = []
blocks method prb (suc n) bytes =
    if nat_lt (length bytes) (length_of method) then []
    else Block prb (unpacked_of method (take (length_of method) bytes)) ∷ blocks method (prb + 1) n (drop (length_of method) bytes)

module _ (format : Format) (prbs : ℕ) (shape : Shape) where
  -- `bytes` are all from a section's header on, which is at the place `at`; the maintained symbol number was
  -- `before`, and `next` is what is told after the section.
  abbrev pub section_at : ℕ → ℕ → List ℕ → Telling → Telling
  section_at at before bytes next =
      if nat_lt (length bytes) 4 then fault (at + length bytes) Truncated
      else (if rb bytes == 1 then fault at EveryOtherRb
      else (if nat_le shape.symbols (before + symInc bytes) then fault at SymbolRange
      else (if is_outside prbs (startPrbu bytes) (numPrbu bytes) then fault at PrbRange
      else (if format.dynamic && nat_lt (length bytes) 6 then fault (at + length bytes) Truncated
      else (if format.dynamic && not (is_method (drop 4 bytes)) then fault at UnknownMethod
      else after
      (Section (section_of before (method_of format bytes) bytes)
      ∷ blocks (method_of format bytes) (first_of (startPrbu bytes) (numPrbu bytes)) (count_of prbs (numPrbu bytes)) (drop (header_size format) bytes))
      (if nat_lt (length bytes) (size_of format prbs bytes) then fault (at + length bytes) Truncated else next))))))

  -- what is told from the place `at` on, where the first `skip` bytes belong to a section that was read
  abbrev pub sections : ℕ → ℕ → ℕ → List ℕ → Telling
  sections at before skip [] = done
  sections at before (suc skip) (b ∷ bytes) = sections (at + 1) before skip bytes
  sections at before zero (b ∷ bytes) =
      section_at at before (b ∷ bytes) (sections (at + 1) (before + symInc (b ∷ bytes)) (size_of format prbs (b ∷ bytes) - 1) bytes)

  -- what the bytes of a message say, which begins at the place `at`
  abbrev pub message_from : ℕ → List ℕ → Telling
  message_from at bytes =
      if nat_lt (length bytes) 4 then fault (at + length bytes) Truncated
      else (if not (payloadVersion bytes == 1) then fault at Version
      else (if nat_lt 9 (subframeId bytes) || nat_le shape.slots (slotId bytes) then fault at SlotRange
      else (if nat_le shape.symbols (symbolId bytes) then fault at SymbolRange
      else after (Head (head_of bytes) ∷ []) (sections (at + 4) (symbolId bytes) 0 (drop 4 bytes)))))

  -- what all the bytes of a message say
  abbrev pub told : List ℕ → Telling
  told bytes = message_from 0 bytes
