-- What is told next, where no PRB is next.
use Rattle.std.proofs.Common.{◌≢◌, ℕ, ◌+◌, ◌-◌, Bool, true, false, cond, List, [], ◌∷◌, length, drop, refl}
use Rattle.std.specs.Prelude.{nat_lt, nat_le, not, ◌&&◌, ◌||◌, ◌==◌}
use Rattle.fh_base.specs.declared.values.Shape.{Shape}
use Rattle.fh_base.specs.Carrier.{is_outside, first_of, count_of}
use Rattle.bfp_codec.specs.declared.methods.Method.{Method}
use Rattle.bfp_codec.specs.declared.methods.Format.{Format}
use Rattle.uplane_sections.specs.declared.phases.Phase.{Phase}
use Rattle.uplane_sections.specs.declared.phases.Phase.TheVariants.{Start, Between, Compression, Inside, Faulty}
use Rattle.uplane_sections.specs.declared.values.URefusal.{URefusal}
use Rattle.uplane_sections.specs.declared.values.USection.{USection}
use Rattle.uplane_sections.specs.declared.values.UWhy.TheVariants.{Truncated, Version, SlotRange, SymbolRange, EveryOtherRb, PrbRange, Method as UnknownMethod}
use Rattle.uplane_sections.specs.Header.{symbolId, subframeId, slotId, payloadVersion, head_of}
use Rattle.uplane_sections.specs.Section.{rb, is_method, method_in, method_of, section_of, header_size, size_of, startPrbu, numPrbu, symInc}
use Rattle.uplane_sections.specs.Messages.{Head, Section, Telling, refused, after, blocks, section_at, sections, message_from}
use Rattle.uplane_sections.specs.Phases.{with_method, in_section, behind_first, resumed}
use Rattle.uplane_sections.specs.States.{BeginsWithout}
use Rattle.uplane_sections.proofs.Refusing.{refusal_at}

refused_or : (t : Bool) (r : URefusal) (x : Telling) → BeginsWithout x.items → BeginsWithout (cond t (refused r) x).items
refused_or true r x h = tt {0}
refused_or false r x h = h

-- tests, the first of which that fails refuses the message
abbrev tested : List (Bool × URefusal) → Telling → Telling
tested [] x = x
tested (t ∷ tests) x = cond t.0 (refused t.1) (tested tests x)

begins_tested : (tests : List (Bool × URefusal)) (x : Telling) → BeginsWithout x.items → BeginsWithout (tested tests x).items
begins_tested [] x h = h
begins_tested (t ∷ tests) x h = refused_or t.0 t.1 (tested tests x) (begins_tested tests x h)

module _ (format : Format) (prbs : ℕ) (shape : Shape) where
  begins_head : (at : ℕ) (bytes : List ℕ) → BeginsWithout (message_from format prbs shape at bytes).items
  begins_head at bytes =
      begins_tested ((nat_lt (length bytes) 4, refusal_at (at + length bytes) Truncated) ∷ (not (payloadVersion bytes == 1), refusal_at at Version)
      ∷ (nat_lt 9 (subframeId bytes) || nat_le shape.slots (slotId bytes), refusal_at at SlotRange) ∷ (nat_le shape.symbols (symbolId bytes), refusal_at at SymbolRange) ∷ [])
      (after (Head (head_of bytes) ∷ []) (sections format prbs shape (at + 4) (symbolId bytes) 0 (drop 4 bytes))) (tt {0})

  begins_section : (at before : ℕ) (bytes : List ℕ) (next : Telling) → BeginsWithout (section_at format prbs shape at before bytes next).items
  begins_section at before bytes next =
      let method = method_of format bytes in
      let told = blocks method (first_of (startPrbu bytes) (numPrbu bytes)) (count_of prbs (numPrbu bytes)) (drop (header_size format) bytes) in
      begins_tested ((nat_lt (length bytes) 4, refusal_at (at + length bytes) Truncated) ∷ (rb bytes == 1, refusal_at at EveryOtherRb)
      ∷ (nat_le shape.symbols (before + symInc bytes), refusal_at at SymbolRange) ∷ (is_outside prbs (startPrbu bytes) (numPrbu bytes), refusal_at at PrbRange)
      ∷ (format.dynamic && nat_lt (length bytes) 6, refusal_at (at + length bytes) Truncated) ∷ (format.dynamic && not (is_method (drop 4 bytes)), refusal_at at UnknownMethod) ∷ [])
      (after (Section (section_of before method bytes) ∷ told)
      (cond (nat_lt (length bytes) (size_of format prbs bytes)) (refused (refusal_at (at + length bytes) Truncated)) next)) (tt {0})

  begins_compression : (at : ℕ) (s : USection) (bytes : List ℕ) → BeginsWithout (behind_first format prbs shape at s bytes).items
  begins_compression at s bytes =
      begins_tested ((nat_lt (length bytes) 2, refusal_at (at + length bytes) Truncated) ∷ (not (is_method bytes), refusal_at (at - 4) UnknownMethod) ∷ [])
      (in_section format prbs shape (at + 2) (with_method s (method_in bytes)) (drop 2 bytes)) (tt {0})

  pub other_phase : (phase : Phase) (at : ℕ) (bytes : List ℕ) → ((method : Method) (symbol prb left : ℕ) → phase ≢ Inside method symbol prb left) → BeginsWithout (resumed format prbs shape phase at bytes).items
  other_phase Start at bytes h = begins_head at bytes
  other_phase (Between before) at [] h = tt {0}
  other_phase (Between before) at (b ∷ bytes) h = begins_section at before (b ∷ bytes) _
  other_phase (Compression s) at bytes h = begins_compression at s bytes
  other_phase (Inside method symbol prb left) at bytes h = absurd (h method symbol prb left refl)
  other_phase (Faulty r) at bytes h = tt {0}
