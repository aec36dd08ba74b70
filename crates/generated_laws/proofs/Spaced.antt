-- The symbols of an endpoint start far apart.
use Rattle.std.proofs.Common.{◌≡◌, ℕ, ℤ, pos, ◌+◌, ◌*◌, ◌/◌, ◌<◌, ◌≤◌, ◌+ℤ◌, ◌*ℤ◌, ◌≤ℤ◌, ◌⊎◌, inl, inr, sym, ap, ◌∙◌, subst, true≢false, arith}
use Rattle.std.proofs.lemmas.Int.{ints}
use Rattle.std.proofs.lemmas.Bool.{cases_Bool, cases_eq, cases_lt}
use Rattle.fh_base.specs.Air.{air_of, least_slot_of, span_of, AreApart}
use Rattle.fh_base.specs.Numbering.{IsSlotOf, ordinary_at, symbols_of}
use Rattle.fh_base.specs.Symbols.{longer_before, normal_start, ticks_of_ts}
use Rattle.fh_base.specs.declared.frames.TheConstants.{FRAME}
use Rattle.fh_base.specs.declared.numerology.Numerology.{Numerology}
use Rattle.fh_base.specs.declared.spacing.Spacing.TheVariants.{Khz30}
use Rattle.fh_base.specs.declared.symbols.TheConstants.{SUBFRAME}
use Rattle.fh_base.specs.declared.values.Slot.{Slot}
use Rattle.fh_base.proofs.Order.{slots_apart, symbol_in_span, symbols_in_order, longer_order}
use Rattle.unit_model.specs.Claims.{same_slot}
use Rattle.unit_model.proofs.ClaimLemmas.{same_slot_is, slot_self}
use Rattle.generated_laws.specs.Sparse.{IsSpaced}

-- ---- two symbols

over : (x y a b : ℤ) (span least slot : ℕ) → x ≤ℤ (a +ℤ pos span) → (a +ℤ pos slot) ≤ℤ b → b ≤ℤ y → span + least ≤ slot → (x +ℤ pos least) ≤ℤ y
over x y a b span least slot h k l m = omega (arith, ints, h, k, l, m)

module _ (n : Numerology) (least : ℕ) (spaced : IsSpaced n least) where
  -- the last of one slot and the first of a later one
  later_slot : (a b : Slot) (i j : ℕ) → i < symbols_of n → (air_of n a 0 +ℤ pos (least_slot_of n)) ≤ℤ air_of n b 0 → (air_of n a i +ℤ pos least) ≤ℤ air_of n b j
  later_slot a b i j is_i h =
      over (air_of n a i) (air_of n b j) (air_of n a 0) (air_of n b 0) (span_of n) least (least_slot_of n) (symbol_in_span n a i is_i) h (symbols_in_order n b 0 j (omega arith)) spaced.across

  one_slot : (a b : Slot) (i j : ℕ) → a ≡ b → i < j → j < symbols_of n → (air_of n a i +ℤ pos least) ≤ℤ air_of n b j
  one_slot a b i j same h is_j = subst (λ (s : Slot). (air_of n a i +ℤ pos least) ≤ℤ air_of n s j) same (spaced.within a i j h is_j)

  -- they are one symbol, or far apart
  pub apart : (a b : Slot) (i j : ℕ) → IsSlotOf n a → IsSlotOf n b → i < symbols_of n → j < symbols_of n
      → ((a ≡ b) × (i ≡ j)) ⊎ AreApart least (air_of n a i) (air_of n b j)
  apart a b i j is_a is_b is_i is_j = elim (cases_Bool (same_slot a b)) [
    | inl same ↦ of_slot (same_slot_is a b same)
    | inr other ↦ of_slots (slots_apart n a b is_a is_b (λ e. true≢false (sym (slot_self a) ∙ ap (λ (s : Slot). same_slot a s) e ∙ other)))
  ]
    where
      of_slots : AreApart (least_slot_of n) (air_of n a 0) (air_of n b 0) → ((a ≡ b) × (i ≡ j)) ⊎ AreApart least (air_of n a i) (air_of n b j)
      of_slots (inl h) = inr (inl (later_slot a b i j is_i h))
      of_slots (inr h) = inr (inr (later_slot b a j i is_j h))

      of_slot : a ≡ b → ((a ≡ b) × (i ≡ j)) ⊎ AreApart least (air_of n a i) (air_of n b j)
      of_slot same = elim (cases_eq i j) [
        | inl e ↦ inl (same, e)
        | inr ne ↦ elim (cases_lt i j) [
          | inl lt ↦ inr (inl (one_slot a b i j same lt is_j))
          | inr ge ↦ inr (inr (one_slot b a j i (sym same) (omega (arith, ge, ne)) is_i))
        ]
      ]

-- ---- at 30 kHz

start_later : (i j x y p q : ℕ) → i < j → x ≤ y → p ≤ q → ticks_of_ts (i * 2192) / 2 + x + p + 53200000 ≤ ticks_of_ts (j * 2192) / 2 + y + q
start_later i j x y p q h a b = omega (arith, h, a, b)

symbol_later : (i j : ℕ) → i < j → normal_start 1 i + 53200000 ≤ normal_start 1 j
symbol_later i j h = start_later i j (longer_before 0 i) (longer_before 0 j) (longer_before 14 i) (longer_before 14 j) h (longer_order 0 i j (omega (arith, h))) (longer_order 14 i j (omega (arith, h)))

air_later : (f : ℤ) (b x y k : ℕ) → x + k ≤ y → ((f *ℤ FRAME +ℤ pos (b + x)) +ℤ pos k) ≤ℤ (f *ℤ FRAME +ℤ pos (b + y))
air_later f b x y k h = omega (arith, ints, h)

-- 53,200,000 ticks: a symbol has 54,800,000, and the span of a slot counts both longer symbols of its subframe
pub khz30_spaced : IsSpaced (ordinary_at Khz30) 53200000
khz30_spaced = record {
  some = omega arith;
  within = λ slot i j h is. air_later slot.frame (slot.subframe * SUBFRAME) (normal_start 1 (14 * slot.slot + i)) (normal_start 1 (14 * slot.slot + j)) 53200000
      (symbol_later (14 * slot.slot + i) (14 * slot.slot + j) (omega (arith, h)));
  across = omega arith;
}
