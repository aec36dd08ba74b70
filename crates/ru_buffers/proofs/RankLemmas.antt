-- The places of symbols in their order, as numbers that rise.
use Rattle.std.proofs.Common.{◌≡◌, ℕ, ℤ, pos, ◌+◌, ◌+ℤ◌, ◌*◌, ◌<◌, ◌≤◌, ◌≤ℤ◌, ◌<ℤ◌, ◌^◌, neg_ℤ, Bool, true, false, ◌&&◌, ◌||◌, ◌==◌, refl, ap, arith, ◌⊎◌, inl, inr}
use Rattle.std.specs.Prelude.{int_lt, nat_lt}
use Rattle.std.specs.Int.{int_gap}
use Rattle.std.specs.Ordering.{int_eq}
use Rattle.std.proofs.lemmas.Int.{ints}
use Rattle.std.proofs.lemmas.Bool.{ltb-true, eqb-true}
use Rattle.fh_base.specs.declared.values.Slot.{Slot}
use Rattle.unit_model.specs.Claims.{same_slot}
use Rattle.unit_model.specs.Order.{comes_before, slot_before, symbol_before}
use Rattle.unit_model.specs.declared.symbol_start.SymbolStart.{SymbolStart}
use Rattle.ru_buffers.specs.Advancing.{rank_of, rank_past}
use Rattle.fh_base.proofs.Orders.{under, same_z}
use Rattle.unit_model.proofs.ClaimLemmas.{same_slot_is as slots_equal}
use Rattle.fh_base.proofs.EachLemmas.{gap_is}

-- a symbol whose place has a number
pub record IsRanked (m : SymbolStart) : Type 0 where
  pub low : neg_ℤ (pos (2 ^ 57)) ≤ℤ m.start.0
  pub ep : m.ep < 2 ^ 64
  pub frame_low : neg_ℤ (pos (2 ^ 21)) ≤ℤ m.slot.frame
  pub frame_high : m.slot.frame <ℤ pos (2 ^ 21)
  pub subframe : m.slot.subframe < 16
  pub slot : m.slot.slot < 256
  pub symbol : m.symbol < 256

abbrev number : ℕ → ℕ → ℕ → ℕ → ℕ → ℕ → ℕ
number s e f g h y = ((((s * 2 ^ 64 + e) * 2 ^ 22 + f) * 16 + g) * 256 + h) * 256 + y

by_start : (s e f g h y s2 e2 f2 g2 h2 y2 : ℕ) → e < 2 ^ 64 → f < 2 ^ 22 → g < 16 → h < 256 → y < 256 → s < s2 → number s e f g h y < number s2 e2 f2 g2 h2 y2
by_start s e f g h y s2 e2 f2 g2 h2 y2 a b c d i j = omega arith

by_ep : (s e f g h y e2 f2 g2 h2 y2 : ℕ) → f < 2 ^ 22 → g < 16 → h < 256 → y < 256 → e < e2 → number s e f g h y < number s e2 f2 g2 h2 y2
by_ep s e f g h y e2 f2 g2 h2 y2 b c d i j = omega arith

by_frame : (s e f g h y f2 g2 h2 y2 : ℕ) → g < 16 → h < 256 → y < 256 → f < f2 → number s e f g h y < number s e f2 g2 h2 y2
by_frame s e f g h y f2 g2 h2 y2 c d i j = omega arith

by_subframe : (s e f g h y g2 h2 y2 : ℕ) → h < 256 → y < 256 → g < g2 → number s e f g h y < number s e f g2 h2 y2
by_subframe s e f g h y g2 h2 y2 d i j = omega arith

by_slot : (s e f g h y h2 y2 : ℕ) → y < 256 → h < h2 → number s e f g h y < number s e f g h2 y2
by_slot s e f g h y h2 y2 i j = omega arith

by_symbol : (s e f g h y y2 : ℕ) → y < y2 → number s e f g h y < number s e f g h y2
by_symbol s e f g h y y2 j = omega arith

past : (s e f g h y t : ℕ) → e < 2 ^ 64 → f < 2 ^ 22 → g < 16 → h < 256 → y < 256 → s ≤ t → number s e f g h y < (t + 1) * (2 ^ 64 * 2 ^ 22 * 16 * 256 * 256)
past s e f g h y t a b c d i j = omega arith

gap_lesser : (a b c : ℤ) → a ≤ℤ b → b <ℤ c → int_gap a b < int_gap a c
gap_lesser a b c h k = gaps (int_gap a b) (int_gap a c) (gap_is a b h) (gap_is a c (omega (arith, ints))) k
  where
    gaps : (m n : ℕ) → a +ℤ pos m ≡ b → a +ℤ pos n ≡ c → b <ℤ c → m < n
    gaps m n p q r = omega (arith, ints)

gap_same : (a b c : ℤ) → b ≡ c → int_gap a b ≡ int_gap a c
gap_same a b c h = ap (int_gap a) h

gap_at_most : (a b c : ℤ) → a ≤ℤ b → b ≤ℤ c → int_gap a b ≤ int_gap a c
gap_at_most a b c h k = gaps (int_gap a b) (int_gap a c) (gap_is a b h) (gap_is a c (omega (arith, ints))) k
  where
    gaps : (m n : ℕ) → a +ℤ pos m ≡ b → a +ℤ pos n ≡ c → b ≤ℤ c → m ≤ n
    gaps m n p q r = omega (arith, ints)

frame_small : (f : ℤ) → neg_ℤ (pos (2 ^ 21)) ≤ℤ f → f <ℤ pos (2 ^ 21) → int_gap (neg_ℤ (pos (2 ^ 21))) f < 2 ^ 22
frame_small f h k = gaps (int_gap (neg_ℤ (pos (2 ^ 21))) f) (gap_is (neg_ℤ (pos (2 ^ 21))) f h) k
  where
    gaps : (m : ℕ) → neg_ℤ (pos (2 ^ 21)) +ℤ pos m ≡ f → f <ℤ pos (2 ^ 21) → m < 2 ^ 22
    gaps m p q = omega (arith, ints)

-- ---- which of the parts is less

or_cases : (p q r : Bool) → (p || (q && r)) ≡ true → (p ≡ true) ⊎ ((q ≡ true) × (r ≡ true))
or_cases true q r h = inl refl
or_cases false true r h = inr (refl, h)
or_cases false false r h = cc

abbrev since_of : SymbolStart → ℕ
since_of m = int_gap (neg_ℤ (pos (2 ^ 57))) m.start.0

abbrev frame_of : SymbolStart → ℕ
frame_of m = int_gap (neg_ℤ (pos (2 ^ 21))) m.slot.frame

abbrev number_of : SymbolStart → ℕ
number_of m = number (since_of m) m.ep (frame_of m) m.slot.subframe m.slot.slot m.symbol

module _ (a b : SymbolStart) (ra : IsRanked a) (rb : IsRanked b) where
  small : frame_of a < 2 ^ 22
  small = frame_small a.slot.frame ra.frame_low ra.frame_high

  from_start : a.start.0 <ℤ b.start.0 → number_of a < number_of b
  from_start h =
      by_start (since_of a) a.ep (frame_of a) a.slot.subframe a.slot.slot a.symbol (since_of b) b.ep (frame_of b) b.slot.subframe b.slot.slot b.symbol
      ra.ep small ra.subframe ra.slot ra.symbol (gap_lesser (neg_ℤ (pos (2 ^ 57))) a.start.0 b.start.0 ra.low h)

  from_ep : since_of a ≡ since_of b → a.ep < b.ep → number_of a < number_of b
  from_ep s h =
      omega (arith, s, by_ep (since_of a) a.ep (frame_of a) a.slot.subframe a.slot.slot a.symbol b.ep (frame_of b) b.slot.subframe b.slot.slot b.symbol small ra.subframe ra.slot ra.symbol h)

  from_frame : since_of a ≡ since_of b → a.ep ≡ b.ep → a.slot.frame <ℤ b.slot.frame → number_of a < number_of b
  from_frame s e h =
      omega (
        arith,
        s,
        e,
        by_frame (since_of a) a.ep (frame_of a) a.slot.subframe a.slot.slot a.symbol (frame_of b) b.slot.subframe b.slot.slot b.symbol ra.subframe ra.slot ra.symbol
            (gap_lesser (neg_ℤ (pos (2 ^ 21))) a.slot.frame b.slot.frame ra.frame_low h),
      )

  from_subframe : since_of a ≡ since_of b → a.ep ≡ b.ep → frame_of a ≡ frame_of b → a.slot.subframe < b.slot.subframe → number_of a < number_of b
  from_subframe s e f h =
      omega (arith, s, e, f, by_subframe (since_of a) a.ep (frame_of a) a.slot.subframe a.slot.slot a.symbol b.slot.subframe b.slot.slot b.symbol ra.slot ra.symbol h)

  from_slot : since_of a ≡ since_of b → a.ep ≡ b.ep → frame_of a ≡ frame_of b → a.slot.subframe ≡ b.slot.subframe → a.slot.slot < b.slot.slot → number_of a < number_of b
  from_slot s e f g h =
      omega (arith, s, e, f, g, by_slot (since_of a) a.ep (frame_of a) a.slot.subframe a.slot.slot a.symbol b.slot.slot b.symbol ra.symbol h)

  from_symbol : since_of a ≡ since_of b → a.ep ≡ b.ep → a.slot ≡ b.slot → a.symbol < b.symbol → number_of a < number_of b
  from_symbol s e t h =
      let f : frame_of a ≡ frame_of b = ap (λ (x : Slot). int_gap (neg_ℤ (pos (2 ^ 21))) x.frame) t in
      let g : a.slot.subframe ≡ b.slot.subframe = ap (λ (x : Slot). x.subframe) t in
      let k : a.slot.slot ≡ b.slot.slot = ap (λ (x : Slot). x.slot) t in
      omega (arith, s, e, f, g, k, by_symbol (since_of a) a.ep (frame_of a) a.slot.subframe a.slot.slot a.symbol b.symbol h)

  in_frame : since_of a ≡ since_of b → a.ep ≡ b.ep → frame_of a ≡ frame_of b
      → (nat_lt a.slot.subframe b.slot.subframe || ((a.slot.subframe == b.slot.subframe) && nat_lt a.slot.slot b.slot.slot)) ≡ true → number_of a < number_of b
  in_frame s e f h = elim (or_cases (nat_lt a.slot.subframe b.slot.subframe) (a.slot.subframe == b.slot.subframe) (nat_lt a.slot.slot b.slot.slot) h) [
    | inl less ↦ from_subframe s e f (ltb-true a.slot.subframe b.slot.subframe less)
    | inr k ↦ from_slot s e f (eqb-true a.slot.subframe b.slot.subframe k.0) (ltb-true a.slot.slot b.slot.slot k.1)
  ]

  in_slots : since_of a ≡ since_of b → a.ep ≡ b.ep → slot_before a.slot b.slot ≡ true → number_of a < number_of b
  in_slots s e h = elim (or_cases (int_lt a.slot.frame b.slot.frame) (int_eq a.slot.frame b.slot.frame) _ h) [
    | inl less ↦ from_frame s e (under a.slot.frame b.slot.frame less)
    | inr k ↦ in_frame s e (gap_same (neg_ℤ (pos (2 ^ 21))) a.slot.frame b.slot.frame (same_z a.slot.frame b.slot.frame k.0)) k.1
  ]

  in_endpoint : since_of a ≡ since_of b → a.ep ≡ b.ep → symbol_before a.slot a.symbol b.slot b.symbol ≡ true → number_of a < number_of b
  in_endpoint s e h = elim (or_cases (slot_before a.slot b.slot) (same_slot a.slot b.slot) (nat_lt a.symbol b.symbol) h) [
    | inl less ↦ in_slots s e less
    | inr k ↦ from_symbol s e (slots_equal a.slot b.slot k.0) (ltb-true a.symbol b.symbol k.1)
  ]

  in_tick : since_of a ≡ since_of b → (nat_lt a.ep b.ep || ((a.ep == b.ep) && symbol_before a.slot a.symbol b.slot b.symbol)) ≡ true → number_of a < number_of b
  in_tick s h = elim (or_cases (nat_lt a.ep b.ep) (a.ep == b.ep) (symbol_before a.slot a.symbol b.slot b.symbol) h) [
    | inl less ↦ from_ep s (ltb-true a.ep b.ep less)
    | inr k ↦ in_endpoint s (eqb-true a.ep b.ep k.0) k.1
  ]

  pub rank_rises : comes_before a b ≡ true → rank_of a < rank_of b
  unfolding rank_of
  rank_rises h = elim (or_cases (int_lt a.start.0 b.start.0) (int_eq a.start.0 b.start.0) _ h) [
    | inl less ↦ from_start (under a.start.0 b.start.0 less)
    | inr k ↦ in_tick (gap_same (neg_ℤ (pos (2 ^ 57))) a.start.0 b.start.0 (same_z a.start.0 b.start.0 k.0)) k.1
  ]

pub rank_below : (m : SymbolStart) (to : ℤ) → IsRanked m → m.start.0 ≤ℤ to → rank_of m < rank_past to
unfolding rank_of rank_past
rank_below m to r order =
    past (since_of m) m.ep (frame_of m) m.slot.subframe m.slot.slot m.symbol (int_gap (neg_ℤ (pos (2 ^ 57))) to) r.ep
    (frame_small m.slot.frame r.frame_low r.frame_high) r.subframe r.slot r.symbol (gap_at_most (neg_ℤ (pos (2 ^ 57))) m.start.0 to r.low order)
