-- Slots in their order, and the times from one to another.
use Rattle.std.proofs.Common.{◌≡◌, ◌≢◌, ℕ, ℤ, pos, negsuc, zero, suc, ◌+◌, ◌-◌, ◌*◌, ◌/◌, ◌^◌, ◌<◌, ◌≤◌, ◌+ℤ◌, ◌-ℤ◌, ◌*ℤ◌, ◌≤ℤ◌, neg_ℤ, refl, sym, ◌∙◌, arith, ◌⊎◌, inl, inr}
use Rattle.std.proofs.lemmas.Int.{ints}
use Rattle.std.proofs.Math.IntN.{suc_ℤ, suc_ℤ-*ℤ, zero-*ℤ, pos-*ℤ-pos}
use Rattle.std.proofs.Math.Nat.{mul-le-mul_left, mul-le-mul_right}
use Rattle.std.proofs.lemmas.Bool.Decides.{nat_tests}
use Rattle.fh_base.specs.declared.kind.Kind.{Kind}
use Rattle.fh_base.specs.declared.kind.Kind.TheVariants.{Ordinary, Offset, Extended}
use Rattle.fh_base.specs.declared.numerology.Numerology.{Numerology}
use Rattle.fh_base.specs.declared.spacing.Spacing.{Spacing}
use Rattle.fh_base.specs.declared.spacing.Spacing.TheVariants.{Khz15, Khz30, Khz60, Khz120, Khz240, Khz1x25, Khz5}
use Rattle.fh_base.specs.declared.values.Slot.{Slot}
use Rattle.fh_base.specs.Spacing.{exponent_of}
use Rattle.fh_base.specs.Symbols.{ticks_of_ts, longer_before, normal_start, prefixed}
use Rattle.fh_base.specs.Kinds.{kind_start, kind_slots, kind_symbols, kind_least_slot, kind_span}
use Rattle.fh_base.specs.Numbering.{slots_of, symbols_of, slot_number, IsSlotOf}
use Rattle.fh_base.specs.Air.{air_of, least_slot_of, span_of, AreApart}
use Rattle.fh_base.specs.declared.frames.TheConstants.{FRAME}
use Rattle.fh_base.specs.declared.symbols.TheConstants.{SLOT_SYMBOLS, SUBFRAME}

-- a longer symbol that is before a symbol is before each later one
pub longer_order : (symbol i j : ℕ) → i ≤ j → longer_before symbol i ≤ longer_before symbol j
longer_order symbol i j o = grind (arith, nat_tests)

longer_most : (symbol i : ℕ) → longer_before symbol i ≤ 800000
longer_most symbol i = grind (arith, nat_tests)

-- one slot of a subframe starts so many slots after another, or more
normal_later : (u s t i j x y p q : ℕ) → u ≤ 4 → s ≤ t → i ≡ SLOT_SYMBOLS * s → j ≡ SLOT_SYMBOLS * t → x ≤ y → p ≤ q
    → ticks_of_ts (i * 2192) / 2 ^ u + x + p + (t - s) * (ticks_of_ts (SLOT_SYMBOLS * 2192) / 2 ^ u) ≤ ticks_of_ts (j * 2192) / 2 ^ u + y + q
normal_later zero s t i j x y p q h o e f a b = omega arith
normal_later (suc zero) s t i j x y p q h o e f a b = omega arith
normal_later (suc (suc zero)) s t i j x y p q h o e f a b = omega arith
normal_later (suc (suc (suc zero))) s t i j x y p q h o e f a b = omega arith
normal_later (suc (suc (suc (suc zero)))) s t i j x y p q h o e f a b = omega arith
normal_later (suc (suc (suc (suc (suc u))))) s t i j x y p q h o e f a b = absurd (omega arith)

-- and all that are left fit into the subframe
normal_left : (u s i x p : ℕ) → u ≤ 4 → s < 2 ^ u → i ≡ SLOT_SYMBOLS * s → x ≤ 800000 → p ≤ 800000
    → ticks_of_ts (i * 2192) / 2 ^ u + x + p + (2 ^ u - s) * (ticks_of_ts (SLOT_SYMBOLS * 2192) / 2 ^ u) ≤ SUBFRAME
normal_left zero s i x p h o e a b = omega arith
normal_left (suc zero) s i x p h o e a b = omega arith
normal_left (suc (suc zero)) s i x p h o e a b = omega arith
normal_left (suc (suc (suc zero))) s i x p h o e a b = omega arith
normal_left (suc (suc (suc (suc zero)))) s i x p h o e a b = omega arith
normal_left (suc (suc (suc (suc (suc u))))) s i x p h o e a b = absurd (omega arith)

exponent_small : (spacing : Spacing) → exponent_of spacing ≤ 4
exponent_small Khz15 = omega arith
exponent_small Khz30 = omega arith
exponent_small Khz60 = omega arith
exponent_small Khz120 = omega arith
exponent_small Khz240 = omega arith
exponent_small Khz1x25 = omega arith
exponent_small Khz5 = omega arith

-- at every spacing
spacing_later : (spacing : Spacing) (s t i j : ℕ) → s ≤ t → i ≡ SLOT_SYMBOLS * s → j ≡ SLOT_SYMBOLS * t
    → normal_start (exponent_of spacing) i + (t - s) * (ticks_of_ts (SLOT_SYMBOLS * 2192) / 2 ^ exponent_of spacing) ≤ normal_start (exponent_of spacing) j
spacing_later spacing s t i j o e f =
    normal_later (exponent_of spacing) s t i j _ _ _ _ (exponent_small spacing) o e f
    (longer_order 0 i j (omega arith)) (longer_order (7 * 2 ^ exponent_of spacing) i j (omega arith))

spacing_left : (spacing : Spacing) (s i : ℕ) → s < 2 ^ exponent_of spacing → i ≡ SLOT_SYMBOLS * s
    → normal_start (exponent_of spacing) i + (2 ^ exponent_of spacing - s) * (ticks_of_ts (SLOT_SYMBOLS * 2192) / 2 ^ exponent_of spacing) ≤ SUBFRAME
spacing_left spacing s i o e =
    normal_left (exponent_of spacing) s i _ _ (exponent_small spacing) o e (longer_most 0 i) (longer_most (7 * 2 ^ exponent_of spacing) i)

-- both with an offset
moved : (a b k m x : ℕ) → a + k ≤ b → a + m + 0 * x + k ≤ b + m + 0 * x
moved a b k m x h = omega arith

room : (a b k m n : ℕ) → a + k ≤ n → a + m + k ≤ n + (b + m)
room a b k m n h = omega arith

moved_room : (a b k m n x : ℕ) → a + k ≤ n → a + m + 0 * x + k ≤ n + (b + m + 0 * x)
moved_room a b k m n x h = omega arith

-- the same of the slots of any kind of endpoint
pub kind_later : (kind : Kind) (s t : ℕ) → s ≤ t → kind_start kind s 0 + (t - s) * kind_least_slot kind ≤ kind_start kind t 0
kind_later (Ordinary spacing) s t o = spacing_later spacing s t (SLOT_SYMBOLS * s + 0) (SLOT_SYMBOLS * t + 0) o (omega arith) (omega arith)
kind_later (Offset spacing time_offset cp_length) s t o =
    moved _ _ _ _ (prefixed spacing cp_length) (spacing_later spacing s t (SLOT_SYMBOLS * s) (SLOT_SYMBOLS * t) o refl refl)
kind_later Extended s t o = omega arith

pub kind_left : (kind : Kind) (s : ℕ) → s < kind_slots kind
    → kind_start kind s 0 + (kind_slots kind - s) * kind_least_slot kind ≤ SUBFRAME + kind_start kind 0 0
kind_left (Ordinary spacing) s o = at_most_more _ (spacing_left spacing s (SLOT_SYMBOLS * s + 0) o (omega arith))
  where
    at_most_more : {a b : ℕ} (c : ℕ) → a ≤ b → a ≤ b + c
    at_most_more c h = omega arith
kind_left (Offset spacing time_offset cp_length) s o =
    moved_room _ (normal_start (exponent_of spacing) (SLOT_SYMBOLS * 0)) _ _ _ (prefixed spacing cp_length) (spacing_left spacing s (SLOT_SYMBOLS * s) o refl)
kind_left Extended s o = omega arith

pub kind_has_slots : (kind : Kind) → 0 < kind_slots kind
kind_has_slots (Ordinary spacing) = grind arith
kind_has_slots (Offset spacing time_offset cp_length) = grind arith
kind_has_slots Extended = omega arith

-- a slot's symbols start within its span
normal_covers : (u i j m x y p q : ℕ) → u ≤ 4 → m < SLOT_SYMBOLS → j ≡ i + m → x ≤ y + 800000 → p ≤ q + 800000
    → ticks_of_ts (j * 2192) / 2 ^ u + x + p ≤ ticks_of_ts (i * 2192) / 2 ^ u + y + q + (ticks_of_ts (13 * 2192) / 2 ^ u + ticks_of_ts 32)
normal_covers zero i j m x y p q h o e a b = omega arith
normal_covers (suc zero) i j m x y p q h o e a b = omega arith
normal_covers (suc (suc zero)) i j m x y p q h o e a b = omega arith
normal_covers (suc (suc (suc zero))) i j m x y p q h o e a b = omega arith
normal_covers (suc (suc (suc (suc zero)))) i j m x y p q h o e a b = omega arith
normal_covers (suc (suc (suc (suc (suc u))))) i j m x y p q h o e a b = absurd (omega arith)

under : (a b c : ℕ) → a ≤ b → a ≤ c + b
under a b c h = omega arith

times_more : (m x : ℕ) → m < SLOT_SYMBOLS → m * x ≤ 13 * x
times_more m x h = grind arith

offset_covers : (a m x : ℕ) → m < SLOT_SYMBOLS → a + m * x ≤ a + 0 * x + 13 * x
offset_covers a m x h = omega (arith, times_more m x h)

pub kind_covers : (kind : Kind) (s m : ℕ) → m < kind_symbols kind → kind_start kind s m ≤ kind_start kind s 0 + kind_span kind
kind_covers (Ordinary spacing) s m o =
    normal_covers (exponent_of spacing) (SLOT_SYMBOLS * s + 0) (SLOT_SYMBOLS * s + m) m _ _ _ _ (exponent_small spacing) o (omega arith)
    (under _ _ _ (longer_most 0 (SLOT_SYMBOLS * s + m))) (under _ _ _ (longer_most (7 * 2 ^ exponent_of spacing) (SLOT_SYMBOLS * s + m)))
kind_covers (Offset spacing time_offset cp_length) s m o = offset_covers _ m _ o
kind_covers Extended s m o = omega arith

air_covers : (f : ℤ) (b x y k : ℕ) → x ≤ y + k → (f *ℤ FRAME +ℤ pos (b + x)) ≤ℤ (f *ℤ FRAME +ℤ pos (b + y) +ℤ pos k)
air_covers f b x y k h = omega (arith, ints)

-- a slot's symbols start within its span
pub symbol_in_span : (n : Numerology) (slot : Slot) (symbol : ℕ) → symbol < symbols_of n → air_of n slot symbol ≤ℤ (air_of n slot 0 +ℤ pos (span_of n))
symbol_in_span n slot symbol o = air_covers slot.frame _ _ _ _ (kind_covers n.kind slot.slot symbol o)

pub next_ℤ : (z : ℤ) → suc_ℤ z ≡ z +ℤ pos 1
next_ℤ (pos n) = omega (arith, ints)
next_ℤ (negsuc zero) = refl
next_ℤ (negsuc (suc n)) = omega (arith, ints)

pub times_later : (a k : ℤ) (m : ℕ) → (a +ℤ pos m) *ℤ k ≡ a *ℤ k +ℤ pos m *ℤ k
times_later a k zero =
    let here : a +ℤ pos 0 ≡ a = omega (arith, ints) in
    rw here (rw (zero-*ℤ k) (omega (arith, ints)))
times_later a k (suc m) =
    let here : a +ℤ pos (suc m) ≡ suc_ℤ (a +ℤ pos m) = rw (next_ℤ (a +ℤ pos m)) (omega (arith, ints)) in
    let there : pos (suc m) ≡ suc_ℤ (pos m) = rw (next_ℤ (pos m)) (omega (arith, ints)) in
    rw here (rw there (rw (suc_ℤ-*ℤ (a +ℤ pos m) k) (rw (suc_ℤ-*ℤ (pos m) k) (omega (arith, ints, times_later a k m)))))

-- which of two numbers is the greater, and by how much
compare_ℤ : (a b z : ℤ) → z ≡ b -ℤ a → ((m : ℕ) × (b ≡ a +ℤ pos m)) ⊎ ((m : ℕ) × (a ≡ b +ℤ pos (suc m)))
compare_ℤ a b (pos m) e = inl (m, omega (arith, ints))
compare_ℤ a b (negsuc m) e = inr (m, omega (arith, ints))

three_parts : (m n k t l : ℕ) → (m * n + k + t) * l ≡ m * (n * l) + k * l + t * l
three_parts m n k t l = grind arith

-- so many slots later, in the same subframe or in the m-th after it
steps : (m n l s t o p r d : ℕ) → s < n → (s ≤ t → o + (t - s) * l ≤ p) → o + (n - s) * l ≤ SUBFRAME + r → r + t * l ≤ p
    → n * l ≤ SUBFRAME → m * n + t ≡ s + d → o + d * l ≤ m * SUBFRAME + p
steps zero n l s t o p r d below same left first whole e =
    let later : s ≤ t = omega arith in
    let d_is : d ≡ t - s = omega arith in
    rw d_is (omega (arith, same later))
steps (suc m) n l s t o p r d below same left first whole e =
    let more : suc m * n ≡ m * n + n = grind arith in
    let d_is : d ≡ m * n + (n - s) + t = omega arith in
    let grow : m * (n * l) ≤ m * SUBFRAME = mul-le-mul_left m whole in
    rw d_is (rw (three_parts m n (n - s) t l) (omega arith))

from_first : (a n l b : ℕ) → a + (n - 0) * l ≤ b → a + n * l ≤ b
from_first a n l b h =
    let all : n - 0 ≡ n = omega arith in
    rw all at h

whole_subframe : (kind : Kind) → kind_slots kind * kind_least_slot kind ≤ SUBFRAME
whole_subframe kind =
    let left = from_first _ _ _ _ (kind_left kind 0 (kind_has_slots kind)) in
    grind arith

-- the number of a subframe in the order of subframes
abbrev subframe_number : Slot → ℤ
subframe_number s = s.frame *ℤ pos 10 +ℤ pos s.subframe

-- so many slots on, so many subframes on
in_numbers : (a b : ℤ) (m n s t : ℕ) (d : ℤ) → b ≡ a +ℤ pos m → b *ℤ pos n +ℤ pos t ≡ a *ℤ pos n +ℤ pos s +ℤ d → pos (m * n + t) ≡ pos s +ℤ d
in_numbers a b m n s t d b_is e =
    let apart : b *ℤ pos n ≡ a *ℤ pos n +ℤ pos (m * n) = rw b_is (rw (times_later a (pos n) m) (rw (pos-*ℤ-pos m n) refl)) in
    omega (arith, ints)

not_back : (m n s t d : ℕ) → t < n → pos (suc m * n + s) ≡ pos t +ℤ neg_ℤ (pos d) → ⊥
not_back m n s t d h e =
    let more : suc m * n ≡ m * n + n = grind arith in
    omega (arith, ints)

in_air : (f g : ℤ) (s t o p m k : ℕ) → g *ℤ pos 10 +ℤ pos t ≡ f *ℤ pos 10 +ℤ pos s +ℤ pos m → o + k ≤ m * SUBFRAME + p
    → (f *ℤ FRAME +ℤ pos (s * SUBFRAME + o) +ℤ pos k) ≤ℤ (g *ℤ FRAME +ℤ pos (t * SUBFRAME + p))
in_air f g s t o p m k e h = omega (arith, ints)

-- a slot that is so many later starts so many shortest slots later, or more
pub later_by : (n : Numerology) (a b : Slot) (d : ℕ) → IsSlotOf n a → IsSlotOf n b → slot_number n b ≡ slot_number n a +ℤ pos d
    → (air_of n a 0 +ℤ pos (d * least_slot_of n)) ≤ℤ air_of n b 0
later_by n a b d is_a is_b e =
    elim (compare_ℤ (subframe_number a) (subframe_number b) _ refl) [
      | inl w ↦
          let count : w.0 * slots_of n + b.slot ≡ a.slot + d =
          let in_ℤ = in_numbers (subframe_number a) (subframe_number b) w.0 (slots_of n) a.slot b.slot (pos d) w.1 e in
          omega (arith, ints) in
          in_air a.frame b.frame a.subframe b.subframe _ _ w.0 _ w.1
          (steps w.0 (slots_of n) (least_slot_of n) a.slot b.slot _ _ (kind_start n.kind 0 0) d is_a.slot
          (kind_later n.kind a.slot b.slot)
          (kind_left n.kind a.slot is_a.slot)
          (from_first _ _ _ _ (kind_later n.kind 0 b.slot (omega arith)))
          (whole_subframe n.kind)
          count)
      | inr w ↦
          absurd (not_back w.0 (slots_of n) a.slot b.slot d is_b.slot
          (in_numbers (subframe_number b) (subframe_number a) (suc w.0) (slots_of n) b.slot a.slot (neg_ℤ (pos d)) w.1 (omega (arith, ints))))
    ]

abbrev slot_at : ℤ → ℕ → ℕ → Slot
slot_at f s t = record { frame = f; subframe = s; slot = t }

pub same_fields : (a b : Slot) → a.frame ≡ b.frame → a.subframe ≡ b.subframe → a.slot ≡ b.slot → a ≡ b
same_fields a b p q r =
    let same : slot_at a.frame a.subframe a.slot ≡ slot_at b.frame b.subframe b.slot = rw (p, q, r) refl in
    same

first_of_none : (m n s t : ℕ) → s < n → m * n + t ≡ s → (m ≡ 0) × (t ≡ s)
first_of_none zero n s t h e = (refl, omega arith)
first_of_none (suc m) n s t h e =
    let more : suc m * n ≡ m * n + n = grind arith in
    absurd (omega arith)

-- a slot of an endpoint is known by its number
pub same_slot : (n : Numerology) (a b : Slot) → IsSlotOf n a → IsSlotOf n b → slot_number n b ≡ slot_number n a → b ≡ a
same_slot n a b is_a is_b e =
    elim (compare_ℤ (subframe_number a) (subframe_number b) _ refl) [
      | inl w ↦
          let in_ℤ = in_numbers (subframe_number a) (subframe_number b) w.0 (slots_of n) a.slot b.slot (pos 0) w.1 (omega (arith, ints)) in
          let none = first_of_none w.0 (slots_of n) a.slot b.slot is_a.slot (omega (arith, ints)) in
          let here : subframe_number b ≡ subframe_number a = omega (arith, ints, none.0, w.1) in
          let frames : b.frame ≡ a.frame = omega (arith, ints, is_a.subframe, is_b.subframe) in
          same_fields b a frames (omega (arith, ints)) none.1
      | inr w ↦
          absurd (not_back w.0 (slots_of n) a.slot b.slot 0 is_b.slot
          (in_numbers (subframe_number b) (subframe_number a) (suc w.0) (slots_of n) b.slot a.slot (neg_ℤ (pos 0)) w.1 (omega (arith, ints))))
    ]

one_of_many : (d l : ℕ) → l ≤ suc d * l
one_of_many d l = grind arith

apart_by_number : (n : Numerology) (a b : Slot) (z : ℤ) → IsSlotOf n a → IsSlotOf n b → a ≢ b → z ≡ slot_number n b -ℤ slot_number n a
    → AreApart (least_slot_of n) (air_of n a 0) (air_of n b 0)
apart_by_number n a b (pos zero) is_a is_b other e = absurd (other (sym (same_slot n a b is_a is_b (omega (arith, ints)))))
apart_by_number n a b (pos (suc d)) is_a is_b other e =
    let later = later_by n a b (suc d) is_a is_b (omega (arith, ints)) in
    let one = one_of_many d (least_slot_of n) in
    inl (omega (arith, ints, later, one))
apart_by_number n a b (negsuc d) is_a is_b other e =
    let later = later_by n b a (suc d) is_b is_a (omega (arith, ints)) in
    let one = one_of_many d (least_slot_of n) in
    inr (omega (arith, ints, later, one))

-- two slots start so far apart
pub slots_apart : (n : Numerology) (a b : Slot) → IsSlotOf n a → IsSlotOf n b → a ≢ b → AreApart (least_slot_of n) (air_of n a 0) (air_of n b 0)
slots_apart n a b is_a is_b other = apart_by_number n a b _ is_a is_b other refl

-- the next slot of the same subframe
pub next_in_subframe : (n : Numerology) (a : Slot) (frame : ℤ) → frame ≡ a.frame
    → slot_number n (record { frame = frame; subframe = a.subframe; slot = a.slot + 1 }) ≡ slot_number n a +ℤ pos 1
next_in_subframe n a frame e = rw e (omega (arith, ints))

-- the first slot of a subframe is after the last of the one before it
pub next_subframe : (n : Numerology) (a : Slot) (frame : ℤ) (subframe : ℕ) → a.slot < slots_of n → slots_of n ≤ a.slot + 1
    → frame *ℤ pos 10 +ℤ pos subframe ≡ a.frame *ℤ pos 10 +ℤ pos a.subframe +ℤ pos 1
    → slot_number n (record { frame = frame; subframe = subframe; slot = 0 }) ≡ slot_number n a +ℤ pos 1
next_subframe n a frame subframe is_a last e =
    let apart : (frame *ℤ pos 10 +ℤ pos subframe) *ℤ pos (slots_of n) ≡ subframe_number a *ℤ pos (slots_of n) +ℤ pos (1 * slots_of n) =
    rw e (rw (times_later (subframe_number a) (pos (slots_of n)) 1) (rw (pos-*ℤ-pos 1 (slots_of n)) refl)) in
    omega (arith, ints)

-- no other slot is the next
pub only_next : (n : Numerology) (a b : Slot) → IsSlotOf n b → slot_number n b ≡ slot_number n a +ℤ pos 1
    → (other : Slot) → IsSlotOf n other → slot_number n other ≡ slot_number n a +ℤ pos 1 → other ≡ b
only_next n a b is_b b_is other is_other other_is = same_slot n b other is_b is_other (other_is ∙ sym b_is)

power_few : (u : ℕ) → u ≤ 4 → 2 ^ u ≤ 16
power_few zero h = omega arith
power_few (suc zero) h = omega arith
power_few (suc (suc zero)) h = omega arith
power_few (suc (suc (suc zero))) h = omega arith
power_few (suc (suc (suc (suc zero)))) h = omega arith
power_few (suc (suc (suc (suc (suc u))))) h = absurd (omega arith)

kind_slots_few : (kind : Kind) → (0 < kind_slots kind) × (kind_slots kind ≤ 16)
kind_slots_few (Ordinary spacing) = (kind_has_slots (Ordinary spacing), power_few (exponent_of spacing) (exponent_small spacing))
kind_slots_few (Offset spacing time_offset cp_length) =
    (kind_has_slots (Offset spacing time_offset cp_length), power_few (exponent_of spacing) (exponent_small spacing))
kind_slots_few Extended = (omega arith, omega arith)

kind_symbols_few : (kind : Kind) → (0 < kind_symbols kind) × (kind_symbols kind ≤ SLOT_SYMBOLS)
kind_symbols_few (Ordinary spacing) = (omega arith, omega arith)
kind_symbols_few (Offset spacing time_offset cp_length) = (omega arith, omega arith)
kind_symbols_few Extended = (omega arith, omega arith)

normal_in_order : (u i j x y p q : ℕ) → u ≤ 4 → i ≤ j → x ≤ y → p ≤ q
    → ticks_of_ts (i * 2192) / 2 ^ u + x + p ≤ ticks_of_ts (j * 2192) / 2 ^ u + y + q
normal_in_order zero i j x y p q h o a b = omega arith
normal_in_order (suc zero) i j x y p q h o a b = omega arith
normal_in_order (suc (suc zero)) i j x y p q h o a b = omega arith
normal_in_order (suc (suc (suc zero))) i j x y p q h o a b = omega arith
normal_in_order (suc (suc (suc (suc zero)))) i j x y p q h o a b = omega arith
normal_in_order (suc (suc (suc (suc (suc u))))) i j x y p q h o a b = absurd (omega arith)

more_times : (a i j x : ℕ) → i ≤ j → a + i * x ≤ a + j * x
more_times a i j x o = omega (arith, mul-le-mul_right x o)

kind_in_order : (kind : Kind) (s i j : ℕ) → i ≤ j → kind_start kind s i ≤ kind_start kind s j
kind_in_order (Ordinary spacing) s i j o =
    let later : SLOT_SYMBOLS * s + i ≤ SLOT_SYMBOLS * s + j = omega arith in
    normal_in_order (exponent_of spacing) (SLOT_SYMBOLS * s + i) (SLOT_SYMBOLS * s + j) _ _ _ _ (exponent_small spacing) later
    (longer_order 0 _ _ later) (longer_order (7 * 2 ^ exponent_of spacing) _ _ later)
kind_in_order (Offset spacing time_offset cp_length) s i j o = more_times _ i j _ o
kind_in_order Extended s i j o = omega arith

air_in_order : (f : ℤ) (b x y : ℕ) → x ≤ y → (f *ℤ FRAME +ℤ pos (b + x)) ≤ℤ (f *ℤ FRAME +ℤ pos (b + y))
air_in_order f b x y h = omega (arith, ints)

-- what callers know of every numerology
pub slots_few : (n : Numerology) → (0 < slots_of n) × (slots_of n ≤ 16)
slots_few n = kind_slots_few n.kind

pub symbols_few : (n : Numerology) → (0 < symbols_of n) × (symbols_of n ≤ SLOT_SYMBOLS)
symbols_few n = kind_symbols_few n.kind

-- a later symbol of a slot does not start before an earlier one
pub symbols_in_order : (n : Numerology) (slot : Slot) (i j : ℕ) → i ≤ j → air_of n slot i ≤ℤ air_of n slot j
symbols_in_order n slot i j o = air_in_order slot.frame _ _ _ (kind_in_order n.kind slot.slot i j o)
