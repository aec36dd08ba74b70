-- Which symbols are told before others.
use Rattle.std.proofs.Common.{◌≡◌, ℕ, ℤ, ◌<◌, ◌<ℤ◌, Bool, true, false, ◌&&◌, ◌||◌, refl, arith}
use Rattle.std.specs.Prelude.{◌==◌, nat_lt, int_lt}
use Rattle.std.specs.Ordering.{int_eq}
use Rattle.std.proofs.lemmas.Bool.{and_from, eq-eqb, lt-ltb, or_left, or_right}
use Rattle.fh_base.specs.declared.values.Slot.{Slot}
use Rattle.unit_model.specs.Claims.{same_slot}
use Rattle.unit_model.specs.Order.{comes_before, slot_before, symbol_before}
use Rattle.unit_model.specs.declared.symbol_start.SymbolStart.{SymbolStart}
use Rattle.std.proofs.lemmas.Bool.Decides.{nat_tests}
use Rattle.std.proofs.lemmas.Int.{ints}
use Rattle.unit_model.proofs.ClaimLemmas.{same_slot_is}
use Rattle.fh_base.proofs.Orders.{under_is as is_less, is_same}

-- slots of which none is before the other
pub slot_cases : (a b : Slot) → slot_before a b ≡ false → slot_before b a ≡ false → same_slot a b ≡ true
slot_cases a b h k = grind (arith, ints)

-- ---- of one endpoint

pub frame_before : (a b : Slot) (x y : ℕ) → a.frame <ℤ b.frame → symbol_before a x b y ≡ true
frame_before a b x y h = or_left (slot_before a b) _ (or_left (int_lt a.frame b.frame) _ (is_less a.frame b.frame h))

pub subframe_before : (a b : Slot) (x y : ℕ) → a.frame ≡ b.frame → a.subframe < b.subframe → symbol_before a x b y ≡ true
subframe_before a b x y frame h =
    or_left (slot_before a b) _
    (or_right (int_lt a.frame b.frame) _
    (and_from (int_eq a.frame b.frame) _ (is_same a.frame b.frame frame) (or_left (nat_lt a.subframe b.subframe) _ (lt-ltb a.subframe b.subframe h))))

pub slot_comes_before : (a b : Slot) (x y : ℕ) → a.frame ≡ b.frame → a.subframe ≡ b.subframe → a.slot < b.slot → symbol_before a x b y ≡ true
slot_comes_before a b x y frame subframe h =
    or_left (slot_before a b) _
    (or_right (int_lt a.frame b.frame) _
    (and_from (int_eq a.frame b.frame) _ (is_same a.frame b.frame frame)
    (or_right (nat_lt a.subframe b.subframe) _
    (and_from (a.subframe == b.subframe) (nat_lt a.slot b.slot) (eq-eqb a.subframe b.subframe subframe) (lt-ltb a.slot b.slot h)))))

pub symbol_comes_before : (a : Slot) (x y : ℕ) → x < y → symbol_before a x a y ≡ true
symbol_comes_before a x y h =
    or_right (slot_before a a) _
    (and_from (same_slot a a) (nat_lt x y)
    (and_from (int_eq a.frame a.frame) _ (is_same a.frame a.frame refl)
    (and_from (a.subframe == a.subframe) (a.slot == a.slot) (eq-eqb a.subframe a.subframe refl) (eq-eqb a.slot a.slot refl)))
    (lt-ltb x y h))

-- ---- of all endpoints

pub endpoint_before : (a b : SymbolStart) → a.start.0 ≡ b.start.0 → a.ep < b.ep → comes_before a b ≡ true
endpoint_before a b start h =
    or_right (int_lt a.start.0 b.start.0) _
    (and_from (int_eq a.start.0 b.start.0) _ (is_same a.start.0 b.start.0 start) (or_left (nat_lt a.ep b.ep) _ (lt-ltb a.ep b.ep h)))

pub own_before : (a b : SymbolStart) → a.start.0 ≡ b.start.0 → a.ep ≡ b.ep → symbol_before a.slot a.symbol b.slot b.symbol ≡ true → comes_before a b ≡ true
own_before a b start ep h =
    or_right (int_lt a.start.0 b.start.0) _
    (and_from (int_eq a.start.0 b.start.0) _ (is_same a.start.0 b.start.0 start)
    (or_right (nat_lt a.ep b.ep) _
    (and_from (a.ep == b.ep) (symbol_before a.slot a.symbol b.slot b.symbol) (eq-eqb a.ep b.ep ep) h)))

-- ---- neither of two precedes the other

symbol_cases : (a b : Slot) (x y : ℕ) → symbol_before a x b y ≡ false → symbol_before b y a x ≡ false → (same_slot a b ≡ true) × (x ≡ y)
symbol_cases a b x y h k =
    let same = slot_cases a b (first_of_two (slot_before a b) _ h) (first_of_two (slot_before b a) _ k) in
    let back = slot_cases b a (first_of_two (slot_before b a) _ k) (first_of_two (slot_before a b) _ h) in
    (same, no_other x y (second_of_two (slot_before a b) (same_slot a b) (nat_lt x y) h same) (second_of_two (slot_before b a) (same_slot b a) (nat_lt y x) k back))
  where
    first_of_two : (p q : Bool) → (p || q) ≡ false → p ≡ false
    first_of_two false q e = refl
    first_of_two true q e = e

    second_of_two : (p q r : Bool) → (p || (q && r)) ≡ false → q ≡ true → r ≡ false
    second_of_two false true r e f = e
    second_of_two false false r e f = cc
    second_of_two true q r e f = cc

    no_other : (m n : ℕ) → nat_lt m n ≡ false → nat_lt n m ≡ false → m ≡ n
    no_other m n e f = grind (arith, nat_tests)

-- two symbols of which neither precedes the other
pub record IsSamePlace (a b : SymbolStart) : Type 0 where
  pub ep : a.ep ≡ b.ep
  pub slot_is : a.slot ≡ b.slot
  pub symbol : a.symbol ≡ b.symbol

start_cases : (s t : ℤ) (p q : Bool) → (int_lt s t || (int_eq s t && p)) ≡ false → (int_lt t s || (int_eq t s && q)) ≡ false → (p ≡ false) × (q ≡ false)
start_cases s t true q h k = grind (arith, ints)
start_cases s t false true h k = grind (arith, ints)
start_cases s t false false h k = (refl, refl)

ep_cases : (i j : ℕ) (p q : Bool) → (nat_lt i j || ((i == j) && p)) ≡ false → (nat_lt j i || ((j == i) && q)) ≡ false → (i ≡ j) × ((p ≡ false) × (q ≡ false))
ep_cases i j true q h k = grind (arith, nat_tests)
ep_cases i j false true h k = grind (arith, nat_tests)
ep_cases i j false false h k = (grind (arith, nat_tests), (refl, refl))

pub same_place : (a b : SymbolStart) → comes_before a b ≡ false → comes_before b a ≡ false → IsSamePlace a b
same_place a b h k =
    let one = start_cases a.start.0 b.start.0 _ _ h k in
    let two = ep_cases a.ep b.ep _ _ one.0 one.1 in
    let three = symbol_cases a.slot b.slot a.symbol b.symbol two.1.0 two.1.1 in
    record { ep = two.0; slot_is = same_slot_is a.slot b.slot three.0; symbol = three.1 }
