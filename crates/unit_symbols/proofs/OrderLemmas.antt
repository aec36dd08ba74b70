-- The order in which symbols are told is a strict one, in which two that tie are told by nothing else.
use Rattle.std.proofs.Common.{◌≡◌, ℕ, ℤ, ◌<◌, ◌≤ℤ◌, Bool, true, false, refl, sym, ap, ◌∙◌, arith}
use Rattle.std.specs.Prelude.{◌&&◌, ◌||◌, ◌==◌, nat_lt, int_lt}
use Rattle.std.specs.Ordering.{int_eq}
use Rattle.std.proofs.lemmas.Int.{ints}
use Rattle.std.proofs.lemmas.Bool.{eq-eqb, false_from_ne_true, lt-ltb}
use Rattle.std.proofs.lemmas.Bool.Decides.{nat_tests, Decides-int_eq}
use Rattle.unit_model.specs.Claims.{same_slot}
use Rattle.unit_model.specs.Order.{comes_before, slot_before}
use Rattle.unit_model.specs.declared.symbol_start.SymbolStart.{SymbolStart}
use Rattle.unit_model.proofs.ClaimLemmas.{slot_self as slot_own}
use Rattle.fh_base.proofs.CommonLemmas.{then_symbol}

-- ---- by a signed number, and then by something else

int_asym : (a b : ℤ) (p q : Bool) → (p ≡ true → q ≡ false) → (int_lt a b || (int_eq a b && p)) ≡ true → (int_lt b a || (int_eq b a && q)) ≡ false
int_asym a b p q h k = grind (arith, ints, Decides-int_eq)

int_between : (a b c : ℤ) (p q r : Bool) → (p ≡ false → q ≡ true → r ≡ true) → (int_lt b a || (int_eq b a && p)) ≡ false
    → (int_lt b c || (int_eq b c && q)) ≡ true → (int_lt a c || (int_eq a c && r)) ≡ true
int_between a b c p q r h j k = grind (arith, ints, Decides-int_eq)

-- ---- by a natural number, and then by something else

nat_asym : (a b : ℕ) (p q : Bool) → (p ≡ true → q ≡ false) → (nat_lt a b || ((a == b) && p)) ≡ true → (nat_lt b a || ((b == a) && q)) ≡ false
nat_asym a b p q h k = grind (arith, nat_tests)

nat_between : (a b c : ℕ) (p q r : Bool) → (p ≡ false → q ≡ true → r ≡ true) → (nat_lt b a || ((b == a) && p)) ≡ false
    → (nat_lt b c || ((b == c) && q)) ≡ true → (nat_lt a c || ((a == c) && r)) ≡ true
nat_between a b c p q r h j k = grind (arith, nat_tests)

-- ---- the order as one by six numbers

abbrev by_symbol : SymbolStart → SymbolStart → Bool
by_symbol a b = nat_lt a.slot.slot b.slot.slot || ((a.slot.slot == b.slot.slot) && (nat_lt a.symbol b.symbol || ((a.symbol == b.symbol) && false)))

abbrev by_slot : SymbolStart → SymbolStart → Bool
by_slot a b =
    int_lt a.slot.frame b.slot.frame || (int_eq a.slot.frame b.slot.frame
    && (nat_lt a.slot.subframe b.slot.subframe || ((a.slot.subframe == b.slot.subframe) && by_symbol a b)))

abbrev in_turn : SymbolStart → SymbolStart → Bool
in_turn a b = int_lt a.start.0 b.start.0 || (int_eq a.start.0 b.start.0 && (nat_lt a.ep b.ep || ((a.ep == b.ep) && by_slot a b)))

last_alone : (x e : Bool) → (x || (e && false)) ≡ x
last_alone true e = refl
last_alone false true = refl
last_alone false false = refl

told_in_turn : (a b : SymbolStart) → comes_before a b ≡ in_turn a b
told_in_turn a b =
    ap (λ (x : Bool). int_lt a.start.0 b.start.0 || (int_eq a.start.0 b.start.0 && (nat_lt a.ep b.ep || ((a.ep == b.ep) && x))))
    (then_symbol (int_lt a.slot.frame b.slot.frame) (int_eq a.slot.frame b.slot.frame) (nat_lt a.slot.subframe b.slot.subframe) (a.slot.subframe == b.slot.subframe)
    (nat_lt a.slot.slot b.slot.slot) (a.slot.slot == b.slot.slot) (nat_lt a.symbol b.symbol)
    ∙ ap (λ (x : Bool). int_lt a.slot.frame b.slot.frame || (int_eq a.slot.frame b.slot.frame && (nat_lt a.slot.subframe b.slot.subframe || ((a.slot.subframe == b.slot.subframe)
    && (nat_lt a.slot.slot b.slot.slot || ((a.slot.slot == b.slot.slot) && x))))))
    (sym (last_alone (nat_lt a.symbol b.symbol) (a.symbol == b.symbol))))

turn_asym : (a b : SymbolStart) → in_turn a b ≡ true → in_turn b a ≡ false
turn_asym a b =
    int_asym a.start.0 b.start.0 _ _ (nat_asym a.ep b.ep _ _ (int_asym a.slot.frame b.slot.frame _ _ (nat_asym a.slot.subframe b.slot.subframe _ _
    (nat_asym a.slot.slot b.slot.slot _ _ (nat_asym a.symbol b.symbol false false (λ h. refl))))))

turn_between : (a b c : SymbolStart) → in_turn b a ≡ false → in_turn b c ≡ true → in_turn a c ≡ true
turn_between a b c =
    int_between a.start.0 b.start.0 c.start.0 _ _ _ (nat_between a.ep b.ep c.ep _ _ _ (int_between a.slot.frame b.slot.frame c.slot.frame _ _ _
    (nat_between a.slot.subframe b.slot.subframe c.slot.subframe _ _ _ (nat_between a.slot.slot b.slot.slot c.slot.slot _ _ _
    (nat_between a.symbol b.symbol c.symbol false false false (λ h k. k))))))

-- ---- what the others cite

pub not_after : (a b : SymbolStart) → comes_before a b ≡ true → comes_before b a ≡ false
not_after a b h = told_in_turn b a ∙ turn_asym a b (sym (told_in_turn a b) ∙ h)

-- a is not after b, and b is before c
pub before_third : (a b c : SymbolStart) → comes_before b a ≡ false → comes_before b c ≡ true → comes_before a c ≡ true
before_third a b c h k = told_in_turn a c ∙ turn_between a b c (sym (told_in_turn b a) ∙ h) (sym (told_in_turn b c) ∙ k)

pub comes_trans : (a b c : SymbolStart) → comes_before a b ≡ true → comes_before b c ≡ true → comes_before a c ≡ true
comes_trans a b c h k = before_third a b c (not_after a b h) k

pub not_before_itself : (a : SymbolStart) → comes_before a a ≡ false
not_before_itself a = false_from_ne_true (comes_before a a) (λ h. let k = not_after a a h in cc)

-- what is not before one symbol is before none that is earlier
pub not_before_earlier : (a b c : SymbolStart) → comes_before a c ≡ false → comes_before b c ≡ true → comes_before a b ≡ false
not_before_earlier a b c p q = false_from_ne_true (comes_before a b) (λ h. let t = comes_trans a b c h q in cc)

-- what is after one symbol is before none that is not after it
pub not_before_later : (a b c : SymbolStart) → comes_before a b ≡ true → comes_before a c ≡ false → comes_before b c ≡ false
not_before_later a b c p q = false_from_ne_true (comes_before b c) (λ h. let t = comes_trans a b c p h in cc)

-- ---- of one slot

or_rest : (l e r : Bool) → (l ≡ false → e ≡ true) → r ≡ true → (l || (e && r)) ≡ true
or_rest true e r p q = refl
or_rest false e r p q = let h = p refl in rw (h, q) refl

at_once : (x y : ℤ) → x ≤ℤ y → int_lt x y ≡ false → int_eq x y ≡ true
at_once x y h e = grind (arith, ints, Decides-int_eq)

-- of two symbols of a slot the one with the lesser number is first
pub earlier_symbol : (a b : SymbolStart) → a.ep ≡ b.ep → a.slot ≡ b.slot → a.symbol < b.symbol → a.start.0 ≤ℤ b.start.0 → comes_before a b ≡ true
earlier_symbol a b ep slot lt order =
    or_rest (int_lt a.start.0 b.start.0) (int_eq a.start.0 b.start.0) _ (at_once a.start.0 b.start.0 order)
    (or_rest (nat_lt a.ep b.ep) (a.ep == b.ep) _ (λ none. eq-eqb a.ep b.ep ep)
    (or_rest (slot_before a.slot b.slot) (same_slot a.slot b.slot) _ (λ none. ap (same_slot a.slot) (sym slot) ∙ slot_own a.slot) (lt-ltb a.symbol b.symbol lt)))
