-- The order in which symbols are sorted is the one in which they are told, and those that tie are the same symbol.
use Rattle.std.proofs.Common.{◌≡◌, ℕ, ℤ, Bool, true, false, not, List, filter, sym, ap, subst, ◌∙◌, arith}
use Rattle.std.specs.Prelude.{◌&&◌, ◌||◌, ◌==◌, nat_lt, int_lt}
use Rattle.std.specs.Cmp.{IsStrictWeakOrder, IsTotalOrder}
use Rattle.std.specs.List.Sorted.{IsSortedBy, IsStableBy, ties}
use Rattle.std.specs.Ordering.{int_eq, is_lt}
use Rattle.std.proofs.lemmas.Bool.{and_from, and_parts, not-true}
use Rattle.std.proofs.lemmas.Bool.Decides.{nat_tests, Decides-int_eq}
use Rattle.std.proofs.lemmas.Cmp.{int_cmp_total, nat_cmp_total, on_total, then_total}
use Rattle.std.proofs.lemmas.Int.{ints}
use Rattle.std.proofs.lemmas.List.Sorted.{ranks_by}
use Rattle.unit_model.specs.Claims.{same_slot}
use Rattle.fh_base.specs.Lists.{in_order}
use Rattle.unit_model.specs.Order.{comes_before, slot_before}
use Rattle.unit_model.specs.declared.symbol_start.SymbolStart.{SymbolStart}
use Rattle.fh_base.proofs.OrderedLemmas.{in_order_keeps, in_order_ordered, ordered_from, ordered_same}
use Rattle.explain_model.specs.Unused.{same_start}
use Rattle.why_lines.specs.Starts.{start_cmp, start_key}
use Rattle.why_lines.specs.declared.starts.StartKey.{StartKey}
use Rattle.fh_base.proofs.Orders.{neither as or_parts}
use Rattle.fh_base.proofs.CommonLemmas.{int_lex, nat_lex, then_symbol, nat_last}

-- ---- the order

abbrev pub by_start : SymbolStart → SymbolStart → Bool
by_start a b = is_lt (start_cmp (start_key a) (start_key b))

first_is : (a b : SymbolStart) → by_start a b ≡ comes_before a b
first_is a b =
    int_lex a.start.0 b.start.0 _ _ (nat_lex a.ep b.ep _ _
    (int_lex a.slot.frame b.slot.frame _ _ (nat_lex a.slot.subframe b.slot.subframe _ _ (nat_lex a.slot.slot b.slot.slot _ _ (nat_last a.symbol b.symbol)))
    ∙ sym (then_symbol (int_lt a.slot.frame b.slot.frame) (int_eq a.slot.frame b.slot.frame) (nat_lt a.slot.subframe b.slot.subframe) (a.slot.subframe == b.slot.subframe)
    (nat_lt a.slot.slot b.slot.slot) (a.slot.slot == b.slot.slot) (nat_lt a.symbol b.symbol))))

start_total : IsTotalOrder start_cmp
start_total =
    then_total (on_total (λ (k : StartKey). k.start) int_cmp_total)
    (then_total (on_total (λ (k : StartKey). k.ep) nat_cmp_total)
    (then_total (on_total (λ (k : StartKey). k.frame) int_cmp_total)
    (then_total (on_total (λ (k : StartKey). k.subframe) nat_cmp_total)
    (then_total (on_total (λ (k : StartKey). k.slot) nat_cmp_total) (on_total (λ (k : StartKey). k.symbol) nat_cmp_total)))))

start_ranks : IsStrictWeakOrder by_start
start_ranks = ranks_by start_total start_key

same_order : by_start ≡ comes_before
same_order = λ i a b. first_is a b i

comes_ranks : IsStrictWeakOrder comes_before
comes_ranks = subst IsStrictWeakOrder same_order start_ranks

-- ---- sorted symbols

pub tied_apart : {X : Type 0} (lt : X → X → Bool) → IsStrictWeakOrder lt → (x a b : X) → ties lt x a ≡ true → ties lt x b ≡ true → lt a b ≡ false
tied_apart lt o x a b ta tb =
    let left = not-true (lt a x) (and_parts (not (lt x a)) (not (lt a x)) ta).1 in
    let right = not-true (lt x b) (and_parts (not (lt x b)) (not (lt b x)) tb).0 in
    o.chain a x b left right

tied_stay : {X : Type 0} (lt : X → X → Bool) → IsStrictWeakOrder lt → (x : X) (xs : List X) → filter (ties lt x) (in_order lt xs) ≡ filter (ties lt x) xs
tied_stay lt o x xs = in_order_keeps lt (ties lt x) (tied_apart lt o x) xs

pub sorted_is : (xs ys : List SymbolStart) → IsSortedBy by_start ys → IsStableBy by_start xs ys → ys ≡ in_order comes_before xs
sorted_is xs ys sorted stable =
    ordered_same by_start start_ranks ys (in_order by_start xs) (ordered_from by_start start_ranks ys sorted) (in_order_ordered by_start start_ranks xs)
    (λ x. stable x ∙ sym (tied_stay by_start start_ranks x xs))
    ∙ ap (λ (lt : SymbolStart → SymbolStart → Bool). in_order lt xs) same_order

-- lists of which those that tie are the same are put into the same order
pub same_in_order : (xs ys : List SymbolStart) → ((x : SymbolStart) → filter (ties comes_before x) xs ≡ filter (ties comes_before x) ys)
    → in_order comes_before xs ≡ in_order comes_before ys
same_in_order xs ys same =
    ordered_same comes_before comes_ranks (in_order comes_before xs) (in_order comes_before ys) (in_order_ordered comes_before comes_ranks xs)
    (in_order_ordered comes_before comes_ranks ys)
    (λ x. tied_stay comes_before comes_ranks x xs ∙ same x ∙ sym (tied_stay comes_before comes_ranks x ys))

-- ---- symbols that tie

left_is : (a b : Bool) → a ≡ true → (a && b) ≡ false → b ≡ false
left_is true b h k = k
left_is false b h k = absurd cc

int_level : (a b : ℤ) → int_lt a b ≡ false → int_lt b a ≡ false → int_eq b a ≡ true
int_level a b h k = grind (arith, ints, Decides-int_eq)

nat_level : (a b : ℕ) → nat_lt a b ≡ false → nat_lt b a ≡ false → (b == a) ≡ true
nat_level a b h k = grind (arith, nat_tests)

eq_turned : (a b : ℤ) → int_eq b a ≡ true → int_eq a b ≡ true
eq_turned a b h = grind (arith, ints, Decides-int_eq)

num_turned : (a b : ℕ) → (b == a) ≡ true → (a == b) ≡ true
num_turned a b h = grind (arith, nat_tests)

-- by a number, and then by something else: neither is first
int_tie : (a b : ℤ) (p q : Bool) → (int_lt a b || (int_eq a b && p)) ≡ false → (int_lt b a || (int_eq b a && q)) ≡ false → (int_eq b a ≡ true) × ((p ≡ false) × (q ≡ false))
int_tie a b p q h k =
    let one = or_parts (int_lt a b) _ h in
    let two = or_parts (int_lt b a) _ k in
    let same = int_level a b one.0 two.0 in
    (same, (left_is (int_eq a b) p (eq_turned a b same) one.1, left_is (int_eq b a) q same two.1))

nat_tie : (a b : ℕ) (p q : Bool) → (nat_lt a b || ((a == b) && p)) ≡ false → (nat_lt b a || ((b == a) && q)) ≡ false → ((b == a) ≡ true) × ((p ≡ false) × (q ≡ false))
nat_tie a b p q h k =
    let one = or_parts (nat_lt a b) _ h in
    let two = or_parts (nat_lt b a) _ k in
    let same = nat_level a b one.0 two.0 in
    (same, (left_is (a == b) p (num_turned a b same) one.1, left_is (b == a) q same two.1))

slot_tie : (a b : SymbolStart) → slot_before a.slot b.slot ≡ false → slot_before b.slot a.slot ≡ false → (same_slot b.slot a.slot ≡ true) × (same_slot a.slot b.slot ≡ true)
slot_tie a b h k =
    let one = int_tie a.slot.frame b.slot.frame _ _ h k in
    let two = nat_tie a.slot.subframe b.slot.subframe _ _ one.1.0 one.1.1 in
    let three = nat_level a.slot.slot b.slot.slot two.1.0 two.1.1 in (
      and_from (int_eq b.slot.frame a.slot.frame) _ one.0 (and_from (b.slot.subframe == a.slot.subframe) _ two.0 three),
      and_from (int_eq a.slot.frame b.slot.frame) _ (eq_turned a.slot.frame b.slot.frame one.0)
          (and_from (a.slot.subframe == b.slot.subframe) _ (num_turned a.slot.subframe b.slot.subframe two.0) (num_turned a.slot.slot b.slot.slot three)),
    )

pub tie_same : (x y : SymbolStart) → ties comes_before x y ≡ true → same_start y x ≡ true
tie_same x y h =
    let t = and_parts (not (comes_before x y)) (not (comes_before y x)) h in
    let one = int_tie x.start.0 y.start.0 _ _ (not-true (comes_before x y) t.0) (not-true (comes_before y x) t.1) in
    let two = nat_tie x.ep y.ep _ _ one.1.0 one.1.1 in
    let here = or_parts (slot_before x.slot y.slot) _ two.1.0 in
    let there = or_parts (slot_before y.slot x.slot) _ two.1.1 in
    let slots = slot_tie x y here.0 there.0 in
    let symbols = nat_level x.symbol y.symbol (left_is (same_slot x.slot y.slot) _ slots.1 here.1) (left_is (same_slot y.slot x.slot) _ slots.0 there.1) in
    and_from (y.ep == x.ep) _ two.0 (and_from (same_slot y.slot x.slot) (y.symbol == x.symbol) slots.0 symbols)
