-- Orders of numbers, and the tests of them.
use Rattle.std.proofs.Common.{◌≡◌, Bool, true, false, not, refl, ℕ, ◌≤◌, arith, ◌<◌, ℤ, pos, ◌+◌, ◌+ℤ◌, ◌-ℤ◌, ◌≤ℤ◌, ◌<ℤ◌, ◌==◌, ◌&&◌, int_le, ◌||◌, ◌*◌, suc}
use Rattle.std.specs.Prelude.{nat_lt, nat_le, ◌||◌, int_lt, int_le, if◌then◌else◌, ◌==◌, ◌&&◌, eqb}
use Rattle.std.proofs.lemmas.Bool.Decides.{nat_tests, Decides-int_eq}
use Rattle.std.proofs.lemmas.Int.{ints}
use Rattle.std.specs.Ordering.{int_eq, nat_cmp, is_gt, int_cmp}
use Rattle.std.proofs.lemmas.Bool.{false_from_ne_true}
use Rattle.std.specs.declared.cmp.Ordering.TheVariants.{Less, Greater}

pub is_false : (b : Bool) → not b ≡ true → b ≡ false
is_false true e = absurd cc
is_false false e = refl

pub is_true : (b : Bool) → not b ≡ false → b ≡ true
is_true true e = refl
is_true false e = absurd cc

pub not_lt : (m n : ℕ) → nat_lt m n ≡ false → n ≤ m
not_lt m n h = grind (arith, nat_tests)

pub not_le : (m n : ℕ) → nat_le m n ≡ false → n < m
not_le m n h = grind (arith, nat_tests)

pub neither_le : (t : Bool) (m n : ℕ) → (t || nat_le m n) ≡ false → n < m
neither_le true m n h = absurd cc
neither_le false m n h = not_le m n h

pub after_by : (a b : ℤ) (d : ℕ) → pos d ≡ b -ℤ a → b ≡ a +ℤ pos d
after_by a b d e = omega (arith, ints)

pub low_one : (a : ℤ) → pos 1 ≤ℤ a → pos 0 ≤ℤ a
low_one a h = omega (arith, ints)

pub under : (x y : ℤ) → int_lt x y ≡ true → x <ℤ y
under x y e = grind (arith, ints)

pub under_is : (x y : ℤ) → x <ℤ y → int_lt x y ≡ true
under_is x y h = grind (arith, ints)

pub not_under : (x y : ℤ) → int_lt x y ≡ false → y ≤ℤ x
not_under x y e = grind (arith, ints)

pub not_under_is : (x y : ℤ) → y ≤ℤ x → int_lt x y ≡ false
not_under_is x y h = grind (arith, ints)

pub le_true : (x y : ℤ) → int_le x y ≡ true → x ≤ℤ y
le_true x y e = grind (arith, ints)

pub true_le : (x y : ℤ) → x ≤ℤ y → int_le x y ≡ true
true_le x y h = grind (arith, ints)

pub bit_small : (b : Bool) → (if b then 1 else 0) ≤ 1
bit_small true = omega arith
bit_small false = omega arith

pub same_below : (x y n : ℕ) → x < n → x ≡ y → y < n
same_below x y n h e = omega arith

pub not_negative : (a b : ℤ) → pos 0 ≤ℤ a → a ≤ℤ b → pos 0 ≤ℤ b
not_negative a b h k = omega (arith, ints)

pub up_to : (t u w : ℤ) → t ≤ℤ u → ((t -ℤ w) +ℤ pos 1) ≤ℤ ((u -ℤ w) +ℤ pos 1)
up_to t u w h = omega (arith, ints)

pub weak : (a b : ℤ) → a <ℤ b → a ≤ℤ b
weak a b h = omega (arith, ints)

pub at_most : (a b c : ℤ) → a ≤ℤ b → b ≤ℤ c → a ≤ℤ c
at_most a b c h k = omega (arith, ints)

pub beyond : (x when clock : ℤ) → x ≤ℤ when → when ≤ℤ clock → clock <ℤ x → ⊥
beyond x when clock a b c = omega (arith, ints)

pub over : (first wait : ℤ) → (((first -ℤ pos 1) -ℤ wait) +ℤ pos 1) ≤ℤ (first -ℤ wait)
over first wait = omega (arith, ints)

pub same_gap : (from mid end : ℤ) (n m k : ℕ) → from +ℤ pos n ≡ mid → mid +ℤ pos m ≡ end → from +ℤ pos k ≡ end → k ≡ n + m
same_gap from mid end n m k a b c = omega (arith, ints)

pub above_next : (from s : ℤ) → (from +ℤ pos 1) ≤ℤ s → from ≤ℤ s
above_next from s h = omega (arith, ints)

pub frame_low_is : (first : ℤ) (k : ℕ) → first ≤ℤ (first +ℤ pos k)
frame_low_is first k = omega (arith, ints)

pub next_order : (t u : ℤ) → t ≤ℤ u → (t +ℤ pos 1) ≤ℤ (u +ℤ pos 1)
next_order t u h = omega (arith, ints)

pub next_later : (t u : ℤ) → t ≤ℤ u → t ≤ℤ (u +ℤ pos 1)
next_later t u h = omega (arith, ints)

pub both_ways : (b : Bool) → b ≡ true → b ≡ false → ⊥
both_ways true h k = cc
both_ways false h k = cc

pub beyond_next : (from s : ℤ) → (from +ℤ pos 1) ≤ℤ s → from <ℤ s
beyond_next from s h = omega (arith, ints)

pub not_later : (s t : ℤ) → s <ℤ t → s ≡ t → ⊥
not_later s t h e = omega (arith, ints)

pub not_none : (n : ℕ) → 0 < n → (n == 0) ≡ false
not_none n h = grind (arith, nat_tests)

pub within_next : (a b : ℤ) → a ≤ℤ b → a <ℤ (b +ℤ pos 1)
within_next a b h = omega (arith, ints)

pub before_it : (a : ℤ) → (a -ℤ pos 1) <ℤ a
before_it a = omega (arith, ints)

pub is_same : (a b : ℤ) → a ≡ b → int_eq a b ≡ true
is_same a b h = (Decides-int_eq a b).1 h

pub and_false : (a b : Bool) → (a ≡ true → b ≡ true → ⊥) → (a && b) ≡ false
and_false true true h = absurd (h refl refl)
and_false true false h = refl
and_false false b h = refl

pub lasts : (a b d : ℤ) → a ≤ℤ b → pos 0 ≤ℤ d → a ≤ℤ (b +ℤ d)
lasts a b d ab some = omega (arith, ints)

pub not_eq : (x t : ℤ) → (x ≡ t → ⊥) → int_eq x t ≡ false
not_eq x t ne = false_from_ne_true (int_eq x t) (λ e. ne ((Decides-int_eq x t).0 e))

pub more_differ : (x t : ℤ) → t <ℤ x → x ≡ t → ⊥
more_differ x t h e = omega (arith, ints)

pub not_zero : (a : ℕ) → (a == 0) ≡ false → 0 < a
not_zero a h = grind (arith, nat_tests)

pub le_false : (a b : ℤ) → int_le a b ≡ false → b <ℤ a
le_false a b h = grind (arith, ints)

pub and_false_2 : (a b : Bool) → b ≡ false → (a && b) ≡ false
and_false_2 true b e = e
and_false_2 false b e = refl

pub int_own : (a : ℤ) → int_eq a a ≡ true
int_own a = (Decides-int_eq a a).1 refl

pub both : (a b : Bool) → (a && b) ≡ true → (a ≡ true) × (b ≡ true)
both true b h = (refl, h)
both false b h = cc

pub neither : (a b : Bool) → (a || b) ≡ false → (a ≡ false) × (b ≡ false)
neither true b h = cc
neither false b h = (refl, h)

pub or_false : (b : Bool) → (b || false) ≡ b
or_false true = refl
or_false false = refl

pub unequal : (b : Bool) → b ≡ false → b ≡ true → ⊥
unequal b p q = cc

pub first_most : (now first : ℤ) → now ≡ first → now ≤ℤ first
first_most now first e = omega (arith, ints)

pub and_false_3 : (b : Bool) → (b && false) ≡ false
and_false_3 true = refl
and_false_3 false = refl

pub all_three : (a b c d : Bool) → (a && (b && (c && d))) ≡ ((a && (b && c)) && d)
all_three true true c d = refl
all_three true false c d = refl
all_three false b c d = refl

pub neither_2 : (a b : Bool) → a ≡ false → b ≡ false → (a || b) ≡ false
neither_2 false b h k = k
neither_2 true b h k = absurd cc

pub not_true : (b : Bool) → (b ≡ true → ⊥) → b ≡ false
not_true true f = absurd (f refl)
not_true false f = refl

pub same_z : (x y : ℤ) → int_eq x y ≡ true → x ≡ y
same_z x y h = grind (arith, ints)

pub later_than : (a b x : ℤ) → a ≤ℤ b → b <ℤ x → a <ℤ x
later_than a b x h k = omega (arith, ints)

pub nat_up : (x y : ℕ) → x ≤ y → is_gt (nat_cmp x y) ≡ false
nat_up x y h = grind (arith, nat_tests)

pub nat_less : (x y : ℕ) → x < y → nat_cmp x y ≡ Less
nat_less x y h = grind (arith, nat_tests)

pub int_less : (x y : ℤ) → x <ℤ y → int_cmp x y ≡ Less
int_less x y h = grind (arith, ints, nat_tests)

pub left_true : (a b : Bool) → (a && b) ≡ true → a ≡ true
left_true true b e = refl
left_true false b e = absurd (cc e)

pub right_true : (a b : Bool) → (a && b) ≡ true → b ≡ true
right_true true b e = e
right_true false b e = absurd (cc e)

pub both_true : (a b : Bool) → a ≡ true → b ≡ true → (a && b) ≡ true
both_true a b e f = rw (e, f) refl

pub below : (x y z : ℤ) → x <ℤ y → y ≤ℤ z → x <ℤ z
below x y z h g = omega (arith, ints)

pub pos_same : (m n : ℕ) → pos m ≡ pos n → m ≡ n
pos_same m n e = omega (arith, ints, e)

pub nat_own : (n : ℕ) → (n == n) ≡ true
nat_own n = grind (arith, nat_tests)

pub and_none : (a : ℤ) → (a +ℤ pos 0) ≡ a
and_none a = omega (arith, ints)

pub bit_test : (b : Bool) → eqb (if b then 1 else 0) 1 ≡ b
bit_test true = refl
bit_test false = refl

pub if_not : {A : Type 0} (b : Bool) (x y : A) → b ≡ false → (if b then x else y) ≡ y
if_not true x y e = absurd (cc e)
if_not false x y e = refl

pub or_second : (a b : Bool) → b ≡ true → (a || b) ≡ true
or_second true b e = refl
or_second false b e = e

pub nat_lt_true : (a b : ℕ) → a < b → nat_lt a b ≡ true
nat_lt_true a b h = grind (arith, nat_tests)

pub nat_le_true : (a b : ℕ) → a ≤ b → nat_le a b ≡ true
nat_le_true a b h = grind (arith, nat_tests)

pub nat_greater : (n m : ℕ) → m < n → nat_cmp n m ≡ Greater
nat_greater n m h = grind (arith, nat_tests)

pub next_after : (a b : ℤ) → a <ℤ b → (a +ℤ pos 1) ≤ℤ b
next_after a b h = omega (arith, ints)

pub next_is_later : (a : ℤ) → a ≤ℤ (a +ℤ pos 1)
next_is_later a = omega (arith, ints)

pub same_tick : (a b : ℤ) → b ≤ℤ a → a ≤ℤ b → a ≡ b
same_tick a b h k = omega (arith, ints)

pub int_below : (a b : ℤ) → a <ℤ b → int_eq a b ≡ false
int_below a b lt = not_eq a b (λ e. omega (arith, ints, lt, e))

pub int_above : (a b : ℤ) → b <ℤ a → int_eq a b ≡ false
int_above a b gt = not_eq a b (λ e. omega (arith, ints, gt, e))

pub one_moved : (n m k : ℕ) → suc n + m ≡ k → n + suc m ≡ k
one_moved n m k h = omega (arith, h)

pub product_grouped : (a b c : ℕ) → a * (b * c) ≡ a * b * c
product_grouped a b c = omega arith
