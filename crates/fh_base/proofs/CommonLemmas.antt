-- Lemmas that several crates use.
use Rattle.std.proofs.Common.{◌≡◌, refl, false, is_some, ℤ, Bool, true, ◌&&◌, ◌||◌, cond, int_lt, sym, ◌∙◌, arith, ℕ, ◌==◌, nat_lt, ◌+◌, ◌≤◌, zero, suc, ◌<◌, List, [], ◌++◌, ap₂, subst, nat_le, length, ◌∷◌, ap, Result, Ok, Err, OnErr, ◌≤ℤ◌}
use Rattle.std.specs.Prelude.{Some, None, Option, if◌then◌else◌, filter}
use Rattle.std.specs.Ordering.{int_cmp, int_eq, is_lt, ordering_then, nat_cmp, is_eq}
use Rattle.std.specs.declared.cmp.Ordering.{Ordering}
use Rattle.std.specs.declared.cmp.Ordering.TheVariants.{Less, Equal, Greater}
use Rattle.std.proofs.lemmas.Int.{ints, clamps}
use Rattle.std.proofs.lemmas.Bool.Decides.{nat_tests}
use Rattle.fh_base.specs.Carrier.{count_of, first_of, is_outside}
use Rattle.fh_base.specs.Lists.{each}
use Rattle.fh_base.specs.Told.{WritesPart}
use Rattle.std.specs.Str.Parse.{digits_value}
use Rattle.fh_base.specs.Numbers.{is_decimal, number_in}
use Rattle.std.specs.List.{AllByRecursion}
use Rattle.std.specs.Int.{int_min}

pub none_of : {X : Type 0} (o : Option X) → is_some o ≡ false → o ≡ None
none_of None e = refl
none_of (Some x) e = cc

pub int_lex : (x y : ℤ) (o : Ordering) (r : Bool) → is_lt o ≡ r → is_lt (ordering_then (int_cmp x y) o) ≡ (int_lt x y || (int_eq x y && r))
int_lex x y o r h = go (int_lt x y) (int_lt y x) (int_eq x y) refl refl refl
  where
    not_equal : (x y : ℤ) → int_lt y x ≡ true → int_eq x y ≡ false
    not_equal x y e = grind (arith, ints)

    is_equal : (x y : ℤ) → int_lt x y ≡ false → int_lt y x ≡ false → int_eq x y ≡ true
    is_equal x y e f = grind (arith, ints)

    go : (l g e : Bool) → int_lt x y ≡ l → int_lt y x ≡ g → int_eq x y ≡ e → is_lt (ordering_then (cond l Less (cond g Greater Equal)) o) ≡ (l || (e && r))
    go true g e p q s = refl
    go false true e p q s = let f : e ≡ false = sym s ∙ not_equal x y q in rw f refl
    go false false e p q s = let f : e ≡ true = sym s ∙ is_equal x y p q in rw f h

pub nat_lex : (x y : ℕ) (o : Ordering) (r : Bool) → is_lt o ≡ r → is_lt (ordering_then (nat_cmp x y) o) ≡ (nat_lt x y || ((x == y) && r))
nat_lex x y o r h = go (nat_lt x y) (x == y)
  where
    go : (l e : Bool) → is_lt (ordering_then (cond l Less (cond e Equal Greater)) o) ≡ (l || (e && r))
    go true e = refl
    go false true = h
    go false false = refl

pub within_carrier : (prbs start num : ℕ) → is_outside prbs start num ≡ false → first_of start num + count_of prbs num ≤ prbs
within_carrier prbs start num h = go (num == 0) refl
  where
    go : (b : Bool) → (num == 0) ≡ b → first_of start num + count_of prbs num ≤ prbs
    go true e = rw e (omega arith)
    go false e = rw e (grind (arith, nat_tests))

pub each_nothing : {A : Type 0} (from n : ℕ) (f : ℕ → List A) → ((k : ℕ) → from ≤ k → k < from + n → f k ≡ []) → each from n f ≡ []
unfolding each
each_nothing from zero f none = refl
each_nothing from (suc n) f none =
    ap₂ (λ xs ys. xs ++ ys) (none from (omega arith) (omega arith)) (each_nothing (from + 1) n f (λ k a b. none k (omega (arith, a)) (omega (arith, b))))

-- from nothing that is owed
pub first_part : (w v : Option (List ℕ)) (o all : List ℕ) → o ≡ [] → WritesPart w v (o ++ all) → WritesPart w v all
first_part w v o all none part = subst (λ (t : List ℕ). WritesPart w v (t ++ all)) none part

pub at_least : (m n : ℕ) → nat_le m n ≡ true → m ≤ n
at_least m n e = grind (arith, nat_tests)

pub number_within : (most low high n : ℕ) (w : List ℕ) → number_in most low high w ≡ Some n → (low ≤ n) × (n ≤ high)
number_within most low high n w e =
    go (nat_lt 0 (length w)) (nat_le (length w) most) (is_decimal w) (nat_le low (digits_value 10 w)) (nat_le (digits_value 10 w) high) refl refl e
  where
    go : (a b d l h : Bool) → nat_le low (digits_value 10 w) ≡ l → nat_le (digits_value 10 w) high ≡ h
        → (if a && (b && (d && (l && h))) then Some (digits_value 10 w) else None) ≡ Some n → (low ≤ n) × (n ≤ high)
    go true true true true true is_low is_high e =
        let same : digits_value 10 w ≡ n = cc e in
        subst (λ (k : ℕ). (low ≤ k) × (k ≤ high)) same (at_least low (digits_value 10 w) is_low, at_least (digits_value 10 w) high is_high)
    go true true true true false is_low is_high e = cc
    go true true true false h is_low is_high e = cc
    go true true false l h is_low is_high e = cc
    go true false d l h is_low is_high e = cc
    go false b d l h is_low is_high e = cc

pub each_same : {A : Type 0} (from n : ℕ) (f g : ℕ → List A) → ((k : ℕ) → from ≤ k → k < from + n → f k ≡ g k) → each from n f ≡ each from n g
unfolding each
each_same from zero f g same = refl
each_same from (suc n) f g same =
    ap₂ ◌++◌ (same from (omega arith) (omega arith)) (each_same (from + 1) n f g (λ k above below. same k (omega arith) (omega arith)))

pub then_symbol : (l e m f k g n : Bool) → ((l || (e && (m || (f && k)))) || ((e && (f && g)) && n)) ≡ (l || (e && (m || (f && (k || (g && n))))))
then_symbol true e m f k g n = refl
then_symbol false false m f k g n = refl
then_symbol false true true f k g n = refl
then_symbol false true false false k g n = refl
then_symbol false true false true true g n = refl
then_symbol false true false true false g n = refl

pub filter_both : {X : Type 0} (a b : X → Bool) (xs : List X) → filter (λ x. a x && b x) xs ≡ filter b (filter a xs)
filter_both a b [] = refl
filter_both {X = X} a b (x ∷ xs) = go (a x) (filter_both a b xs)
  where
    go : (s : Bool) → filter (λ y. a y && b y) xs ≡ filter b (filter a xs)
        → (let us : List X = if s && b x then x ∷ filter (λ y. a y && b y) xs else filter (λ y. a y && b y) xs in us) ≡ filter b (let vs : List X = if s then x ∷ filter a xs else filter a xs in vs)
    go true h = ap (λ (ys : List X). let us : List X = if b x then x ∷ ys else ys in us) h
    go false h = h

pub on_err : {A B : Type 0} (r : Result A B) (P : Type 0) → P → OnErr r P
on_err (Ok x) P p = tt
on_err (Err e) P p = p

pub all_if : {A : Type 0} (P : A → Type 0) (b : Bool) (xs ys : List A) → AllByRecursion P xs → AllByRecursion P ys → AllByRecursion P (if b then xs else ys)
all_if P true xs ys h g = h
all_if P false xs ys h g = g

pub all_left : {A : Type 0} (P : A → Type 0) (xs ys : List A) → AllByRecursion P (xs ++ ys) → AllByRecursion P xs
all_left P [] ys h = tt
all_left P (x ∷ xs) ys h = (h.0, all_left P xs ys h.1)

pub all_right : {A : Type 0} (P : A → Type 0) (xs ys : List A) → AllByRecursion P (xs ++ ys) → AllByRecursion P ys
all_right P [] ys h = h
all_right P (x ∷ xs) ys h = all_right P xs ys h.1

pub least_of : (a b x : ℤ) → x ≤ℤ a → x ≤ℤ b → x ≤ℤ int_min a b
least_of a b x h k = omega (arith, ints, clamps)

pub nat_last : (x y : ℕ) → is_lt (nat_cmp x y) ≡ nat_lt x y
nat_last x y = go (nat_lt x y) (x == y)
  where
    go : (l e : Bool) → is_lt (cond l Less (cond e Equal Greater)) ≡ l
    go true e = refl
    go false true = refl
    go false false = refl

pub nat_equal : (x y : ℕ) → is_eq (nat_cmp x y) ≡ (x == y)
nat_equal x y = go (nat_lt x y) (x == y) refl refl
  where
    go : (l e : Bool) → nat_lt x y ≡ l → (x == y) ≡ e → is_eq (cond l Less (cond e Equal Greater)) ≡ e
    go true true p q = absurd (grind (arith, nat_tests))
    go true false p q = refl
    go false true p q = refl
    go false false p q = refl
