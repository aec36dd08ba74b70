-- Lists that are filtered, and lists that are told tick by tick.
use Rattle.std.proofs.Common.{◌≡◌, ℕ, ℤ, pos, zero, suc, ◌+ℤ◌, ◌≤ℤ◌, ◌<ℤ◌, inl, inr, Bool, true, false, if◌then◌else◌, List, [], ◌∷◌, ◌++◌, map, refl, ap, ap₂, sym, ◌∙◌, subst, arith}
use Rattle.std.specs.Prelude.{filter}
use Rattle.std.specs.List.{flat_map}
use Rattle.std.specs.Ordering.{int_eq}
use Rattle.std.proofs.lemmas.Bool.{cases_Bool}
use Rattle.std.proofs.lemmas.Bool.Decides.{Decides-int_eq}
use Rattle.std.proofs.lemmas.Int.{ints}
use Rattle.std.proofs.lemmas.List.Concat.{flat_map-append}
use Rattle.std.proofs.lemmas.List.Elements.{filter-append}
use Rattle.fh_base.specs.Lists.{each_tick, onto}
use Rattle.plan_model.proofs.TickLemmas.{next_tick}
use Rattle.fh_base.proofs.Orders.{not_eq}
use Rattle.fh_base.specs.Members.{IsIn}
use Rattle.fh_base.proofs.MemberLemmas.{in_either}
use Rattle.fh_base.proofs.RisingLemmas.{IsRising}

-- ---- filters

pub filter_swap : {X : Type 0} (p q : X → Bool) (xs : List X) → filter p (filter q xs) ≡ filter q (filter p xs)
filter_swap p q [] = refl
filter_swap {X = X} p q (x ∷ xs) = go (p x) (q x) refl refl (filter_swap p q xs)
  where
    go : (b c : Bool) → p x ≡ b → q x ≡ c → filter p (filter q xs) ≡ filter q (filter p xs)
        → filter p (if c then x ∷ filter q xs else filter q xs) ≡ filter q (if b then x ∷ filter p xs else filter p xs)
    go true true e f h = rw (e, f) (ap (λ (ys : List X). x ∷ ys) h)
    go true false e f h = rw f h
    go false true e f h = rw e h
    go false false e f h = h

pub filter_mapped : {X Y : Type 0} (p : Y → Bool) (g : X → Y) → ((x : X) → p (g x) ≡ false) → (xs : List X) → filter p (map g xs) ≡ []
filter_mapped p g fails [] = refl
filter_mapped p g fails (x ∷ xs) = let e = fails x in rw e (filter_mapped p g fails xs)

onto_either : {X : Type 0} (b : Bool) (x : X) (earlier xs all : List X) → all ≡ onto (if b then x ∷ earlier else earlier) xs → all ≡ onto earlier (if b then x ∷ xs else xs)
unfolding onto
onto_either true x earlier xs all h = h
onto_either false x earlier xs all h = h

pub filter_onto : {X : Type 0} (p : X → Bool) (earlier xs : List X) → filter p (onto earlier xs) ≡ onto (filter p earlier) (filter p xs)
unfolding onto
filter_onto p earlier [] = refl
filter_onto p earlier (x ∷ xs) = onto_either (p x) x (filter p earlier) (filter p xs) (filter p (onto (x ∷ earlier) xs)) (filter_onto p (x ∷ earlier) xs)

pub ticks_filter : {X : Type 0} (p : X → Bool) (from : ℤ) (n : ℕ) (f : ℤ → List X) → filter p (each_tick from n f) ≡ each_tick from n (λ t. filter p (f t))
unfolding each_tick
ticks_filter p from zero f = refl
ticks_filter {X = X} p from (suc n) f = filter-append p (f from) (each_tick (from +ℤ pos 1) n f) ∙ ap (λ (xs : List X). filter p (f from) ++ xs) (ticks_filter p (from +ℤ pos 1) n f)

pub ticks_flat : {X Y : Type 0} (g : Y → List X) (from : ℤ) (n : ℕ) (h : ℤ → List Y) → each_tick from n (λ t. flat_map g (h t)) ≡ flat_map g (each_tick from n h)
unfolding each_tick
ticks_flat g from zero h = refl
ticks_flat {X = X} g from (suc n) h =
    ap (λ (xs : List X). flat_map g (h from) ++ xs) (ticks_flat g (from +ℤ pos 1) n h) ∙ sym (flat_map-append g (h from) (each_tick (from +ℤ pos 1) n h))

-- ---- a rising list, tick by tick

-- those of a tick
abbrev pub at_key : {X : Type 0} → (X → ℤ) → List X → ℤ → List X
at_key key xs t = filter (λ x. int_eq (key x) t) xs

ticks_none : {X : Type 0} (key : X → ℤ) (from : ℤ) (n : ℕ) → each_tick from n (at_key key []) ≡ []
unfolding each_tick
ticks_none key from zero = refl
ticks_none key from (suc n) = ticks_none key (from +ℤ pos 1) n

pub without : {X : Type 0} (key : X → ℤ) (t : ℤ) (x : X) (xs : List X) → (key x ≡ t → ⊥) → at_key key (x ∷ xs) t ≡ at_key key xs t
without key t x xs differ = let other = not_eq (key x) t differ in rw other refl

pub with_first : {X : Type 0} (key : X → ℤ) (t : ℤ) (x : X) (xs : List X) → int_eq (key x) t ≡ true → at_key key (x ∷ xs) t ≡ x ∷ at_key key xs t
with_first key t x xs same = rw same refl

skip_first : {X : Type 0} (key : X → ℤ) (from : ℤ) (n : ℕ) (x : X) (xs : List X) → key x <ℤ from → each_tick from n (at_key key (x ∷ xs)) ≡ each_tick from n (at_key key xs)
unfolding each_tick
skip_first key from zero x xs before = refl
skip_first key from (suc n) x xs before =
    ap₂ ◌++◌ (without key from x xs (λ e. omega (arith, ints, e, before))) (skip_first key (from +ℤ pos 1) n x xs (omega (arith, ints, before)))

pub none_then : {X : Type 0} (key : X → ℤ) (t : ℤ) (xs : List X) → ((y : X) → IsIn y xs → t <ℤ key y) → at_key key xs t ≡ []
none_then key t [] later = refl
none_then key t (x ∷ xs) later =
    let lt = later x (inl refl) in
    without key t x xs (λ e. omega (arith, ints, e, lt)) ∙ none_then key t xs (λ y m. later y (inr m))

above_lt : (a b c : ℤ) → (a +ℤ pos 1) ≤ℤ b → b ≤ℤ c → a <ℤ c
above_lt a b c h k = omega (arith, ints, h, k)

next_end : (a : ℤ) (n : ℕ) (b : ℤ) → b <ℤ (a +ℤ pos (suc n)) → b <ℤ ((a +ℤ pos 1) +ℤ pos n)
next_end a n b h = omega (arith, ints, h)

no_ticks : (a b : ℤ) → a ≤ℤ b → b <ℤ (a +ℤ pos 0) → ⊥
no_ticks a b h k = omega (arith, ints, h, k)

after : (a b : ℤ) → b ≡ a → b <ℤ (a +ℤ pos 1)
after a b e = omega (arith, ints, e)

first_first : {X : Type 0} (key : X → ℤ) (from : ℤ) (n : ℕ) (x : X) (xs : List X) → from ≤ℤ key x → key x <ℤ (from +ℤ pos n) → ((y : X) → IsIn y xs → key x ≤ℤ key y)
    → each_tick from n (at_key key (x ∷ xs)) ≡ x ∷ each_tick from n (at_key key xs)
unfolding each_tick
first_first key from zero x xs low high least = absurd (no_ticks from (key x) low high)
first_first {X = X} key from (suc n) x xs low high least = elim (cases_Bool (int_eq (key x) from)) [
  | inl same ↦
      ap₂ (λ (ys zs : List X). ys ++ zs) (with_first key from x xs same) (skip_first key (from +ℤ pos 1) n x xs (after from (key x) ((Decides-int_eq (key x) from).0 same)))
  | inr other ↦
      let differ = λ (e : key x ≡ from). (let is : int_eq (key x) from ≡ true = (Decides-int_eq (key x) from).1 e in let both : true ≡ false = sym is ∙ other in absurd cc) in
      let next = next_tick from (key x) low differ in
      let none = none_then key from xs (λ y m. above_lt from (key x) (key y) next (least y m)) in
      ap₂ (λ (ys zs : List X). ys ++ zs) (without key from x xs differ ∙ none) (first_first key (from +ℤ pos 1) n x xs next (next_end from n (key x) high) least)
      ∙ ap (λ (ys : List X). x ∷ (ys ++ each_tick (from +ℤ pos 1) n (at_key key xs))) (sym none)
]

-- a list in the order of ticks is told tick by tick as it is
pub swept : {X : Type 0} (key : X → ℤ) (from : ℤ) (n : ℕ) (xs : List X) → IsRising key xs → ((x : X) → IsIn x xs → (from ≤ℤ key x) × (key x <ℤ (from +ℤ pos n)))
    → each_tick from n (at_key key xs) ≡ xs
swept key from n [] rising within = ticks_none key from n
swept {X = X} key from n (x ∷ xs) rising within =
    let here = within x (inl refl) in
    first_first key from n x xs here.0 here.1 rising.0 ∙ ap (λ (ys : List X). x ∷ ys) (swept key from n xs rising.1 (λ y m. within y (inr m)))

-- what is told tick by tick is within those ticks
ticks_later : (a b : ℤ) (n : ℕ) → ((a +ℤ pos 1) ≤ℤ b) × (b <ℤ ((a +ℤ pos 1) +ℤ pos n)) → (a ≤ℤ b) × (b <ℤ (a +ℤ pos (suc n)))
ticks_later a b n h = let low = h.0 in let high = h.1 in (omega (arith, ints, low), omega (arith, ints, high))

tick_now : (a : ℤ) (n : ℕ) → (a ≤ℤ a) × (a <ℤ (a +ℤ pos (suc n)))
tick_now a n = (omega (arith, ints), omega (arith, ints))

pub ticks_within : {X : Type 0} (key : X → ℤ) (from : ℤ) (n : ℕ) (f : ℤ → List X) → ((t : ℤ) (x : X) → IsIn x (f t) → key x ≡ t) → (x : X) → IsIn x (each_tick from n f)
    → (from ≤ℤ key x) × (key x <ℤ (from +ℤ pos n))
unfolding each_tick
ticks_within key from zero f own x m = absurd m
ticks_within key from (suc n) f own x m = elim (in_either x (f from) (each_tick (from +ℤ pos 1) n f) m) [
  | inl l ↦ subst (λ (t : ℤ). (from ≤ℤ t) × (t <ℤ (from +ℤ pos (suc n)))) (sym (own from x l)) (tick_now from n)
  | inr r ↦ ticks_later from (key x) n (ticks_within key (from +ℤ pos 1) n f own x r)
]
