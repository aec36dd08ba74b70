-- Sweeps over a list in order find all of it: by keys, and over all symbols.
use Rattle.std.proofs.Common.{◌≡◌, ℕ, zero, suc, ℤ, pos, ◌+◌, ◌<◌, ◌≤◌, ◌+ℤ◌, ◌<ℤ◌, ◌≤ℤ◌, ◌==◌, inl, inr, true, false, List, [], ◌∷◌, ◌++◌, refl, ap, ◌∙◌, arith, ◌&&◌, Bool, cond, if◌then◌else◌, ap₂, sym, subst}
use Rattle.std.specs.List.{AllByRecursion, filter}
use Rattle.std.specs.Ordering.{int_eq}
use Rattle.std.proofs.lemmas.Int.{ints}
use Rattle.std.proofs.lemmas.Bool.{cases_eq, eq-eqb, ne_eqb, eqb-true, and_parts, and_right}
use Rattle.std.proofs.lemmas.Bool.Decides.{Decides-int_eq}
use Rattle.fh_base.specs.Lists.{each, each_tick}
use Rattle.plan_model.proofs.TickLemmas.{int_cases, same_not, ticks_same}
use Rattle.schedule_laws.specs.Sweeping.{of_key, timed_at, EachIsAll, TicksAreAll, Clock, PartSymbol, is_symbol, parts_of_symbol, parts_of_endpoint, IsPart, Precedes, AreOrdered, SweepsFindAll}
use Rattle.std.specs.Int.{int_gap}
use Rattle.fh_base.proofs.Orders.{same_z, not_eq, int_below, int_above}
use Rattle.fh_base.proofs.FilterLemmas.{related_filter, related_map}
use Rattle.fh_base.proofs.MemberLemmas.{all_map, filter_none, all_from, filter_has}
use Rattle.fh_base.proofs.EachLemmas.{each_none, ticks_none, each_same as each_alike, gap_is}
use Rattle.fh_base.proofs.CommonLemmas.{each_same, filter_both as filter_twice}

-- ---- by keys

none_of_key : {A : Type 0} (key : A → ℕ) (xs : List A) (k low : ℕ) → k < low → AllByRecursion (λ y. low ≤ key y) xs → of_key key xs k ≡ []
none_of_key key xs k low lt h =
    filter_none (λ y. key y == k) xs (all_map (λ y. low ≤ key y) (λ y. (key y == k) ≡ false) (λ y le. ne_eqb (key y) k (λ e. omega (arith, e, le))) xs h)

first_told : {A : Type 0} (key : A → ℕ) (x : A) (xs : List A) (from count : ℕ) → from ≤ key x → key x < from + count → AllByRecursion (λ y. key x ≤ key y) xs
    → each from count (of_key key (x ∷ xs)) ≡ x ∷ each from count (of_key key xs)
unfolding each
first_told key x xs from zero low high h = absurd (omega arith)
first_told key x xs from (suc n) low high h = elim (cases_eq (key x) from) [
  | inl e ↦
      let here = eq-eqb (key x) from e in
      rw here (ap (λ l. x ∷ (of_key key xs from ++ l))
      (each_same (from + 1) n (of_key key (x ∷ xs)) (of_key key xs) (λ k le below. let other = ne_eqb (key x) k (λ q. omega (arith, q, e)) in rw other refl)))
  | inr ne ↦
      let not_here = ne_eqb (key x) from ne in
      let none = none_of_key key xs from (key x) (omega (arith, ne)) h in
      rw not_here (rw none (first_told key x xs (from + 1) n (omega (arith, ne)) (omega arith) h))
]

pub each_is_all : {A : Type 0} → EachIsAll A
each_is_all key [] from count up within = each_none from count _ (λ k. refl)
each_is_all key (x ∷ xs) from count up within =
    first_told key x xs from count within.0.0 within.0.1 up.0 ∙ ap (λ l. x ∷ l) (each_is_all key xs from count up.1 within.1)

-- ---- the same by ticks

none_at : {A : Type 0} (key : A → ℤ) (xs : List A) (k low : ℤ) → k <ℤ low → AllByRecursion (λ y. low ≤ℤ key y) xs → timed_at key xs k ≡ []
none_at key xs k low lt h =
    filter_none (λ y. int_eq (key y) k) xs (all_map (λ y. low ≤ℤ key y) (λ y. int_eq (key y) k ≡ false) (λ y le. int_above (key y) k (omega (arith, ints, le))) xs h)

first_tick : {A : Type 0} (key : A → ℤ) (x : A) (xs : List A) (from : ℤ) (count : ℕ) → from ≤ℤ key x → key x <ℤ (from +ℤ pos count) → AllByRecursion (λ y. key x ≤ℤ key y) xs
    → each_tick from count (timed_at key (x ∷ xs)) ≡ x ∷ each_tick from count (timed_at key xs)
unfolding each_tick
first_tick key x xs from zero low high h = absurd (omega (arith, ints))
first_tick key x xs from (suc n) low high h = elim (int_cases (key x) from) [
  | inl e ↦
      let here : int_eq (key x) from ≡ true = (Decides-int_eq (key x) from).1 e in
      rw here (ap (λ l. x ∷ (timed_at key xs from ++ l))
      (ticks_same (from +ℤ pos 1) n (timed_at key (x ∷ xs)) (timed_at key xs) (λ k le. let other = int_below (key x) k (omega (arith, ints)) in rw other refl)))
  | inr ne ↦
      let differ : key x ≡ from → ⊥ = (λ e. same_not (key x) from e ne) in
      let apart : from <ℤ key x = grind (arith, ints) in
      let none = none_at key xs from (key x) apart h in
      rw ne (rw none (first_tick key x xs (from +ℤ pos 1) n (omega (arith, ints)) (omega (arith, ints)) h))
]

pub ticks_are_all : {A : Type 0} → TicksAreAll A
ticks_are_all key [] from count up within = ticks_none from count _ (λ t low below. refl)
ticks_are_all key (x ∷ xs) from count up within =
    first_tick key x xs from count within.0.0 within.0.1 up.0 ∙ ap (λ l. x ∷ l) (ticks_are_all key xs from count up.1 within.1)

-- ---- filters

pub filter_alike : {X : Type 0} (P : X → Type 0) (p q : X → Bool) → ((x : X) → P x → p x ≡ q x) → (ps : List X) → AllByRecursion P ps → filter p ps ≡ filter q ps
filter_alike P p q h [] all = refl
filter_alike P p q h (x ∷ ps) all = ap₂ (λ b l. cond b (x ∷ l) l) (h x all.0) (filter_alike P p q h ps all.1)

-- ---- of one symbol

pub record AtSymbol (f : ℤ) (b l y : ℕ) (p : PartSymbol) : Type 0 where
  pub frame : p.frame ≡ f
  pub subframe : p.subframe ≡ b
  pub slot : p.slot ≡ l
  pub symbol : p.symbol ≡ y

pub at_parts : (f : ℤ) (b l y : ℕ) (p : PartSymbol) → is_symbol f b l y p ≡ true → AtSymbol f b l y p
at_parts f b l y p h =
    let u = and_parts (int_eq p.frame f) ((p.subframe == b) && ((p.slot == l) && (p.symbol == y))) h in
    let v = and_parts (p.subframe == b) ((p.slot == l) && (p.symbol == y)) u.1 in
    let w = and_parts (p.slot == l) (p.symbol == y) v.1 in
    record { frame = same_z p.frame f u.0; subframe = eqb-true p.subframe b v.0; slot = eqb-true p.slot l w.0; symbol = eqb-true p.symbol y w.1 }

pub start_at : (c : Clock) (from : ℤ) (count : ℕ) (f : ℤ) (b l y : ℕ) (p : PartSymbol) → IsPart c from count p → AtSymbol f b l y p → p.start ≡ c.air f b l y
start_at c from count f b l y p part at = cc

-- ---- one tick

module _ {P : Type 0} (of_part : P → PartSymbol) (c : Clock) (from : ℤ) (count : ℕ) (ps : List P) (up : AreOrdered of_part ps)
    (parts : AllByRecursion (λ p. IsPart c from count (of_part p)) ps) (t : ℤ) where
  abbrev Before : P → P → Type 0
  Before x y = Precedes (of_part x) (of_part y)

  now : List P
  now = timed_at (λ (p : P). (of_part p).start) ps t

  abbrev IsNow : P → Type 0
  IsNow p = IsPart c from count (of_part p) × ((of_part p).start ≡ t)

  now_are : AllByRecursion IsNow now
  unfolding now
  now_are = filter_has (λ p. IsPart c from count (of_part p)) IsNow (λ x. int_eq (of_part x).start t) (λ x part e. (part, same_z (of_part x).start t e)) ps parts

  now_ordered : AreOrdered of_part now
  unfolding now
  now_ordered = related_filter Before (λ x. int_eq (of_part x).start t) ps up

  -- of one symbol
  symbol_found : (frame : ℤ) (b l y : ℕ) → parts_of_symbol of_part c ps t frame b l y ≡ filter (λ p. is_symbol frame b l y (of_part p)) now
  unfolding now
  symbol_found frame b l y =
      sym (filter_alike (λ p. IsPart c from count (of_part p)) (λ x. int_eq (of_part x).start t && is_symbol frame b l y (of_part x)) (λ x. int_eq (c.air frame b l y) t && is_symbol frame b l y (of_part x))
      (λ x part. both_same _ _ (is_symbol frame b l y (of_part x)) (λ e. ap (λ z. int_eq z t) (start_at c from count frame b l y (of_part x) part (at_parts frame b l y (of_part x) e)))) ps parts
      ∙ by_test (int_eq (c.air frame b l y) t))
      ∙ filter_twice (λ x. int_eq (of_part x).start t) (λ p. is_symbol frame b l y (of_part p)) ps
    where
      both_same : (a r d : Bool) → (d ≡ true → a ≡ r) → (a && d) ≡ (r && d)
      both_same a r true h = ap (λ x. x && true) (h refl)
      both_same a r false h = and_right a false refl ∙ sym (and_right r false refl)

      by_test : (r : Bool) → filter (λ x. r && is_symbol frame b l y (of_part x)) ps ≡ (if r then filter (λ p. is_symbol frame b l y (of_part p)) ps else [])
      by_test true = refl
      by_test false = filter_none (λ x. false) ps (all_from (λ x. false ≡ false) ps (λ x m. refl))

  -- ---- all symbols of a slot, all slots of a subframe, and so on

  abbrev frame_parts : ℤ → List P
  frame_parts f = filter (λ p. int_eq (of_part p).frame f) now

  abbrev subframe_parts : ℤ → ℕ → List P
  subframe_parts f b = filter (λ p. (of_part p).subframe == b) (frame_parts f)

  abbrev slot_parts : ℤ → ℕ → ℕ → List P
  slot_parts f b l = filter (λ p. (of_part p).slot == l) (subframe_parts f b)

  split : (f : ℤ) (b l y : ℕ) → filter (λ p. is_symbol f b l y (of_part p)) now ≡ of_key (λ (p : P). (of_part p).symbol) (slot_parts f b l) y
  split f b l y =
      filter_twice (λ p. int_eq (of_part p).frame f) (λ p. ((of_part p).subframe == b) && (((of_part p).slot == l) && ((of_part p).symbol == y))) now
      ∙ filter_twice (λ p. (of_part p).subframe == b) (λ p. ((of_part p).slot == l) && ((of_part p).symbol == y)) (frame_parts f)
      ∙ filter_twice (λ p. (of_part p).slot == l) (λ p. (of_part p).symbol == y) (subframe_parts f b)

  abbrev IsOfFrame : ℤ → P → Type 0
  IsOfFrame f p = IsNow p × ((of_part p).frame ≡ f)

  abbrev IsOfSubframe : ℤ → ℕ → P → Type 0
  IsOfSubframe f b p = IsOfFrame f p × ((of_part p).subframe ≡ b)

  abbrev IsOfSlot : ℤ → ℕ → ℕ → P → Type 0
  IsOfSlot f b l p = IsOfSubframe f b p × ((of_part p).slot ≡ l)

  frame_are : (f : ℤ) → AllByRecursion (IsOfFrame f) (frame_parts f)
  frame_are f = filter_has IsNow (IsOfFrame f) (λ p. int_eq (of_part p).frame f) (λ x w e. (w, same_z (of_part x).frame f e)) now now_are

  frame_ordered : (f : ℤ) → AreOrdered of_part (frame_parts f)
  frame_ordered f = related_filter Before (λ p. int_eq (of_part p).frame f) now now_ordered

  subframe_are : (f : ℤ) (b : ℕ) → AllByRecursion (IsOfSubframe f b) (subframe_parts f b)
  subframe_are f b = filter_has (IsOfFrame f) (IsOfSubframe f b) (λ p. (of_part p).subframe == b) (λ x w e. (w, eqb-true (of_part x).subframe b e)) (frame_parts f) (frame_are f)

  subframe_ordered : (f : ℤ) (b : ℕ) → AreOrdered of_part (subframe_parts f b)
  subframe_ordered f b = related_filter Before (λ p. (of_part p).subframe == b) (frame_parts f) (frame_ordered f)

  slot_are : (f : ℤ) (b l : ℕ) → AllByRecursion (IsOfSlot f b l) (slot_parts f b l)
  slot_are f b l = filter_has (IsOfSubframe f b) (IsOfSlot f b l) (λ p. (of_part p).slot == l) (λ x w e. (w, eqb-true (of_part x).slot l e)) (subframe_parts f b) (subframe_are f b)

  slot_ordered : (f : ℤ) (b l : ℕ) → AreOrdered of_part (slot_parts f b l)
  slot_ordered f b l = related_filter Before (λ p. (of_part p).slot == l) (subframe_parts f b) (subframe_ordered f b)

  in_symbols : (f : ℤ) (b l : ℕ) → each 0 c.symbols (of_key (λ (p : P). (of_part p).symbol) (slot_parts f b l)) ≡ slot_parts f b l
  in_symbols f b l =
      each_is_all (λ (p : P). (of_part p).symbol) (slot_parts f b l) 0 c.symbols
      (related_map Before (λ x y. (of_part x).symbol ≤ (of_part y).symbol) (IsOfSlot f b l) (λ x y u v w. grind (arith, ints)) (slot_parts f b l) (slot_are f b l) (slot_ordered f b l))
      (all_map (IsOfSlot f b l) (λ a. (0 ≤ (of_part a).symbol) × ((of_part a).symbol < 0 + c.symbols)) (λ x w. (omega arith, omega (arith, w.0.0.0.0.symbol))) (slot_parts f b l) (slot_are f b l))

  in_slots : (f : ℤ) (b : ℕ) → each 0 c.slots (slot_parts f b) ≡ subframe_parts f b
  in_slots f b =
      each_is_all (λ (p : P). (of_part p).slot) (subframe_parts f b) 0 c.slots
      (related_map Before (λ x y. (of_part x).slot ≤ (of_part y).slot) (IsOfSubframe f b) (λ x y u v w. grind (arith, ints)) (subframe_parts f b) (subframe_are f b) (subframe_ordered f b))
      (all_map (IsOfSubframe f b) (λ a. (0 ≤ (of_part a).slot) × ((of_part a).slot < 0 + c.slots)) (λ x w. (omega arith, omega (arith, w.0.0.0.slot))) (subframe_parts f b) (subframe_are f b))

  in_subframes : (f : ℤ) → each 0 10 (subframe_parts f) ≡ frame_parts f
  in_subframes f =
      each_is_all (λ (p : P). (of_part p).subframe) (frame_parts f) 0 10
      (related_map Before (λ x y. (of_part x).subframe ≤ (of_part y).subframe) (IsOfFrame f) (λ x y u v w. grind (arith, ints)) (frame_parts f) (frame_are f) (frame_ordered f))
      (all_map (IsOfFrame f) (λ a. (0 ≤ (of_part a).subframe) × ((of_part a).subframe < 0 + 10)) (λ x w. (omega arith, omega (arith, w.0.0.subframe))) (frame_parts f) (frame_are f))

  -- the number of a frame among those looked at
  abbrev frame_number : P → ℕ
  frame_number p = int_gap (c.first t) (of_part p).frame

  low : (x : P) → IsNow x → c.first t ≤ℤ (of_part x).frame
  low x h = subst (λ s. c.first s ≤ℤ (of_part x).frame) h.1 h.0.low

  frame_numbered : (k : ℕ) → frame_parts (c.first t +ℤ pos k) ≡ of_key frame_number now k
  frame_numbered k = filter_alike IsNow (λ p. int_eq (of_part p).frame (c.first t +ℤ pos k)) (λ p. frame_number p == k) (λ x h. same x h) now now_are
    where
      same : (x : P) → IsNow x → int_eq (of_part x).frame (c.first t +ℤ pos k) ≡ (frame_number x == k)
      same x h = elim (cases_eq (frame_number x) k) [
        | inl e ↦ (let g = gap_is (c.first t) (of_part x).frame (low x h) in (Decides-int_eq (of_part x).frame (c.first t +ℤ pos k)).1 (sym g ∙ ap (λ n. c.first t +ℤ pos n) e) ∙ sym (eq-eqb _ _ e))
        | inr ne ↦ (let g = gap_is (c.first t) (of_part x).frame (low x h) in not_eq (of_part x).frame (c.first t +ℤ pos k) (λ q. ne (omega (arith, ints))) ∙ sym (ne_eqb _ _ ne))
      ]

  in_frames : each 0 6 (of_key frame_number now) ≡ now
  in_frames =
      each_is_all frame_number now 0 6
      (related_map Before (λ x y. frame_number x ≤ frame_number y) IsNow (λ x y u v w. last x y u v w) now now_are now_ordered)
      (all_map IsNow (λ a. (0 ≤ frame_number a) × (frame_number a < 0 + 6)) (λ x w. (omega arith, few x w)) now now_are)
    where
      few : (x : P) → IsNow x → frame_number x < 0 + 6
      few x h =
          let g = gap_is (c.first t) (of_part x).frame (low x h) in
          let high : (of_part x).frame <ℤ (c.first t +ℤ pos 6) = subst (λ s. (of_part x).frame <ℤ (c.first s +ℤ pos 6)) h.1 h.0.high in
          omega (arith, ints)

      last : (x y : P) → IsNow x → IsNow y → Before x y → frame_number x ≤ frame_number y
      last x y u v (inl lt) = absurd (let i = u.1 in let j = v.1 in omega (arith, ints))
      last x y u v (inr (s, inl lt)) = let g = gap_is (c.first t) (of_part x).frame (low x u) in let h = gap_is (c.first t) (of_part y).frame (low y v) in omega (arith, ints)
      last x y u v (inr (s, inr (e, w))) = let g = ap (int_gap (c.first t)) e in omega (arith, g)

  pub tick_found : parts_of_endpoint of_part c ps t ≡ timed_at (λ (p : P). (of_part p).start) ps t
  unfolding now
  tick_found =
      each_alike 0 6 _ (of_key frame_number now) (λ k.
      each_alike 0 10 _ (subframe_parts (c.first t +ℤ pos k)) (λ b.
      each_alike 0 c.slots _ (slot_parts (c.first t +ℤ pos k) b) (λ l.
      each_alike 0 c.symbols _ (of_key (λ (p : P). (of_part p).symbol) (slot_parts (c.first t +ℤ pos k) b l)) (λ y. symbol_found (c.first t +ℤ pos k) b l y ∙ split (c.first t +ℤ pos k) b l y)
      ∙ in_symbols (c.first t +ℤ pos k) b l)
      ∙ in_slots (c.first t +ℤ pos k) b)
      ∙ in_subframes (c.first t +ℤ pos k) ∙ frame_numbered k)
      ∙ in_frames

pub sweeps_find_all : {P : Type 0} (of_part : P → PartSymbol) → SweepsFindAll of_part
sweeps_find_all of_part c ps from count up parts =
    ticks_same from count (parts_of_endpoint of_part c ps) (timed_at (λ p. (of_part p).start) ps) (λ t low. tick_found of_part c from count ps up parts t)
    ∙ ticks_are_all (λ p. (of_part p).start) ps from count
    (related_map (λ x y. Precedes (of_part x) (of_part y)) (λ x y. (of_part x).start ≤ℤ (of_part y).start) (λ p. IsPart c from count (of_part p)) (λ x y u v w. grind (arith, ints)) ps parts up)
    (all_map (λ p. IsPart c from count (of_part p)) (λ a. (from ≤ℤ (of_part a).start) × ((of_part a).start <ℤ (from +ℤ pos count))) (λ x h. (h.begun, h.ended)) ps parts)
