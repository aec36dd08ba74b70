-- Lists that are told key by key: each element once, in the order of keys, and those of a key as they were.
use Rattle.std.proofs.Common.{◌≡◌, ℕ, ℤ, pos, zero, suc, ◌+◌, ◌<◌, ◌≤◌, ◌+ℤ◌, ◌≤ℤ◌, ◌<ℤ◌, ◌⊎◌, inl, inr, Bool, true, false, not, ◌&&◌, ◌==◌, if◌then◌else◌, List, [], ◌∷◌, ◌++◌, refl, ap, ap₂, sym, ◌∙◌, subst, arith, append-nil, true≢false}
use Rattle.std.specs.Prelude.{All, filter, IsPermutation}
use Rattle.std.specs.Int.{int_gap}
use Rattle.std.specs.List.{AllByRecursion, AllPairs}
use Rattle.std.specs.Ordering.{int_eq}
use Rattle.std.proofs.lemmas.Bool.{and_parts, cases_eq, eq-eqb, eqb-true, ne_eqb}
use Rattle.std.proofs.lemmas.Bool.Decides.{Decides-int_eq}
use Rattle.std.proofs.lemmas.Int.{by_lt_z, ints}
use Rattle.std.proofs.lemmas.List.Elements.{All-from_recursion, filter-append, recursion_from_All}
use Rattle.std.proofs.lemmas.List.Kept.{AllPairs-cons}
use Rattle.std.proofs.lemmas.List.Sorted.{IsPermutation-append, IsPermutation-append_right, IsPermutation-filter_both, IsPermutation-refl, IsPermutation-trans}
use Rattle.air_source.specs.declared.links.LinkFrame.{LinkFrame}
use Rattle.fh_base.specs.Lists.{each, each_tick, AreRelated}
use Rattle.unit_model.specs.Radiated.{first_clock}
use Rattle.unit_model.specs.Times.{end_of_time}
use Rattle.uplink_model.specs.Sent.{in_sent_order, leaves_at, leaving_at, frames_leaving}
use Rattle.uplink_model.specs.SentLaws.{AllAreSent, LaterChangeNothing, LeavingAreByEndpoint, LeavingAreReordered, LeavingAsHandedOver, LeavingLeaveThen, TicksStandTogether, TimesRise}
use Rattle.fh_base.proofs.Orders.{is_same, not_eq}
use Rattle.fh_base.proofs.MemberLemmas.{filter_all, filter_none, all_map, filter_has, all_join, all_unit}
use Rattle.fh_base.proofs.EachLemmas.{each_same, gap_is}
use Rattle.fh_base.proofs.CommonLemmas.{filter_both}

-- ---- filters

-- of a filter that keeps all that the other one keeps
filter_within : {X : Type 0} (a b : X → Bool) → ((x : X) → a x ≡ true → b x ≡ true) → (xs : List X) → filter a (filter b xs) ≡ filter a xs
filter_within a b h [] = refl
filter_within {X = X} a b h (x ∷ xs) = go (b x) refl (a x) refl (filter_within a b h xs)
  where
    go : (s : Bool) → b x ≡ s → (t : Bool) → a x ≡ t → filter a (filter b xs) ≡ filter a xs
        → filter a (let us : List X = if s then x ∷ filter b xs else filter b xs in us) ≡ (let vs : List X = if t then x ∷ filter a xs else filter a xs in vs)
    go true p t q r = rw q (ap (λ (ys : List X). let vs : List X = if t then x ∷ ys else ys in vs) r)
    go false p true q r = absurd (true≢false (sym (h x q) ∙ p))
    go false p false q r = r

-- ---- pairs

all_pairs : {X : Type 0} (R : X → X → Type 0) (xs : List X) → AreRelated R xs → AllPairs R xs
all_pairs R [] h = λ i j d low high. absurd (omega arith)
all_pairs R (x ∷ xs) h = AllPairs-cons R x xs (All-from_recursion (R x) xs h.0) (all_pairs R xs h.1)

ordered_join : {X : Type 0} (R : X → X → Type 0) (xs ys : List X) → AreRelated R xs → AreRelated R ys → AllByRecursion (λ x. AllByRecursion (R x) ys) xs → AreRelated R (xs ++ ys)
ordered_join R [] ys p q h = q
ordered_join R (x ∷ xs) ys p q h = (all_join (R x) xs ys p.0 h.0, ordered_join R xs ys p.1 q h.1)

-- where each may be before each
ordered_all : {X : Type 0} (R : X → X → Type 0) (P : X → Type 0) → ((x y : X) → P x → P y → R x y) → (xs : List X) → AllByRecursion P xs → AreRelated R xs
ordered_all R P f [] h = tt
ordered_all R P f (x ∷ xs) h = (all_map P (R x) (λ y q. f x y h.0 q) xs h.1, ordered_all R P f xs h.1)

-- ---- by numbers

module _ {X : Type 0} (key : X → ℕ) where
  abbrev of_key : List X → ℕ → List X
  of_key xs k = filter (λ x. key x == k) xs

  abbrev IsFrom : ℕ → ℕ → X → Type 0
  IsFrom from n x = (from ≤ key x) × (key x < from + n)

  each_rest : (from n k : ℕ) (xs : List X) → k < from → each from n (of_key (filter (λ x. not (key x == k)) xs)) ≡ each from n (of_key xs)
  unfolding each
  each_rest from zero k xs h = refl
  each_rest from (suc n) k xs h =
      ap₂ ◌++◌
      (filter_within (λ x. key x == from) (λ x. not (key x == k)) (λ x e. other x (eqb-true (key x) from e)) xs)
      (each_rest (from + 1) n k xs (omega arith))
    where
      other : (x : X) → key x ≡ from → not (key x == k) ≡ true
      other x e = ap not (ne_eqb (key x) k (λ same. omega (arith, e, same, h)))

  first_out : (from n : ℕ) (x : X) → IsFrom from (suc n) x → not (key x == from) ≡ true → IsFrom (from + 1) n x
  first_out from n x h e = elim (cases_eq (key x) from) [
    | inl same ↦ absurd (true≢false (sym e ∙ ap not (eq-eqb (key x) from same)))
    | inr other ↦ (let low = h.0 in let high = h.1 in (omega (arith, low, other), omega (arith, high)))
  ]

  no_keys : (from : ℕ) (xs : List X) → AllByRecursion (IsFrom from 0) xs → [] ≡ xs
  no_keys from [] h = refl
  no_keys from (x ∷ xs) h = (let low = h.0.0 in let high = h.0.1 in absurd (omega (arith, low, high)))

  each_reordered : (from n : ℕ) (xs : List X) → AllByRecursion (IsFrom from n) xs → IsPermutation xs (each from n (of_key xs))
  unfolding each
  each_reordered from zero xs h = subst (λ (ys : List X). IsPermutation ys []) (no_keys from xs h) (IsPermutation-refl [])
  each_reordered from (suc n) xs h =
      let p : X → Bool = λ x. key x == from in
      let q : X → Bool = λ x. not (key x == from) in
      let rest : List X = filter q xs in
      IsPermutation-trans xs (filter p xs ++ rest) (filter p xs ++ each (from + 1) n (of_key xs))
      (IsPermutation-filter_both p q (λ x. refl) xs)
      (IsPermutation-append_right (filter p xs) rest (each (from + 1) n (of_key xs))
      (subst (λ (ys : List X). IsPermutation rest ys) (each_rest (from + 1) n from xs (omega arith))
      (each_reordered (from + 1) n rest (filter_has (IsFrom from (suc n)) (IsFrom (from + 1) n) q (first_out from n) xs h))))

  -- ---- what is told of numbers, each of its own

  module _ (f : ℕ → List X) (own : (k : ℕ) → AllByRecursion (λ x. key x ≡ k) (f k)) where
    each_from : (from n : ℕ) → AllByRecursion (λ x. from ≤ key x) (each from n f)
    unfolding each
    each_from from zero = tt
    each_from from (suc n) =
        all_join (λ x. from ≤ key x) (f from) (each (from + 1) n f)
        (all_map (λ x. key x ≡ from) (λ x. from ≤ key x) (λ x e. omega (arith, e)) (f from) (own from))
        (all_map (λ x. from + 1 ≤ key x) (λ x. from ≤ key x) (λ x h. omega (arith, h)) (each (from + 1) n f) (each_from (from + 1) n))

    each_ordered : (from n : ℕ) → AreRelated (λ x y. key x ≤ key y) (each from n f)
    unfolding each
    each_ordered from zero = tt
    each_ordered from (suc n) =
        ordered_join (λ x y. key x ≤ key y) (f from) (each (from + 1) n f)
        (ordered_all (λ x y. key x ≤ key y) (λ x. key x ≡ from) (λ x y p q. omega (arith, p, q)) (f from) (own from))
        (each_ordered (from + 1) n)
        (all_map (λ x. key x ≡ from) (λ x. AllByRecursion (λ y. key x ≤ key y) (each (from + 1) n f)) (λ x e.
        all_map (λ y. from + 1 ≤ key y) (λ y. key x ≤ key y) (λ y h. omega (arith, e, h)) (each (from + 1) n f) (each_from (from + 1) n)) (f from) (own from))

    each_none : (from n k : ℕ) → k < from → filter (λ x. key x == k) (each from n f) ≡ []
    each_none from n k h =
        filter_none (λ x. key x == k) (each from n f)
        (all_map (λ x. from ≤ key x) (λ x. (key x == k) ≡ false) (λ x low. ne_eqb (key x) k (λ e. omega (arith, e, low, h))) (each from n f) (each_from from n))

    each_one : (from n k : ℕ) → from ≤ k → k < from + n → filter (λ x. key x == k) (each from n f) ≡ f k
    unfolding each
    each_one from zero k low high = absurd (omega arith)
    each_one from (suc n) k low high = elim (cases_eq from k) [
      | inl e ↦
          filter-append (λ x. key x == k) (f from) (each (from + 1) n f)
          ∙ ap₂ ◌++◌
          (filter_all (λ x. key x == k) (f from) (all_map (λ x. key x ≡ from) (λ x. (key x == k) ≡ true) (λ x o. eq-eqb (key x) k (o ∙ e)) (f from) (own from)))
          (each_none (from + 1) n k (omega (arith, e)))
          ∙ append-nil (f from) ∙ ap f e
      | inr other ↦
          filter-append (λ x. key x == k) (f from) (each (from + 1) n f)
          ∙ ap₂ ◌++◌
          (filter_none (λ x. key x == k) (f from)
          (all_map (λ x. key x ≡ from) (λ x. (key x == k) ≡ false) (λ x o. ne_eqb (key x) k (λ s. other (sym o ∙ s))) (f from) (own from)))
          (each_one (from + 1) n k (omega (arith, other)) (omega arith))
    ]

-- ---- by ticks

tick_cases : (a b : ℤ) → (a ≡ b) ⊎ (a ≡ b → ⊥)
tick_cases a b = go (int_eq a b) refl
  where
    go : (r : Bool) → int_eq a b ≡ r → (a ≡ b) ⊎ (a ≡ b → ⊥)
    go true e = inl ((Decides-int_eq a b).0 e)
    go false e = inr (λ s. true≢false (sym (is_same a b s) ∙ e))

at_of : (t : ℤ) (f : LinkFrame) → leaves_at t f ≡ true → f.at.0 ≡ t
at_of t f h = (Decides-int_eq f.at.0 t).0 h

module _ (told : ℤ → List LinkFrame) (own : (t : ℤ) → AllByRecursion (λ f. f.at.0 ≡ t) (told t)) where
  ticks_from : (from : ℤ) (n : ℕ) → AllByRecursion (λ f. from ≤ℤ f.at.0) (each_tick from n told)
  unfolding each_tick
  ticks_from from zero = tt
  ticks_from from (suc n) =
      all_join (λ f. from ≤ℤ f.at.0) (told from) (each_tick (from +ℤ pos 1) n told)
      (all_map (λ f. f.at.0 ≡ from) (λ f. from ≤ℤ f.at.0) (λ f e. omega (arith, ints, e)) (told from) (own from))
      (all_map (λ f. (from +ℤ pos 1) ≤ℤ f.at.0) (λ f. from ≤ℤ f.at.0) (λ f h. omega (arith, ints, h)) (each_tick (from +ℤ pos 1) n told) (ticks_from (from +ℤ pos 1) n))

  ticks_ordered : (from : ℤ) (n : ℕ) → AreRelated (λ f g. f.at.0 ≤ℤ g.at.0) (each_tick from n told)
  unfolding each_tick
  ticks_ordered from zero = tt
  ticks_ordered from (suc n) =
      ordered_join (λ f g. f.at.0 ≤ℤ g.at.0) (told from) (each_tick (from +ℤ pos 1) n told)
      (ordered_all (λ f g. f.at.0 ≤ℤ g.at.0) (λ f. f.at.0 ≡ from) (λ f g p q. omega (arith, ints, p, q)) (told from) (own from))
      (ticks_ordered (from +ℤ pos 1) n)
      (all_map (λ f. f.at.0 ≡ from) (λ f. AllByRecursion (λ g. f.at.0 ≤ℤ g.at.0) (each_tick (from +ℤ pos 1) n told)) (λ f e.
      all_map (λ g. (from +ℤ pos 1) ≤ℤ g.at.0) (λ g. f.at.0 ≤ℤ g.at.0) (λ g h. omega (arith, ints, e, h)) (each_tick (from +ℤ pos 1) n told) (ticks_from (from +ℤ pos 1) n))
      (told from) (own from))

  ticks_none : (from : ℤ) (n : ℕ) (t : ℤ) → t <ℤ from → filter (leaves_at t) (each_tick from n told) ≡ []
  ticks_none from n t h =
      filter_none (leaves_at t) (each_tick from n told)
      (all_map (λ f. from ≤ℤ f.at.0) (λ f. leaves_at t f ≡ false) (λ f low. not_eq f.at.0 t (λ e. omega (arith, ints, e, low, h))) (each_tick from n told) (ticks_from from n))

  ticks_one : (from : ℤ) (n : ℕ) (t : ℤ) → from ≤ℤ t → t <ℤ (from +ℤ pos n) → filter (leaves_at t) (each_tick from n told) ≡ told t
  unfolding each_tick
  ticks_one from zero t low high = absurd (omega (arith, ints))
  ticks_one from (suc n) t low high = elim (tick_cases from t) [
    | inl e ↦
        filter-append (leaves_at t) (told from) (each_tick (from +ℤ pos 1) n told)
        ∙ ap₂ ◌++◌
        (filter_all (leaves_at t) (told from) (all_map (λ f. f.at.0 ≡ from) (λ f. leaves_at t f ≡ true) (λ f o. is_same f.at.0 t (o ∙ e)) (told from) (own from)))
        (ticks_none (from +ℤ pos 1) n t (omega (arith, ints, e)))
        ∙ append-nil (told from) ∙ ap told e
    | inr other ↦
        filter-append (leaves_at t) (told from) (each_tick (from +ℤ pos 1) n told)
        ∙ ap₂ ◌++◌
        (filter_none (leaves_at t) (told from)
        (all_map (λ f. f.at.0 ≡ from) (λ f. leaves_at t f ≡ false) (λ f o. not_eq f.at.0 t (λ s. other (sym o ∙ s))) (told from) (own from)))
        (ticks_one (from +ℤ pos 1) n t (above from t low other) (below from n t high))
  ]
    where
      above : (a b : ℤ) → a ≤ℤ b → (a ≡ b → ⊥) → (a +ℤ pos 1) ≤ℤ b
      above a b le ne = by_lt_z b (a +ℤ pos 1) (λ lt. absurd (ne (omega (arith, ints)))) (λ ge. ge)

      below : (a : ℤ) (n : ℕ) (b : ℤ) → b <ℤ (a +ℤ pos (suc n)) → b <ℤ ((a +ℤ pos 1) +ℤ pos n)
      below a n b h = omega (arith, ints, h)

-- frames in these ticks
abbrev IsIn : ℤ → ℕ → LinkFrame → Type 0
IsIn from n f = (from ≤ℤ f.at.0) × (f.at.0 <ℤ (from +ℤ pos n))

abbrev at_tick : List LinkFrame → ℤ → List LinkFrame
at_tick fs t = filter (leaves_at t) fs

ticks_rest : (from : ℤ) (n : ℕ) (t : ℤ) (fs : List LinkFrame) → t <ℤ from → each_tick from n (at_tick (filter (λ f. not (leaves_at t f)) fs)) ≡ each_tick from n (at_tick fs)
unfolding each_tick
ticks_rest from zero t fs h = refl
ticks_rest from (suc n) t fs h =
    ap₂ ◌++◌
    (filter_within (leaves_at from) (λ f. not (leaves_at t f)) (λ f e. other f (at_of from f e)) fs)
    (ticks_rest (from +ℤ pos 1) n t fs (omega (arith, ints)))
  where
    other : (f : LinkFrame) → f.at.0 ≡ from → not (leaves_at t f) ≡ true
    other f e = ap not (not_eq f.at.0 t (λ same. omega (arith, ints, e, same, h)))

no_ticks : (from : ℤ) (fs : List LinkFrame) → AllByRecursion (IsIn from 0) fs → [] ≡ fs
no_ticks from [] h = refl
no_ticks from (f ∷ fs) h = (let low = h.0.0 in let high = h.0.1 in absurd (omega (arith, ints, low, high)))

ticks_reordered : (from : ℤ) (n : ℕ) (fs : List LinkFrame) → AllByRecursion (IsIn from n) fs → IsPermutation fs (each_tick from n (at_tick fs))
unfolding each_tick
ticks_reordered from zero fs h = subst (λ (gs : List LinkFrame). IsPermutation gs []) (no_ticks from fs h) (IsPermutation-refl [])
ticks_reordered from (suc n) fs h =
    let q : LinkFrame → Bool = λ f. not (leaves_at from f) in
    let rest : List LinkFrame = filter q fs in
    IsPermutation-trans fs (at_tick fs from ++ rest) (at_tick fs from ++ each_tick (from +ℤ pos 1) n (at_tick fs))
    (IsPermutation-filter_both (leaves_at from) q (λ f. refl) fs)
    (IsPermutation-append_right (at_tick fs from) rest (each_tick (from +ℤ pos 1) n (at_tick fs))
    (subst (λ (gs : List LinkFrame). IsPermutation rest gs) (ticks_rest (from +ℤ pos 1) n from fs (after from))
    (ticks_reordered (from +ℤ pos 1) n rest (filter_has (IsIn from (suc n)) (IsIn (from +ℤ pos 1) n) q out fs h))))
  where
    after : (a : ℤ) → a <ℤ (a +ℤ pos 1)
    after a = omega (arith, ints)

    out : (f : LinkFrame) → IsIn from (suc n) f → not (leaves_at from f) ≡ true → IsIn (from +ℤ pos 1) n f
    out f h e = elim (tick_cases f.at.0 from) [
      | inl same ↦ absurd (true≢false (sym e ∙ ap not (is_same f.at.0 from same)))
      | inr other ↦ (above f.at.0 from h.0 other, below f.at.0 from h.1)
    ]
      where
        above : (a b : ℤ) → b ≤ℤ a → (a ≡ b → ⊥) → (b +ℤ pos 1) ≤ℤ a
        above a b le ne = by_lt_z a (b +ℤ pos 1) (λ lt. absurd (ne (omega (arith, ints)))) (λ ge. ge)

        below : (a b : ℤ) → a <ℤ (b +ℤ pos (suc n)) → a <ℤ ((b +ℤ pos 1) +ℤ pos n)
        below a b h = omega (arith, ints, h)

ticks_permuted : (from : ℤ) (n : ℕ) (a b : ℤ → List LinkFrame) → ((t : ℤ) → IsPermutation (a t) (b t)) → IsPermutation (each_tick from n a) (each_tick from n b)
unfolding each_tick
ticks_permuted from zero a b h = IsPermutation-refl []
ticks_permuted from (suc n) a b h =
    IsPermutation-append (a from) (b from) (each_tick (from +ℤ pos 1) n a) (each_tick (from +ℤ pos 1) n b) (h from) (ticks_permuted (from +ℤ pos 1) n a b h)

-- ---- frames

-- those of an endpoint, of those of a tick
leaving_is : (n : ℕ) (frames : List LinkFrame) (t : ℤ) → leaving_at n frames t ≡ each 0 n (of_key (λ f. f.ep) (filter (leaves_at t) frames))
unfolding leaving_at
leaving_is n frames t = each_same 0 n (frames_leaving frames t) (of_key (λ f. f.ep) (filter (leaves_at t) frames)) (λ ep. filter_both (leaves_at t) (λ f. f.ep == ep) frames)

pub leaving_are_reordered : LeavingAreReordered
leaving_are_reordered n frames t are =
    let now = filter (leaves_at t) frames in
    subst (λ (fs : List LinkFrame). IsPermutation now fs) (sym (leaving_is n frames t))
    (each_reordered (λ f. f.ep) 0 n now (filter_has (λ f. f.ep < n) (IsFrom (λ (f : LinkFrame). f.ep) 0 n) (leaves_at t) (λ f h e. (omega arith, omega (arith, h))) frames
    (recursion_from_All (λ (f : LinkFrame). f.ep < n) frames are)))

-- each is of its endpoint and its tick
of_own : (frames : List LinkFrame) (t : ℤ) (ep : ℕ) → AllByRecursion (λ f. (f.at.0 ≡ t) × (f.ep ≡ ep)) (frames_leaving frames t ep)
of_own frames t ep =
    filter_has (λ (f : LinkFrame). Unit {0}) (λ (f : LinkFrame). (f.at.0 ≡ t) × (f.ep ≡ ep)) (λ f. leaves_at t f && (f.ep == ep)) (λ f u e.
    (let w = and_parts (leaves_at t f) (f.ep == ep) e in (at_of t f w.0, eqb-true f.ep ep w.1))) frames (all_unit frames)

own_ep : (frames : List LinkFrame) (t : ℤ) (ep : ℕ) → AllByRecursion (λ f. f.ep ≡ ep) (frames_leaving frames t ep)
own_ep frames t ep = all_map (λ (f : LinkFrame). (f.at.0 ≡ t) × (f.ep ≡ ep)) (λ (f : LinkFrame). f.ep ≡ ep) (λ f h. h.1) (frames_leaving frames t ep) (of_own frames t ep)

each_then : (frames : List LinkFrame) (t : ℤ) (from n : ℕ) → AllByRecursion (λ f. f.at.0 ≡ t) (each from n (frames_leaving frames t))
unfolding each
each_then frames t from zero = tt
each_then frames t from (suc n) =
    all_join (λ (f : LinkFrame). f.at.0 ≡ t) (frames_leaving frames t from) (each (from + 1) n (frames_leaving frames t))
    (all_map (λ (f : LinkFrame). (f.at.0 ≡ t) × (f.ep ≡ from)) (λ (f : LinkFrame). f.at.0 ≡ t) (λ f h. h.0) (frames_leaving frames t from) (of_own frames t from))
    (each_then frames t (from + 1) n)

own_tick : (n : ℕ) (frames : List LinkFrame) (t : ℤ) → AllByRecursion (λ f. f.at.0 ≡ t) (leaving_at n frames t)
unfolding leaving_at
own_tick n frames t = each_then frames t 0 n

pub leaving_leave_then : LeavingLeaveThen
leaving_leave_then n frames t = All-from_recursion (λ (f : LinkFrame). f.at.0 ≡ t) (leaving_at n frames t) (own_tick n frames t)

pub leaving_are_by_endpoint : LeavingAreByEndpoint
unfolding leaving_at
leaving_are_by_endpoint n frames t =
    all_pairs (λ (f g : LinkFrame). f.ep ≤ g.ep) (leaving_at n frames t) (each_ordered (λ (f : LinkFrame). f.ep) (frames_leaving frames t) (own_ep frames t) 0 n)

pub leaving_as_handed_over : LeavingAsHandedOver
unfolding leaving_at
leaving_as_handed_over n frames t ep h = each_one (λ (f : LinkFrame). f.ep) (frames_leaving frames t) (own_ep frames t) 0 n ep (omega arith) (omega (arith, h))

later_none : (t : ℤ) (ep : ℕ) (later : List LinkFrame) → All (λ f. t <ℤ f.at.0) later → frames_leaving later t ep ≡ []
later_none t ep later h =
    filter_none (λ f. leaves_at t f && (f.ep == ep)) later
    (all_map (λ (f : LinkFrame). t <ℤ f.at.0) (λ (f : LinkFrame). (leaves_at t f && (f.ep == ep)) ≡ false) (λ f lt.
    ap (λ (b : Bool). b && (f.ep == ep)) (not_eq f.at.0 t (λ e. omega (arith, ints, e, lt)))) later (recursion_from_All (λ (f : LinkFrame). t <ℤ f.at.0) later h))

pub later_change_nothing : LaterChangeNothing
unfolding leaving_at
later_change_nothing n frames later t h =
    each_same 0 n (frames_leaving (frames ++ later) t) (frames_leaving frames t) (λ ep.
    filter-append (λ f. leaves_at t f && (f.ep == ep)) frames later ∙ ap (λ (fs : List LinkFrame). frames_leaving frames t ep ++ fs) (later_none t ep later h)
    ∙ append-nil (frames_leaving frames t ep))

-- the ticks that are gone over
ends : first_clock +ℤ pos (int_gap first_clock (end_of_time +ℤ pos 1)) ≡ end_of_time +ℤ pos 1
ends = gap_is first_clock (end_of_time +ℤ pos 1) (omega (arith, ints))

by_end : (t end : ℤ) → end ≡ end_of_time +ℤ pos 1 → t ≤ℤ end_of_time → t <ℤ end
by_end t end e h = omega (arith, ints, e, h)

pub all_are_sent : AllAreSent
unfolding in_sent_order
all_are_sent n frames are times =
    let count = int_gap first_clock (end_of_time +ℤ pos 1) in
    IsPermutation-trans frames (each_tick first_clock count (at_tick frames)) (each_tick first_clock count (leaving_at n frames))
    (ticks_reordered first_clock count frames
    (all_map (λ (f : LinkFrame). (first_clock ≤ℤ f.at.0) × (f.at.0 ≤ℤ end_of_time)) (IsIn first_clock count) (λ f h.
    (h.0, by_end f.at.0 (first_clock +ℤ pos count) ends h.1)) frames (recursion_from_All (λ (f : LinkFrame). (first_clock ≤ℤ f.at.0) × (f.at.0 ≤ℤ end_of_time)) frames times)))
    (ticks_permuted first_clock count (at_tick frames) (leaving_at n frames) (λ t. leaving_are_reordered n frames t are))

pub times_rise : TimesRise
unfolding in_sent_order
times_rise n frames =
    all_pairs (λ (f g : LinkFrame). f.at.0 ≤ℤ g.at.0) (in_sent_order n frames)
    (ticks_ordered (leaving_at n frames) (own_tick n frames) first_clock (int_gap first_clock (end_of_time +ℤ pos 1)))

pub ticks_stand_together : TicksStandTogether
unfolding in_sent_order
ticks_stand_together n frames t low high =
    let count = int_gap first_clock (end_of_time +ℤ pos 1) in
    ticks_one (leaving_at n frames) (own_tick n frames) first_clock count t low (by_end t (first_clock +ℤ pos count) ends high)
