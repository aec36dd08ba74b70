-- What is told at a tick, where at most one part is told of each symbol: at most one.
use Rattle.std.proofs.Common.{◌≡◌, ℕ, ℤ, pos, zero, suc, ◌+◌, ◌<◌, ◌≤◌, ◌+ℤ◌, ◌≤ℤ◌, ◌⊎◌, inl, inr, Bool, true, false, if◌then◌else◌, List, [], ◌∷◌, ◌++◌, refl, ap, ap₂, sym, ◌∙◌, arith, append-nil}
use Rattle.std.specs.Ordering.{int_eq}
use Rattle.std.proofs.lemmas.Bool.Decides.{Decides-int_eq}
use Rattle.std.proofs.lemmas.Int.{ints}
use Rattle.fh_base.specs.Air.{air_of, AreApart}
use Rattle.fh_base.specs.Numbering.{IsSlotOf, slots_of, symbols_of}
use Rattle.fh_base.specs.declared.numerology.Numerology.{Numerology}
use Rattle.fh_base.specs.declared.values.Slot.{Slot}
use Rattle.window_config.specs.declared.endpoints.EndpointConfig.{EndpointConfig}
use Rattle.fh_base.specs.Lists.{each}
use Rattle.unit_model.specs.Sweeps.{first_swept, of_endpoint, of_frame, of_slot, of_subframe, of_symbol, slot_at}
use Rattle.plan_model.specs.Departures.{start_of_part}
use Rattle.plan_model.specs.Streams.{Part}
use Rattle.generated_laws.specs.Sparse.{IsSpaced}
use Rattle.generated_laws.proofs.Spaced.{apart}
use Rattle.fh_base.proofs.CommonLemmas.{each_nothing}

-- ---- of lists of which one at most has something

-- the one that has something
pub record OneOf {A : Type 0} (T : ℕ → List A → Type 0) (from n : ℕ) (f : ℕ → List A) : Type 0 where
  pub k : ℕ
  pub low : from ≤ k
  pub high : k < from + n
  pub is : each from n f ≡ f k
  pub there : T k (f k)

each_few : {A : Type 0} (T : ℕ → List A → Type 0) (from n : ℕ) (f : ℕ → List A) → ((k : ℕ) → from ≤ k → k < from + n → (f k ≡ []) ⊎ T k (f k))
    → ((j k : ℕ) → T j (f j) → T k (f k) → j ≡ k) → (each from n f ≡ []) ⊎ OneOf T from n f
unfolding each
each_few T from zero f h one = inl refl
each_few T from (suc n) f h one = elim (h from (omega arith) (omega arith)) [
  | inl none ↦ elim (each_few T (from + 1) n f (λ k a b. h k (omega (arith, a)) (omega (arith, b))) one) [
    | inl rest ↦ inl (ap₂ (λ xs ys. xs ++ ys) none rest)
    | inr w ↦ (let low = w.low in let high = w.high in inr (record { k = w.k; low = omega (arith, low); high = omega (arith, high); is = ap (λ xs. xs ++ each (from + 1) n f) none ∙ w.is; there = w.there }))
  ]
  | inr told ↦ inr (record {
    k = from;
    low = omega arith;
    high = omega arith;
    is = ap (λ xs. f from ++ xs) (each_nothing (from + 1) n f (λ k a b. alone told k a (h k (omega (arith, a)) (omega (arith, b))))) ∙ append-nil (f from);
    there = told;
  })
]
  where
    alone : T from (f from) → (k : ℕ) → from + 1 ≤ k → (f k ≡ []) ⊎ T k (f k) → f k ≡ []
    alone told k a (inl none) = none
    alone told k a (inr other) = (let same = one from k told other in absurd (omega (arith, a, same)))

-- ---- one part, of a symbol that starts at a tick and of which more may be known

pub record Told (n : Numerology) (P : Slot → ℕ → Type 0) (t : ℤ) (xs : List Part) : Type 0 where
  pub part : Part
  pub is : xs ≡ part ∷ []
  pub start : start_of_part part ≡ t
  pub slot : Slot
  pub symbol : ℕ
  pub is_slot : IsSlotOf n slot
  pub is_symbol : symbol < symbols_of n
  pub air : air_of n slot symbol ≡ t
  pub place : P slot symbol

moved : (n : Numerology) (P Q : Slot → ℕ → Type 0) (t : ℤ) (xs ys : List Part) → Told n P t xs → ys ≡ xs → ((slot : Slot) (symbol : ℕ) → P slot symbol → Q slot symbol) → Told n Q t ys
moved n P Q t xs ys told same f = record {
  part = told.part;
  is = same ∙ told.is;
  start = told.start;
  slot = told.slot;
  symbol = told.symbol;
  is_slot = told.is_slot;
  is_symbol = told.is_symbol;
  air = told.air;
  place = f told.slot told.symbol told.place;
}

abbrev pub Any : Slot → ℕ → Type 0
Any slot symbol = Unit {0}

-- of each symbol at most one part is told, which starts with it
abbrev pub IsTold : (Slot → ℕ → List Part) → Numerology → Type 0
IsTold g n = (slot : Slot) (symbol : ℕ) → (g slot symbol ≡ []) ⊎ ((x : Part) × (g slot symbol ≡ x ∷ []) × (start_of_part x ≡ air_of n slot symbol))

never : (t u v : ℤ) (least : ℕ) → 0 < least → t ≡ v → u ≡ v → (t +ℤ pos least) ≤ℤ u → ⊥
never t u v least some a b h = omega (arith, ints, some, a, b, h)

moved_on : (v w t u : ℤ) (least : ℕ) → v ≡ t → w ≡ u → (v +ℤ pos least) ≤ℤ w → (t +ℤ pos least) ≤ℤ u
moved_on v w t u least x y h = omega (arith, ints, x, y, h)

pub first_few : (first : ℤ) (j k : ℕ) → first +ℤ pos j ≡ first +ℤ pos k → j ≡ k
first_few first j k h = omega (arith, ints, h)

module _ (g : Slot → ℕ → List Part) (e : EndpointConfig) (least : ℕ) (spaced : IsSpaced e.numerology least) (told : IsTold g e.numerology) where
  -- what is told at two ticks is told far apart
  pub ticks_apart : (P Q : Slot → ℕ → Type 0) (t u : ℤ) (xs ys : List Part) → Told e.numerology P t xs → Told e.numerology Q u ys → (t ≡ u) ⊎ AreApart least t u
  ticks_apart P Q t u xs ys a b = elim (apart e.numerology least spaced a.slot b.slot a.symbol b.symbol a.is_slot b.is_slot a.is_symbol b.is_symbol) [
    | inl same ↦ inl (sym a.air ∙ ap₂ (λ s y. air_of e.numerology s y) same.0 same.1 ∙ b.air)
    | inr far ↦ inr (at_ticks far)
  ]
    where
      at_ticks : AreApart least (air_of e.numerology a.slot a.symbol) (air_of e.numerology b.slot b.symbol) → AreApart least t u
      at_ticks (inl h) = inl (moved_on (air_of e.numerology a.slot a.symbol) (air_of e.numerology b.slot b.symbol) t u least a.air b.air h)
      at_ticks (inr h) = inr (moved_on (air_of e.numerology b.slot b.symbol) (air_of e.numerology a.slot a.symbol) u t least b.air a.air h)

  module _ (t : ℤ) where
    -- one symbol alone starts then
    one_place : (P Q : Slot → ℕ → Type 0) (xs ys : List Part) (a : Told e.numerology P t xs) (b : Told e.numerology Q t ys) → (a.slot ≡ b.slot) × (a.symbol ≡ b.symbol)
    one_place P Q xs ys a b = elim (apart e.numerology least spaced a.slot b.slot a.symbol b.symbol a.is_slot b.is_slot a.is_symbol b.is_symbol) [
      | inl same ↦ same
      | inr far ↦ absurd (elim far [
        | inl h ↦ never (air_of e.numerology a.slot a.symbol) (air_of e.numerology b.slot b.symbol) t least spaced.some a.air b.air h
        | inr h ↦ never (air_of e.numerology b.slot b.symbol) (air_of e.numerology a.slot a.symbol) t least spaced.some b.air a.air h
      ])
    ]

    abbrev AtSymbol : Slot → ℕ → Slot → ℕ → Type 0
    AtSymbol slot symbol s y = (s ≡ slot) × (y ≡ symbol)

    abbrev AtSlot : Slot → Slot → ℕ → Type 0
    AtSlot slot s y = s ≡ slot

    abbrev AtSubframe : ℤ → ℕ → Slot → ℕ → Type 0
    AtSubframe frame subframe s y = (s.frame ≡ frame) × (s.subframe ≡ subframe)

    abbrev AtFrame : ℤ → Slot → ℕ → Type 0
    AtFrame frame s y = s.frame ≡ frame

    in_symbol : (slot : Slot) (symbol : ℕ) → IsSlotOf e.numerology slot → symbol < symbols_of e.numerology
        → (of_symbol g e t slot symbol ≡ []) ⊎ Told e.numerology (AtSymbol slot symbol) t (of_symbol g e t slot symbol)
    in_symbol slot symbol is_slot is_symbol = go (int_eq (air_of e.numerology slot symbol) t) refl
      where
        go : (b : Bool) → int_eq (air_of e.numerology slot symbol) t ≡ b
            → ((if b then g slot symbol else []) ≡ []) ⊎ Told e.numerology (AtSymbol slot symbol) t (if b then g slot symbol else [])
        go false no_start = inl refl
        go true starts = elim (told slot symbol) [
          | inl none ↦ inl none
          | inr w ↦ inr (record {
            part = w.0;
            is = w.1;
            start = w.2 ∙ (Decides-int_eq (air_of e.numerology slot symbol) t).0 starts;
            slot = slot;
            symbol = symbol;
            is_slot = is_slot;
            is_symbol = is_symbol;
            air = (Decides-int_eq (air_of e.numerology slot symbol) t).0 starts;
            place = (refl, refl);
          })
        ]

    in_slot : (slot : Slot) → IsSlotOf e.numerology slot → (of_slot g e t slot ≡ []) ⊎ Told e.numerology (AtSlot slot) t (of_slot g e t slot)
    unfolding of_slot
    in_slot slot is_slot = elim (each_few (λ y xs. Told e.numerology (AtSymbol slot y) t xs) 0 (symbols_of e.numerology) (of_symbol g e t slot)
        (λ k a b. in_symbol slot k is_slot (omega (arith, b)))
        (λ j k p q. sym p.place.1 ∙ (one_place (AtSymbol slot j) (AtSymbol slot k) (of_symbol g e t slot j) (of_symbol g e t slot k) p q).1 ∙ q.place.1)) [
          | inl none ↦ inl none
          | inr w ↦ inr (moved e.numerology (AtSymbol slot w.k) (AtSlot slot) t (of_symbol g e t slot w.k) (each 0 (symbols_of e.numerology) (of_symbol g e t slot)) w.there w.is (λ s y p. p.0))
        ]

    in_subframe : (frame : ℤ) (subframe : ℕ) → subframe < 10 → (of_subframe g e t frame subframe ≡ []) ⊎ Told e.numerology (AtSubframe frame subframe) t (of_subframe g e t frame subframe)
    unfolding of_subframe
    in_subframe frame subframe is_subframe =
        let f = λ (l : ℕ). of_slot g e t (slot_at frame subframe l) in
        elim (each_few (λ l xs. Told e.numerology (AtSlot (slot_at frame subframe l)) t xs) 0 (slots_of e.numerology) f
        (λ k a b. in_slot (slot_at frame subframe k) (record { subframe = is_subframe; slot = omega (arith, b) }))
        (λ j k p q. ap (λ (s : Slot). s.slot) (sym p.place ∙ (one_place (AtSlot (slot_at frame subframe j)) (AtSlot (slot_at frame subframe k)) (f j) (f k) p q).0 ∙ q.place))) [
          | inl none ↦ inl none
          | inr w ↦ inr (moved e.numerology (AtSlot (slot_at frame subframe w.k)) (AtSubframe frame subframe) t (f w.k) (each 0 (slots_of e.numerology) f) w.there w.is
              (λ s y p. (ap (λ (z : Slot). z.frame) p, ap (λ (z : Slot). z.subframe) p)))
        ]

    in_frame : (frame : ℤ) → (of_frame g e t frame ≡ []) ⊎ Told e.numerology (AtFrame frame) t (of_frame g e t frame)
    unfolding of_frame
    in_frame frame =
        let f = of_subframe g e t frame in
        elim (each_few (λ b xs. Told e.numerology (AtSubframe frame b) t xs) 0 10 f
        (λ k a b. in_subframe frame k (omega (arith, b)))
        (λ j k p q. sym p.place.1 ∙ ap (λ (s : Slot). s.subframe) (one_place (AtSubframe frame j) (AtSubframe frame k) (f j) (f k) p q).0 ∙ q.place.1)) [
          | inl none ↦ inl none
          | inr w ↦ inr (moved e.numerology (AtSubframe frame w.k) (AtFrame frame) t (f w.k) (each 0 10 f) w.there w.is (λ s y p. p.0))
        ]

    pub at_tick : (of_endpoint g e t ≡ []) ⊎ Told e.numerology Any t (of_endpoint g e t)
    unfolding of_endpoint
    at_tick =
        let f = λ (k : ℕ). of_frame g e t (first_swept t +ℤ pos k) in
        elim (each_few (λ k xs. Told e.numerology (AtFrame (first_swept t +ℤ pos k)) t xs) 0 6 f
        (λ k a b. in_frame (first_swept t +ℤ pos k))
        (λ j k p q. first_few (first_swept t) j k (sym p.place ∙ ap (λ (s : Slot). s.frame) (one_place (AtFrame (first_swept t +ℤ pos j)) (AtFrame (first_swept t +ℤ pos k)) (f j) (f k) p q).0 ∙ q.place))) [
          | inl none ↦ inl none
          | inr w ↦ inr (moved e.numerology (AtFrame (first_swept t +ℤ pos w.k)) Any t (f w.k) (each 0 6 f) w.there w.is (λ s y p. tt))
        ]
