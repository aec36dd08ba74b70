-- The parts of an endpoint start far apart, where at most one is told of each symbol.
use Rattle.std.proofs.Common.{◌≡◌, ℕ, ℤ, pos, zero, suc, ◌+ℤ◌, ◌≤ℤ◌, ◌<ℤ◌, ◌⊎◌, inl, inr, List, [], ◌∷◌, ◌++◌, sym, ap, subst, arith}
use Rattle.std.specs.Prelude.{⊤}
use Rattle.std.proofs.lemmas.Int.{ints, by_lt_z}
use Rattle.fh_base.specs.declared.values.Slot.{Slot}
use Rattle.window_config.specs.declared.endpoints.EndpointConfig.{EndpointConfig}
use Rattle.fh_base.specs.Lists.{each_tick}
use Rattle.unit_model.specs.Sweeps.{of_endpoint}
use Rattle.plan_model.specs.Departures.{start_of_part}
use Rattle.plan_model.specs.Streams.{Part}
use Rattle.generated_laws.specs.Sparse.{IsSpaced}
use Rattle.generated_laws.proofs.Told.{Any, IsTold, Told, at_tick, ticks_apart}
use Rattle.fh_base.proofs.Orders.{above_next}

-- each starts so far after the one before it, the first no earlier than `low`
abbrev pub AreSpaced : ℕ → ℤ → List Part → Type 0
AreSpaced least low [] = ⊤
AreSpaced least low (x ∷ xs) = (low ≤ℤ start_of_part x) × AreSpaced least (start_of_part x +ℤ pos least) xs

some_none : (xs : List Part) (x : Part) → xs ≡ [] → xs ≡ x ∷ [] → ⊥
some_none xs x a b = cc

order : (a b : ℤ) → (a <ℤ b) ⊎ (b ≤ℤ a)
order a b = by_lt_z a b (λ lt. inl lt) (λ ge. inr ge)

own : (from : ℤ) → from ≤ℤ from
own from = omega (arith, ints)

not_same : (from t : ℤ) → (from +ℤ pos 1) ≤ℤ t → from ≡ t → ⊥
not_same from t h e = omega (arith, ints, h, e)

not_after : (from t start : ℤ) (least : ℕ) → start ≡ from → t <ℤ (start +ℤ pos least) → (from +ℤ pos least) ≤ℤ t → ⊥
not_after from t start least e h k = omega (arith, ints, e, h, k)

not_before : (from t : ℤ) (least : ℕ) → (from +ℤ pos 1) ≤ℤ t → (t +ℤ pos least) ≤ℤ from → ⊥
not_before from t least h k = omega (arith, ints, h, k)

starts_at : (low from start : ℤ) → low ≤ℤ from → start ≡ from → low ≤ℤ start
starts_at low from start h e = omega (arith, ints, h, e)

module _ (g : Slot → ℕ → List Part) (e : EndpointConfig) (least : ℕ) (spaced : IsSpaced e.numerology least) (told : IsTold g e.numerology) where
  abbrev pub now : ℤ → List Part
  now t = of_endpoint g e t

  -- nothing starts right after a part
  quiet : (from t : ℤ) → (a : Told e.numerology Any from (now from)) → (from +ℤ pos 1) ≤ℤ t → t <ℤ (start_of_part a.part +ℤ pos least) → now t ≡ []
  quiet from t a low high = elim (at_tick g e least spaced told t) [
    | inl none ↦ none
    | inr b ↦ absurd (elim (ticks_apart g e least spaced told Any Any from t (now from) (now t) a b) [
      | inl same ↦ not_same from t low same
      | inr far ↦ elim far [
        | inl after ↦ not_after from t (start_of_part a.part) least a.start high after
        | inr before ↦ not_before from t least low before
      ]
    ])
  ]

  pub all_spaced : (from : ℤ) (count : ℕ) (low : ℤ) → ((t : ℤ) → from ≤ℤ t → t <ℤ low → now t ≡ []) → AreSpaced least low (each_tick from count now)
  unfolding each_tick
  all_spaced from zero low none = tt
  all_spaced from (suc count) low none =
      let rest = each_tick (from +ℤ pos 1) count now in
      elim (at_tick g e least spaced told from) [
        | inl nothing ↦ subst (AreSpaced least low) (sym (ap (λ (xs : List Part). xs ++ rest) nothing)) (all_spaced (from +ℤ pos 1) count low (λ t a b. none t (above_next from t a) b))
        | inr a ↦ subst (AreSpaced least low) (sym (ap (λ (xs : List Part). xs ++ rest) a.is)) (
          first a,
          all_spaced (from +ℤ pos 1) count (start_of_part a.part +ℤ pos least) (λ t h k. quiet from t a h k),
        )
      ]
    where
      first : (a : Told e.numerology Any from (now from)) → low ≤ℤ start_of_part a.part
      first a = elim (order from low) [
        | inl lt ↦ absurd (some_none (now from) a.part (none from (own from) lt) a.is)
        | inr ge ↦ starts_at low from (start_of_part a.part) ge a.start
      ]
