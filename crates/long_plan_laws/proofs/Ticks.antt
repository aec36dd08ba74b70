-- All parts of a long plan, in their order.
use Rattle.std.proofs.Common.{◌≡◌, ℕ, ℤ, pos, zero, suc, ◌+◌, ◌<◌, ◌≤◌, ◌+ℤ◌, ◌≤ℤ◌, ◌<ℤ◌, inl, inr, List, [], ◌∷◌, ◌++◌, refl, ap, ap₂, ◌∙◌, arith}
use Rattle.std.specs.Int.{int_gap}
use Rattle.std.proofs.lemmas.Bool.{cases_lt}
use Rattle.std.proofs.lemmas.Int.{ints}
use Rattle.fh_base.specs.Lists.{each_tick}
use Rattle.unit_model.specs.Radiated.{first_clock}
use Rattle.unit_model.specs.Sweeps.{of_endpoint}
use Rattle.unit_model.specs.Times.{end_of_time}
use Rattle.plan_model.specs.Examples.{usual}
use Rattle.plan_model.specs.Streams.{Part, part_in, parts_in}
use Rattle.plan_model.specs.declared.streams.Stream.TheVariants.{DownData}
use Rattle.long_plan_laws.proofs.Lines.{line_at, lines_from}
use Rattle.long_plan_laws.proofs.Parts.{part_at, quiet, start, told}
use Rattle.window_config.specs.declared.plan.TheConstants.{LAST_FRAME}
use Rattle.fh_base.proofs.EachLemmas.{gap_is, gap_parts, ticks_none, ticks_split}

unfoldable pub parts_from : ℕ → ℕ → ℕ → List Part
parts_from i frame zero = []
parts_from i frame (suc n) = part_in 0 (line_at i frame) ∷ parts_from (i + 1) (frame + 1) n

past : (k m total : ℕ) (from t : ℤ) → m + 0 ≡ 1 + total → k < 1 + total → (k < m → start k <ℤ from) → from ≤ℤ t → start k ≡ t → ⊥
past k m total from t all below before low is =
    let under : k < m = omega (arith, all, below) in
    let early = before under in
    omega (arith, ints, early, low, is)

between : (k m : ℕ) (from t : ℤ) (gap : ℕ) → from +ℤ pos gap ≡ start m → (k < m → start k <ℤ from) → from ≤ℤ t → t <ℤ (from +ℤ pos gap) → start k ≡ t → ⊥
between k m from t gap whole before low high is = elim (cases_lt k m) [
  | inl under ↦ (let early = before under in omega (arith, ints, early, low, is))
  | inr over ↦ omega (arith, ints, whole, high, is, over)
]

later : (k m : ℕ) (from : ℤ) → from ≤ℤ start m → (k < m → start k <ℤ from) → k < m + 1 → start k <ℤ (start m +ℤ pos 1)
later k m from low before below = omega (arith, ints, below)

next_start : (m : ℕ) → (start m +ℤ pos 1) ≤ℤ start (m + 1)
next_start m = omega (arith, ints)

module _ (total : ℕ) where
  all_parts : (from end : ℤ) (i m n : ℕ) → i + 1 ≡ m → m + n ≡ 1 + total → from ≤ℤ start m → ((k : ℕ) → 1 ≤ k → k < m → start k <ℤ from) → ((k : ℕ) → k < 1 + total → start k <ℤ end)
      → each_tick from (int_gap from end) (of_endpoint (told total) usual) ≡ parts_from i m n
  unfolding each_tick parts_from
  all_parts from end i m zero place all low before after =
      ticks_none from (int_gap from end) (of_endpoint (told total) usual) (λ t a b. quiet total t (λ k some below is. past k m total from t all below (before k some) a is))
  all_parts from end i m (suc n) place all low before after =
      let f = of_endpoint (told total) usual in
      let t = start m in
      let whole = gap_is from t low in
      let some : 1 ≤ m = omega (arith, place) in
      let inside : m < 1 + total = omega (arith, all) in
      ap (λ k. each_tick from k f) (gap_parts from t end low (after m inside))
      ∙ ticks_split from (int_gap from t) (suc (int_gap (t +ℤ pos 1) end)) f
      ∙ ap₂ (λ xs ys. xs ++ ys)
      (ticks_none from (int_gap from t) f (λ u a b. quiet total u (λ k one below is. between k m from u (int_gap from t) whole (before k one) a b is)))
      (ap (λ z. each_tick z (suc (int_gap (t +ℤ pos 1) end)) f) whole
      ∙ ap₂ (λ xs ys. xs ++ ys) (part_at total i m place some inside)
      (all_parts (t +ℤ pos 1) end (i + 1) (m + 1) n (omega (arith, place)) (omega (arith, all)) (next_start m) (λ k one below. later k m from low (before k one) below) after))

  none_before : (k : ℕ) → 1 ≤ k → k < 1 → start k <ℤ first_clock
  none_before k a b = absurd (omega (arith, a, b))

  in_time : (k : ℕ) → total ≤ LAST_FRAME → k < 1 + total → start k <ℤ (end_of_time +ℤ pos 1)
  in_time k few below = omega (arith, ints, few, below)

  pub parts_are : total ≤ LAST_FRAME → parts_in (lines_from 0 1 total) DownData 0 usual ≡ parts_from 0 1 total
  unfolding parts_in
  parts_are few = all_parts first_clock (end_of_time +ℤ pos 1) 0 1 total refl refl (omega (arith, ints)) none_before (λ k below. in_time k few below)
