-- Which arrival gave a PRB its block, by what is kept of all arrivals.
use Rattle.std.proofs.Common.{◌≡◌, ℕ, Bool, true, false, List, [], ◌∷◌, ◌++◌, refl, ap, ◌∙◌}
use Rattle.std.specs.Prelude.{◌&&◌, ◌||◌, if◌then◌else◌}
use Rattle.std.specs.List.{flat_map}
use Rattle.air_source.specs.Units.{same_side}
use Rattle.air_source.specs.declared.events.AirCell.{AirCell}
use Rattle.explain_units.specs.Blocks.{giver_of, giver_or, gives_prb}
use Rattle.explain_units.specs.Laws.{kept_by, kept_from, kept_in, kept_of}
use Rattle.explain_units.specs.declared.blocks.Given.{Given as Kept}
use Rattle.explain_model.specs.Cells.{giver_in, some_gives}
use Rattle.explain_model.specs.Judged.{gives, gives_block, is_timely}
use Rattle.explain_model.specs.Stories.{Story}
use Rattle.fh_base.specs.declared.values.Slot.{Slot}
use Rattle.unit_model.specs.declared.heading.DataHeading.{DataHeading}
use Rattle.unit_model.specs.Judgements.{Judgement, Met, Commanded, Fragmented, Unread, Turned, Given}

abbrev choose : Bool → ℕ → ℕ → ℕ
choose b n m = if b then n else m

module _ (id : ℕ) (slot : Slot) (symbol prb : ℕ) where
  -- of two lists, the second matters where the first does not give it
  giver_both : (none : ℕ) (xs ys : List Kept) → giver_or none (xs ++ ys) id slot symbol prb ≡ giver_or (giver_or none ys id slot symbol prb) xs id slot symbol prb
  unfolding giver_or
  giver_both none [] ys = refl
  giver_both none (x ∷ xs) ys = ap (λ (n : ℕ). choose (gives_prb x id slot symbol prb) x.number n) (giver_both none xs ys)

  gives_same : (number : ℕ) (h : DataHeading) → gives_prb (kept_of number h) id slot symbol prb ≡ gives h id slot symbol prb
  unfolding gives
  gives_same number h = refl

  of_none : (none : ℕ) → giver_or none [] id slot symbol prb ≡ none
  unfolding giver_or
  of_none none = refl

  of_section : (none number : ℕ) (h : DataHeading) (b : Bool)
      → giver_or none (let gs : List Kept = if b then kept_of number h ∷ [] else [] in gs) id slot symbol prb ≡ choose (b && gives h id slot symbol prb) number none
  unfolding giver_or
  of_section none number h true = ap (λ (b : Bool). choose b number none) (gives_same number h)
  of_section none number h false = refl

  of_one : (none number : ℕ) (j : Judgement) → giver_or none (kept_by number j) id slot symbol prb ≡ choose (gives_block j id slot symbol prb) number none
  of_one none number (Met m) = of_none none
  of_one none number (Commanded s v) = of_none none
  of_one none number (Fragmented e f v) = of_none none
  of_one none number (Unread ep e m why) = of_none none
  of_one none number (Turned ep e m) = of_none none
  of_one none number (Given h v) = of_section none number h (is_timely v)

either_gives : (a b : Bool) (n none : ℕ) → choose a n (choose b n none) ≡ choose (a || b) n none
either_gives true b n none = refl
either_gives false b n none = refl

-- the judgements on one arrival
of_judged : (none number : ℕ) (js : List Judgement) (a : AirCell)
    → giver_or none (flat_map (kept_by number) js) a.id a.slot a.symbol a.prb ≡ choose (some_gives js a) number none
unfolding some_gives
of_judged none number [] a = of_none a.id a.slot a.symbol a.prb none
of_judged none number (j ∷ js) a =
    giver_both a.id a.slot a.symbol a.prb none (kept_by number j) (flat_map (kept_by number) js)
    ∙ of_one a.id a.slot a.symbol a.prb (giver_or none (flat_map (kept_by number) js) a.id a.slot a.symbol a.prb) number j
    ∙ ap (λ (n : ℕ). choose (gives_block j a.id a.slot a.symbol a.prb) number n) (of_judged none number js a)
    ∙ either_gives (gives_block j a.id a.slot a.symbol a.prb) (some_gives js a) number none

-- an arrival, at this unit or not
of_arrival : (none : ℕ) (s : Story) (a : AirCell) (b : Bool)
    → giver_or none (let gs : List Kept = if b then flat_map (kept_by s.number) s.judged else [] in gs) a.id a.slot a.symbol a.prb ≡ choose (b && some_gives s.judged a) s.number none
of_arrival none s a true = of_judged none s.number s.judged a
of_arrival none s a false = of_none a.id a.slot a.symbol a.prb none

-- What is kept of a unit's arrivals tells for each cell of the unit the arrival that the lines tell, 0 where they tell none.
pub givers_are_kept : (ss : List Story) (a : AirCell) → giver_of (kept_from a.side ss) a.id a.slot a.symbol a.prb ≡ giver_in ss a
unfolding giver_in
givers_are_kept [] a = of_none a.id a.slot a.symbol a.prb 0
givers_are_kept (s ∷ later) a =
    giver_both a.id a.slot a.symbol a.prb 0 (kept_in a.side s) (kept_from a.side later)
    ∙ of_arrival (giver_or 0 (kept_from a.side later) a.id a.slot a.symbol a.prb) s a (same_side s.side a.side)
    ∙ ap (λ (n : ℕ). choose (same_side s.side a.side && some_gives s.judged a) s.number n) (givers_are_kept later a)
