-- The missing cells of a replay are those that its counters count.
use Rattle.std.proofs.Common.{◌≡◌, ℕ, ◌+◌, Bool, true, false, List, [], ◌∷◌, length, map, refl, sym, ap, ◌∙◌, arith, suc}
use Rattle.std.specs.Prelude.{filter, if◌then◌else◌, not, is_some, Option, Some, None}
use Rattle.bfp_codec.specs.declared.samples.Wide.{Wide}
use Rattle.air_source.specs.Units.{same_side}
use Rattle.air_source.specs.declared.events.AirCell.{AirCell}
use Rattle.air_source.specs.declared.events.Event.{Event}
use Rattle.air_source.specs.declared.events.Event.TheVariants as event
use Rattle.air_source.specs.declared.events.Side.{Side}
use Rattle.air_source.specs.declared.events.Side.TheVariants.{Ru, Du}
use Rattle.fault_counters.specs.Counts.{once, times}
use Rattle.fault_counters.specs.declared.kinds.Counter.TheVariants as counter
use Rattle.window_config.specs.declared.config.Config.{Config}
use Rattle.unit_model.specs.Counts.{block_counter, cells_counted}
use Rattle.unit_model.specs.Reports.{arrivals_counted}
use Rattle.unit_model.proofs.CountLemmas.{times-append}
use Rattle.replay_laws.specs.Events.{events}
use Rattle.unit_model.specs.Heard.{cells_heard, is_of}
use Rattle.replay_laws.specs.Moments.{all_arrivals, end_of_time}
use Rattle.replay_laws.specs.Traffic.{landings_at, reported_at}
use Rattle.replay_laws.specs.Sums.{cells_total}
use Rattle.replay_laws.proofs.BesideLemmas.{cells-append}
use Rattle.replay_laws.proofs.OnceLemmas.{cells_are_reported}
use Rattle.replay_laws.proofs.SumLemmas.{sums_add_up}
use Rattle.explain_model.specs.Missing.{is_missing, missing_cell, missing_cells}
use Rattle.explain_model.specs.SilentReasons.{Kept, kept}
use Rattle.explain_model.specs.Seen.{Seen, seen, seen_of}
use Rattle.explain_laws.specs.ReasonCounted.{MissingAreCounted, missing_at}

-- ---- cell by cell

-- the two tests of the unit agree, and a cell without samples is counted once
by_side : (t s : Side) (o : Option (List Wide)) (n m : ℕ) → n ≡ m
    → (if not (is_some o) then (if same_side s t then suc n else n) else n) ≡ (if is_of t s then m + once (block_counter o) counter.Missing else m)
by_side Ru Ru None n m e = omega (arith, e)
by_side Ru Ru (Some w) n m e = omega (arith, e)
by_side Ru Du None n m e = e
by_side Ru Du (Some w) n m e = e
by_side Du Ru None n m e = e
by_side Du Ru (Some w) n m e = e
by_side Du Du None n m e = omega (arith, e)
by_side Du Du (Some w) n m e = omega (arith, e)

module _ (side : Side) (c : Config) (all : Kept) where
  abbrev missing_in : List Seen → ℕ
  missing_in xs = length (missing_at side (map (missing_cell c all) (filter is_missing xs)))

  abbrev counted_in : List AirCell → ℕ
  counted_in xs = times (cells_counted xs) counter.Missing

  one_if : (b : Bool) (s : Seen) (xs : List Seen) → length (if b then missing_cell c all s ∷ missing_at side (map (missing_cell c all) (filter is_missing xs)) else missing_at side (map (missing_cell c all) (filter is_missing xs)))
      ≡ (if b then suc (missing_in xs) else missing_in xs)
  one_if true s xs = refl
  one_if false s xs = refl

  seen_step : (s : Seen) (xs : List Seen) (b : Bool) → length (missing_at side (map (missing_cell c all) (if b then s ∷ filter is_missing xs else filter is_missing xs)))
      ≡ (if b then (if same_side s.side side then suc (missing_in xs) else missing_in xs) else missing_in xs)
  seen_step s xs true = one_if (same_side s.side side) s xs
  seen_step s xs false = refl

  heard_step : (a : AirCell) (xs : List AirCell) (b : Bool) → counted_in (if b then a ∷ xs else xs) ≡ (if b then counted_in xs + once (block_counter a.block) counter.Missing else counted_in xs)
  heard_step a xs true = refl
  heard_step a xs false = refl

  missing_counted : (es : List Event) → missing_in (seen es) ≡ counted_in (cells_heard side es)
  unfolding seen cells_heard
  missing_counted [] = refl
  missing_counted (event.Cell a ∷ rest) =
      seen_step (seen_of a) (seen rest) (not (is_some a.block))
      ∙ by_side side a.side a.block (missing_in (seen rest)) (counted_in (cells_heard side rest)) (missing_counted rest)
      ∙ sym (heard_step a (cells_heard side rest) (is_of side a.side))
  missing_counted (event.Arrival s at frame ∷ rest) = missing_counted rest
  missing_counted (event.Delay at s id value ∷ rest) = missing_counted rest
  missing_counted (event.Count s k value ∷ rest) = missing_counted rest

-- ---- what arrives is no cell

one_cell : (o : Option (List Wide)) (xs : List AirCell) → cells_total (cells_counted xs) ≡ length xs → cells_total (block_counter o ∷ cells_counted xs) ≡ suc (length xs)
one_cell None xs h = omega (arith, h)
one_cell (Some w) xs h = omega (arith, h)

all_cells : (xs : List AirCell) → cells_total (cells_counted xs) ≡ length xs
all_cells [] = refl
all_cells (a ∷ xs) = one_cell a.block xs (all_cells xs)

none_of_arrivals : (a b l : ℕ) → a + b ≡ l → b ≡ l → a ≡ 0
none_of_arrivals a b l e f = omega (arith, e, f)

half : (m n : ℕ) → n + m ≡ 0 → m ≡ 0
half m n e = omega (arith, e)

pub are_counted : MissingAreCounted
unfolding missing_cells
are_counted side c t =
    let es = events c t in
    let cells = reported_at side c t.planned (all_arrivals (landings_at side t)) end_of_time in
    let came = arrivals_counted side c (all_arrivals (landings_at side t)) in
    let total = (sums_add_up c t).sums side in
    let none : cells_total came ≡ 0 =
    none_of_arrivals (cells_total came) (cells_total (cells_counted cells)) (length (cells_heard side es)) (sym (cells-append came (cells_counted cells)) ∙ total.cells)
    (all_cells cells ∙ ap length (sym (cells_are_reported side c t))) in
    let quiet : times came counter.Missing ≡ 0 = half (times came counter.Missing) (times came counter.Cells) none in
    missing_counted side c (kept c es) es
    ∙ ap (λ (xs : List AirCell). times (cells_counted xs) counter.Missing) (cells_are_reported side c t)
    ∙ omega (arith, quiet, times-append came (cells_counted cells) counter.Missing)
