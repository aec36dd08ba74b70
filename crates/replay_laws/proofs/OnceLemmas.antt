-- The cells of a unit among a replay's events are those that it reports up to the end.
use Rattle.std.proofs.Common.{◌≡◌, ℤ, ℕ, pos, zero, suc, ◌+ℤ◌, ◌-ℤ◌, ◌≤ℤ◌, List, [], ◌∷◌, ◌++◌, refl, sym, ap, ap₂, ◌∙◌, subst, arith, append-nil}
use Rattle.std.specs.Prelude.{map, ◌==◌, if◌then◌else◌, Bool, true, false}
use Rattle.std.specs.Int.{int_gap}
use Rattle.std.specs.List.{flat_map}
use Rattle.std.proofs.lemmas.Int.{ints}
use Rattle.air_source.specs.declared.events.AirCell.{AirCell}
use Rattle.air_source.specs.declared.events.Event.{Event}
use Rattle.air_source.specs.declared.events.Event.TheVariants as event
use Rattle.air_source.specs.declared.events.Side.{Side}
use Rattle.air_source.specs.declared.events.Side.TheVariants.{Ru, Du}
use Rattle.fault_counters.specs.Names.{all_counters}
use Rattle.fault_counters.specs.declared.kinds.Counter.{Counter}
use Rattle.window_config.specs.declared.config.Config.{Config}
use Rattle.window_config.specs.declared.endpoints.EndpointConfig.{EndpointConfig}
use Rattle.fh_base.specs.Lists.{each_tick}
use Rattle.unit_model.specs.Radiated.{Known, first_clock, reported, symbol_report, wait_of}
use Rattle.unit_model.specs.Sweeps.{OfSymbol, at_tick, sweep}
use Rattle.unit_laws.specs.Due.{AreDifferent}
use Rattle.unit_laws.proofs.DueLemmas.{reported_differ}
use Rattle.unit_model.proofs.SweepLemmas.{IsKept, each_tick_related}
use Rattle.unit_laws.proofs.HistoryTicks.{clock_begins}
use Rattle.replay_laws.specs.Events.{arrivals_at, cells_reported_at, count_event, count_events, events, events_at, events_between, number_of, start_of}
use Rattle.unit_model.specs.Heard.{cells_heard}
use Rattle.replay_laws.specs.Moments.{all_arrivals, end_of_time, landing_at}
use Rattle.replay_laws.specs.Traffic.{Traffic, known_at, landings_at, reported_at}
use Rattle.replay_laws.proofs.MomentLemmas.{by_start}
use Rattle.unit_laws.proofs.HeardLemmas.{cells-append, cells-arrivals, cells-none, cells-other, cells-own, tick_of_side}
use Rattle.replay_laws.specs.Once.{AtMostOnce}
use Rattle.fh_base.proofs.EachLemmas.{gap_is}

-- ---- those of a tick

abbrev known : Side → Config → Traffic → Known
known side c t = known_at side c t.planned (all_arrivals (landings_at side t))

own_cells : (side : Side) (c : Config) (t : Traffic) (tick : ℤ) → cells_heard side (map event.Cell (cells_reported_at side c t tick)) ≡ cells_reported_at side c t tick
own_cells side c t tick =
    cells-own side (cells_reported_at side c t tick) (tick_of_side side (known side c t) c.endpoints (start_of side c.delays tick))

-- four parts, of which one tells the unit's cells
four_parts : (side : Side) (a b x d : List Event) (p q r s : List AirCell) → cells_heard side a ≡ p → cells_heard side b ≡ q → cells_heard side x ≡ r → cells_heard side d ≡ s
    → cells_heard side (a ++ (b ++ (x ++ d))) ≡ p ++ (q ++ (r ++ s))
four_parts side a b x d p q r s e f g h =
    cells-append side a (b ++ (x ++ d))
    ∙ ap₂ ◌++◌ e (cells-append side b (x ++ d) ∙ ap₂ ◌++◌ f (cells-append side x d ∙ ap₂ ◌++◌ g h))

cells_of_tick : (side : Side) (c : Config) (t : Traffic) (tick : ℤ) → cells_heard side (events_at c t tick) ≡ cells_reported_at side c t tick
unfolding events_at
cells_of_tick Ru c t tick =
    four_parts Ru (map event.Cell (cells_reported_at Ru c t tick)) (arrivals_at Ru t tick) (arrivals_at Du t tick) (map event.Cell (cells_reported_at Du c t tick)) (cells_reported_at Ru c t tick) [] [] []
    (own_cells Ru c t tick) (cells-arrivals Ru Ru (t.results Ru tick) (landing_at t.at_ru tick)) (cells-arrivals Ru Du (t.results Du tick) (landing_at t.at_du tick))
    (cells-other Ru Du (cells_reported_at Du c t tick) refl (tick_of_side Du (known Du c t) c.endpoints (start_of Du c.delays tick)))
    ∙ append-nil (cells_reported_at Ru c t tick)
cells_of_tick Du c t tick =
    four_parts Du (map event.Cell (cells_reported_at Ru c t tick)) (arrivals_at Ru t tick) (arrivals_at Du t tick) (map event.Cell (cells_reported_at Du c t tick)) [] [] [] (cells_reported_at Du c t tick)
    (cells-other Du Ru (cells_reported_at Ru c t tick) refl (tick_of_side Ru (known Ru c t) c.endpoints (start_of Ru c.delays tick)))
    (cells-arrivals Du Ru (t.results Ru tick) (landing_at t.at_ru tick)) (cells-arrivals Du Du (t.results Du tick) (landing_at t.at_du tick))
    (own_cells Du c t tick)

-- ---- those of all ticks

kept : (side : Side) → IsKept {A = Event} {B = AirCell} (λ xs ys. cells_heard side xs ≡ ys)
kept side = record { none = cells-none side; more = λ xs xs' ys ys' p q. cells-append side xs xs' ∙ ap₂ ◌++◌ p q }

cells_of_ticks : (side : Side) (c : Config) (t : Traffic) (from end : ℤ)
    → cells_heard side (events_between c t from end) ≡ each_tick from (int_gap from end) (cells_reported_at side c t)
cells_of_ticks side c t from end =
    each_tick_related (λ xs ys. cells_heard side xs ≡ ys) (kept side) from (int_gap from end) (events_at c t) (cells_reported_at side c t) (λ tick low high. cells_of_tick side c t tick)

-- ticks that are told some time later
next_less : (from w : ℤ) → (from +ℤ pos 1) -ℤ w ≡ (from -ℤ w) +ℤ pos 1
next_less from w = omega (arith, ints)

ticks_shifted : {A : Type 0} (f : ℤ → List A) (w from : ℤ) (n : ℕ) → each_tick from n (λ tick. f (tick -ℤ w)) ≡ each_tick (from -ℤ w) n f
unfolding each_tick
ticks_shifted f w from zero = refl
ticks_shifted f w from (suc n) =
    ap (λ (xs : List _). f (from -ℤ w) ++ xs) (ticks_shifted f w (from +ℤ pos 1) n ∙ ap (λ (t : ℤ). each_tick t n f) (next_less from w))

gap_shifted : (from end w : ℤ) → from ≤ℤ end → int_gap from end ≡ int_gap (from -ℤ w) (end -ℤ w)
gap_shifted from end w order = same (int_gap from end) (int_gap (from -ℤ w) (end -ℤ w)) (gap_is from end order) (gap_is (from -ℤ w) (end -ℤ w) (omega (arith, ints, order)))
  where
    same : (n m : ℕ) → from +ℤ pos n ≡ end → (from -ℤ w) +ℤ pos m ≡ end -ℤ w → n ≡ m
    same n m p q = omega (arith, ints, p, q)

sweep_shifted : (g : OfSymbol AirCell) (es : List EndpointConfig) (w from end : ℤ) → from ≤ℤ end
    → each_tick from (int_gap from end) (λ tick. at_tick g es (tick -ℤ w)) ≡ sweep g es (from -ℤ w) (end -ℤ w)
unfolding sweep
sweep_shifted g es w from end order =
    ticks_shifted (at_tick g es) w from (int_gap from end) ∙ ap (λ (n : ℕ). each_tick (from -ℤ w) n (at_tick g es)) (gap_shifted from end w order)

end_shifted : (t w : ℤ) → (t +ℤ pos 1) -ℤ w ≡ (t -ℤ w) +ℤ pos 1
end_shifted t w = omega (arith, ints)

pub swept_is_reported : (side : Side) (c : Config) (t : Traffic)
    → each_tick first_clock (int_gap first_clock (end_of_time +ℤ pos 1)) (cells_reported_at side c t)
    ≡ reported_at side c t.planned (all_arrivals (landings_at side t)) end_of_time
unfolding reported
swept_is_reported side c t =
    let g = symbol_report side (known side c t) in
    let w = wait_of side c.delays in
    let end = end_of_time +ℤ pos 1 in
    let n = int_gap first_clock end in
    each_tick_related (λ xs ys. xs ≡ ys) (record { none = refl; more = λ xs xs' ys ys' p q. ap₂ ◌++◌ p q }) first_clock n (cells_reported_at side c t) (λ tick. at_tick g c.endpoints (tick -ℤ w))
    (λ tick low high. by_start side c t tick)
    ∙ sweep_shifted g c.endpoints w first_clock end clock_begins
    ∙ ap (λ (s : ℤ). sweep g c.endpoints (first_clock -ℤ w) s) (end_shifted end_of_time w)

-- ---- the counters tell no cells

none_chosen : (side other : Side) (b : Bool) (k : Counter) (n : ℕ) → cells_heard side (let es : List Event = if b then [] else event.Count other k n ∷ [] in es) ≡ []
unfolding cells_heard
none_chosen side other true k n = refl
none_chosen side other false k n = refl

none_of_each : (side other : Side) (f : Counter → ℕ) (ks : List Counter) → cells_heard side (flat_map (λ k. count_event other (f k) k) ks) ≡ []
none_of_each side other f [] = cells-none side
none_of_each side other f (k ∷ ks) =
    cells-append side (count_event other (f k) k) (flat_map (λ j. count_event other (f j) j) ks)
    ∙ ap₂ ◌++◌ (none_chosen side other (f k == 0) k (f k)) (none_of_each side other f ks)

none_of_counts : (side other : Side) (c : Config) (t : Traffic) → cells_heard side (count_events other c t) ≡ []
unfolding count_events
none_of_counts side other c t = none_of_each side other (number_of other c t) all_counters

-- ---- those of all events

pub cells_are_reported : (side : Side) (c : Config) (t : Traffic)
    → cells_heard side (events c t) ≡ reported_at side c t.planned (all_arrivals (landings_at side t)) end_of_time
unfolding events
cells_are_reported side c t =
    let end = end_of_time +ℤ pos 1 in
    let counts = count_events Ru c t ++ count_events Du c t in
    cells-append side (events_between c t first_clock end) counts
    ∙ ap₂ ◌++◌ (cells_of_ticks side c t first_clock end ∙ swept_is_reported side c t)
    (cells-append side (count_events Ru c t) (count_events Du c t) ∙ ap₂ ◌++◌ (none_of_counts side Ru c t) (none_of_counts side Du c t))
    ∙ append-nil _

pub at_most_once : AtMostOnce
at_most_once c t config side =
    subst AreDifferent (sym (cells_are_reported side c t))
    (reported_differ side c.delays c.endpoints (known side c t) end_of_time config.endpoints.differ)
