-- The counters are after all other events.
use Rattle.std.proofs.Common.{◌≡◌, ℕ, zero, suc, ◌==◌, ℤ, pos, ◌+ℤ◌, Bool, true, false, List, [], ◌∷◌, ◌++◌, map, if◌then◌else◌, refl, sym, true≢false}
use Rattle.std.specs.List.{flat_map}
use Rattle.air_source.specs.declared.events.AirCell.{AirCell}
use Rattle.air_source.specs.declared.events.Event.{Event}
use Rattle.air_source.specs.declared.events.Event.TheVariants as event
use Rattle.air_source.specs.declared.events.Side.{Side}
use Rattle.air_source.specs.declared.events.Side.TheVariants.{Ru, Du}
use Rattle.replay_laws.specs.Traffic.{Traffic}
use Rattle.unit_model.specs.declared.results.DelayResult.{DelayResult}
use Rattle.explain_model.specs.Subjects.{are_counts, counts_last, has_count}
use Rattle.fault_counters.specs.Names.{all_counters}
use Rattle.fault_counters.specs.declared.kinds.Counter.{Counter}
use Rattle.replay_laws.specs.Events.{arrivals_at, cells_reported_at, count_event, count_events, events, events_at, number_of}
use Rattle.unit_model.specs.Events.{arrival_told, arrivals_told, result_event}
use Rattle.fh_base.specs.Lists.{each_tick}
use Rattle.unit_model.specs.Meetings.{Arrival}
use Rattle.window_config.specs.declared.config.Config.{Config}

-- ---- none before them

none_both : (xs ys : List Event) → has_count xs ≡ false → has_count ys ≡ false → has_count (xs ++ ys) ≡ false
none_both [] ys h k = k
none_both (event.Cell a ∷ xs) ys h k = none_both xs ys h k
none_both (event.Arrival side at frame ∷ xs) ys h k = none_both xs ys h k
none_both (event.Delay at side id value ∷ xs) ys h k = none_both xs ys h k
none_both (event.Count side counter value ∷ xs) ys h k = h

cells_none : (cs : List AirCell) → has_count (map event.Cell cs) ≡ false
cells_none [] = refl
cells_none (c ∷ cs) = cells_none cs

results_none : (side : Side) (at : ℤ) (rs : List DelayResult) → has_count (map (result_event side at) rs) ≡ false
results_none side at [] = refl
results_none side at (r ∷ rs) = results_none side at rs

told_none : (side : Side) (results : List (List DelayResult)) (xs : List Arrival) → has_count (arrivals_told side results xs) ≡ false
unfolding arrivals_told
told_none side results [] = refl
told_none side [] (a ∷ xs) = none_both (arrival_told side a []) (arrivals_told side [] xs) (results_none side a.at []) (told_none side [] xs)
told_none side (r ∷ results) (a ∷ xs) = none_both (arrival_told side a r) (arrivals_told side results xs) (results_none side a.at r) (told_none side results xs)

at_none : (c : Config) (t : Traffic) (tick : ℤ) → has_count (events_at c t tick) ≡ false
unfolding events_at
at_none c t tick =
    let ru = map event.Cell (cells_reported_at Ru c t tick) in
    let du = map event.Cell (cells_reported_at Du c t tick) in
    none_both ru (arrivals_at Ru t tick ++ (arrivals_at Du t tick ++ du)) (cells_none (cells_reported_at Ru c t tick))
    (none_both (arrivals_at Ru t tick) (arrivals_at Du t tick ++ du) (told_none Ru _ _)
    (none_both (arrivals_at Du t tick) du (told_none Du _ _) (cells_none (cells_reported_at Du c t tick))))

ticks_none : (c : Config) (t : Traffic) (from : ℤ) (n : ℕ) → has_count (each_tick from n (events_at c t)) ≡ false
unfolding each_tick
ticks_none c t from zero = refl
ticks_none c t from (suc n) = none_both (events_at c t from) (each_tick (from +ℤ pos 1) n (events_at c t)) (at_none c t from) (ticks_none c t (from +ℤ pos 1) n)

-- ---- they alone

counts_both : (xs ys : List Event) → are_counts xs ≡ true → are_counts ys ≡ true → are_counts (xs ++ ys) ≡ true
counts_both [] ys h k = k
counts_both (event.Count side counter value ∷ xs) ys h k = counts_both xs ys h k
counts_both (event.Cell a ∷ xs) ys h k = h
counts_both (event.Arrival side at frame ∷ xs) ys h k = h
counts_both (event.Delay at side id value ∷ xs) ys h k = h

one_count : (side : Side) (n : ℕ) (k : Counter) (none : Bool) → are_counts (let es : List Event = if none then [] else event.Count side k n ∷ [] in es) ≡ true
one_count side n k true = refl
one_count side n k false = refl

all_counts : (side : Side) (number : Counter → ℕ) (ks : List Counter) → are_counts (flat_map (λ k. count_event side (number k) k) ks) ≡ true
all_counts side number [] = refl
all_counts side number (k ∷ ks) =
    counts_both (count_event side (number k) k) (flat_map (λ k. count_event side (number k) k) ks) (one_count side (number k) k (number k == 0)) (all_counts side number ks)

unit_counts : (side : Side) (c : Config) (t : Traffic) → are_counts (count_events side c t) ≡ true
unfolding count_events
unit_counts side c t = all_counts side (number_of side c t) all_counters

-- ---- both

last_by : (xs ys : List Event) → has_count xs ≡ false → are_counts ys ≡ true → counts_last (xs ++ ys) ≡ true
unfolding counts_last
last_by [] [] h k = refl
last_by [] (event.Count side counter value ∷ ys) h k = k
last_by [] (event.Cell a ∷ ys) h k = absurd (true≢false (sym k))
last_by [] (event.Arrival side at frame ∷ ys) h k = absurd (true≢false (sym k))
last_by [] (event.Delay at side id value ∷ ys) h k = absurd (true≢false (sym k))
last_by (event.Count side counter value ∷ xs) ys h k = absurd (true≢false h)
last_by (event.Cell a ∷ xs) ys h k = last_by xs ys h k
last_by (event.Arrival side at frame ∷ xs) ys h k = last_by xs ys h k
last_by (event.Delay at side id value ∷ xs) ys h k = last_by xs ys h k

pub counts_come_last : (c : Config) (t : Traffic) → counts_last (events c t) ≡ true
unfolding events
counts_come_last c t =
    last_by (each_tick _ _ (events_at c t)) (count_events Ru c t ++ count_events Du c t) (ticks_none c t _ _)
    (counts_both (count_events Ru c t) (count_events Du c t) (unit_counts Ru c t) (unit_counts Du c t))
