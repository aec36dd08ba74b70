-- The counters are last among the events of a document.
use Rattle.std.proofs.Common.{◌≡◌, ℕ, zero, suc, ℤ, pos, ◌+ℤ◌, Bool, true, false, cond, eqb, List, [], ◌∷◌, ◌++◌, map, refl, sym, subst}
use Rattle.std.specs.List.{flat_map, AllByRecursion}
use Rattle.std.specs.Int.{int_gap}
use Rattle.std.proofs.lemmas.List.Concat.{flat_map-cons}
use Rattle.air_source.specs.declared.events.Event.{Event}
use Rattle.air_source.specs.declared.events.Event.TheVariants.{Cell, Count}
use Rattle.air_source.specs.declared.events.Side.{Side}
use Rattle.air_source.specs.declared.events.Side.TheVariants.{Ru, Du}
use Rattle.fault_counters.specs.Names.{all_counters}
use Rattle.fault_counters.specs.declared.kinds.Counter.{Counter}
use Rattle.window_config.specs.declared.config.Config.{Config}
use Rattle.fh_base.specs.Lists.{each_tick}
use Rattle.unit_model.specs.Meetings.{Arrival}
use Rattle.unit_model.specs.Radiated.{first_clock}
use Rattle.unit_model.proofs.ToldLemmas.{Results, told_kept}
use Rattle.replay_laws.specs.Traffic.{Traffic}
use Rattle.unit_model.specs.declared.results.DelayResult.{DelayResult}
use Rattle.replay_laws.specs.Moments.{end_of_time, landing_at}
use Rattle.replay_laws.specs.Events.{arrivals_at, cells_reported_at, events_at, events_between, number_of, count_event, count_events, events}
use Rattle.unit_model.specs.Events.{arrivals_told, result_event}
use Rattle.fh_document.specs.declared.document.Document.{Document}
use Rattle.document_traffic.specs.Replayed.{traffic_of}
use Rattle.fronthaul_replay.specs.Replaying.{events_of}
use Rattle.report_airs.proofs.Whole.{IsEarlier, IsCount, CountsLast, cells_earlier}
use Rattle.fh_base.proofs.MemberLemmas.{all_join}

results_earlier : (side : Side) (at : ℤ) (results : List DelayResult) → AllByRecursion IsEarlier (map (result_event side at) results)
results_earlier side at [] = tt
results_earlier side at (r ∷ results) = (tt, results_earlier side at results)

arrivals_earlier : (side : Side) (results : Results) (landed : List Arrival) → AllByRecursion IsEarlier (arrivals_told side results landed)
arrivals_earlier side = told_kept (AllByRecursion IsEarlier) tt (all_join IsEarlier) side (λ a results. (tt, results_earlier side a.at results))

tick_earlier : (c : Config) (t : Traffic) (tick : ℤ) → AllByRecursion IsEarlier (events_at c t tick)
unfolding events_at
tick_earlier c t tick =
    let came = arrivals_at Ru t tick in
    let taken = arrivals_at Du t tick in
    let cells = map Cell (cells_reported_at Du c t tick) in
    all_join IsEarlier (map Cell (cells_reported_at Ru c t tick)) (came ++ (taken ++ cells)) (cells_earlier (cells_reported_at Ru c t tick))
    (all_join IsEarlier came (taken ++ cells) (arrivals_earlier Ru (t.results Ru tick) (landing_at t.at_ru tick))
    (all_join IsEarlier taken cells (arrivals_earlier Du (t.results Du tick) (landing_at t.at_du tick)) (cells_earlier (cells_reported_at Du c t tick))))

ticks_earlier : (f : ℤ → List Event) (from : ℤ) (n : ℕ) → ((tick : ℤ) → AllByRecursion IsEarlier (f tick)) → AllByRecursion IsEarlier (each_tick from n f)
unfolding each_tick
ticks_earlier f from zero h = tt
ticks_earlier f from (suc n) h = all_join IsEarlier (f from) (each_tick (from +ℤ pos 1) n f) (h from) (ticks_earlier f (from +ℤ pos 1) n h)

-- the counters that are not at 0
pub one_count : (side : Side) (n : ℕ) (k : Counter) (b : Bool) → AllByRecursion IsCount (cond b [] (Count side k n ∷ []))
one_count side n k true = tt
one_count side n k false = (tt, tt)

each_count : (f : Counter → List Event) (ks : List Counter) → ((k : Counter) → AllByRecursion IsCount (f k)) → AllByRecursion IsCount (flat_map f ks)
each_count f [] h = tt
each_count f (k ∷ ks) h = subst (λ (es : List Event). AllByRecursion IsCount es) (sym (flat_map-cons f k ks)) (all_join IsCount (f k) (flat_map f ks) (h k) (each_count f ks h))

unit_last : (side : Side) (c : Config) (t : Traffic) → AllByRecursion IsCount (count_events side c t)
unfolding count_events
unit_last side c t =
    each_count (λ k. count_event side (number_of side c t k) k) all_counters (λ k. one_count side (number_of side c t k) k (eqb (number_of side c t k) 0))

abbrev both_counts : Config → Traffic → List Event
both_counts c t = count_events Ru c t ++ count_events Du c t

counts_last : (c : Config) (t : Traffic) → AllByRecursion IsCount (both_counts c t)
counts_last c t = all_join IsCount (count_events Ru c t) (count_events Du c t) (unit_last Ru c t) (unit_last Du c t)

-- the events are those of the ticks and then the counters
parted : (c : Config) (t : Traffic) (n : ℕ) (first counts : List Event) → first ≡ each_tick first_clock n (events_at c t) → counts ≡ both_counts c t → events c t ≡ first ++ counts
    → CountsLast (events c t)
parted c t n first counts is counted all = record {
  before = first;
  counts = counts;
  is = all;
  earlier = subst (λ (es : List Event). AllByRecursion IsEarlier es) (sym is) (ticks_earlier (events_at c t) first_clock n (tick_earlier c t));
  last = subst (λ (es : List Event). AllByRecursion IsCount es) (sym counted) (counts_last c t);
}

pub document_counts : (d : Document) → CountsLast (events_of d)
unfolding events
document_counts d =
    let c = d.config in
    let t = traffic_of d in
    parted c t (int_gap first_clock (end_of_time +ℤ pos 1)) (events_between c t first_clock (end_of_time +ℤ pos 1)) (both_counts c t) refl refl refl
