-- In a replay each counter of a unit is the number of lines with its word.
use Rattle.std.proofs.Common.{◌≡◌, ℕ, zero, suc, ◌+◌, ◌*◌, ℤ, pos, ◌+ℤ◌, Bool, true, false, List, [], ◌∷◌, ◌++◌, refl, sym, ap, ap₂, ◌∙◌, true≢false, arith}
use Rattle.std.proofs.lemmas.Int.{ints}
use Rattle.std.specs.Prelude.{◌==◌, if◌then◌else◌, map}
use Rattle.std.specs.Int.{int_gap}
use Rattle.std.specs.List.{flat_map}
use Rattle.fault_counters.specs.Counts.{capped, once, times}
use Rattle.fault_counters.specs.Names.{all_counters}
use Rattle.fault_counters.specs.declared.kinds.Counter.{Counter}
use Rattle.fault_counters.specs.declared.kinds.Counter.TheVariants as counter
use Rattle.air_source.specs.declared.events.Event.{Event}
use Rattle.air_source.specs.declared.events.Event.TheVariants as event
use Rattle.air_source.specs.declared.events.Side.{Side}
use Rattle.air_source.specs.declared.events.Side.TheVariants.{Ru, Du}
use Rattle.window_config.specs.declared.config.Config.{Config}
use Rattle.unit_model.specs.Counts.{cells_counted}
use Rattle.fh_base.specs.Lists.{each_tick, onto}
use Rattle.unit_model.specs.Meetings.{Arrival}
use Rattle.unit_model.specs.Radiated.{first_clock}
use Rattle.unit_model.specs.Reports.{arrivals_counted}
use Rattle.unit_model.proofs.CountLemmas.{times-append}
use Rattle.replay_laws.specs.Events.{all_counted, arrivals_at, cells_reported_at, count_event, count_events, events, events_at, events_between, is_measured, number_of}
use Rattle.unit_model.specs.Heard.{arrivals_heard}
use Rattle.replay_laws.specs.Moments.{all_arrivals, arrivals_in, end_of_time, landing_at}
use Rattle.replay_laws.specs.Traffic.{Traffic, landings_at, reported_at}
use Rattle.replay_laws.proofs.CameLemmas.{next_first, none_first}
use Rattle.replay_laws.proofs.OnceLemmas.{cells_are_reported}
use Rattle.explain_model.specs.Cells.{event_lines}
use Rattle.explain_laws.specs.Counted.{CountersAreLines, LinesAreCounters, delay_count, word_count}
use Rattle.explain_laws.proofs.CountLemmas.{any_events}
use Rattle.unit_model.proofs.ArrivalLemmas.{arrivals-append, arrivals-cells, arrivals-none, arrivals-other, arrivals-own}

-- ---- the arrivals of a replay

four : (side : Side) (earlier : List Arrival) (a b x d : List Event)
    → arrivals_heard side earlier (a ++ (b ++ (x ++ d))) ≡ arrivals_heard side (arrivals_heard side (arrivals_heard side (arrivals_heard side earlier a) b) x) d
four side earlier a b x d =
    arrivals-append side earlier a (b ++ (x ++ d))
    ∙ arrivals-append side (arrivals_heard side earlier a) b (x ++ d)
    ∙ arrivals-append side (arrivals_heard side (arrivals_heard side earlier a) b) x d

heard_then : (side : Side) (c : Config) (t : Traffic) (tick : ℤ) (earlier : List Arrival)
    → arrivals_heard side earlier (events_at c t tick) ≡ onto earlier (landing_at (landings_at side t) tick)
unfolding events_at
heard_then Ru c t tick earlier =
    let cells = map event.Cell (cells_reported_at Ru c t tick) in
    let own = landing_at t.at_ru tick in
    let after = onto earlier own in
    four Ru earlier cells (arrivals_at Ru t tick) (arrivals_at Du t tick) (map event.Cell (cells_reported_at Du c t tick))
    ∙ ap (λ h. arrivals_heard Ru (arrivals_heard Ru (arrivals_heard Ru h (arrivals_at Ru t tick)) (arrivals_at Du t tick)) (map event.Cell (cells_reported_at Du c t tick))) (arrivals-cells Ru earlier (cells_reported_at Ru c t tick))
    ∙ ap (λ h. arrivals_heard Ru (arrivals_heard Ru h (arrivals_at Du t tick)) (map event.Cell (cells_reported_at Du c t tick))) (arrivals-own Ru earlier (t.results Ru tick) own)
    ∙ ap (λ h. arrivals_heard Ru h (map event.Cell (cells_reported_at Du c t tick))) (arrivals-other Ru Du after (t.results Du tick) (landing_at t.at_du tick) refl)
    ∙ arrivals-cells Ru after (cells_reported_at Du c t tick)
heard_then Du c t tick earlier =
    let cells = map event.Cell (cells_reported_at Ru c t tick) in
    let own = landing_at t.at_du tick in
    let after = onto earlier own in
    four Du earlier cells (arrivals_at Ru t tick) (arrivals_at Du t tick) (map event.Cell (cells_reported_at Du c t tick))
    ∙ ap (λ h. arrivals_heard Du (arrivals_heard Du (arrivals_heard Du h (arrivals_at Ru t tick)) (arrivals_at Du t tick)) (map event.Cell (cells_reported_at Du c t tick))) (arrivals-cells Du earlier (cells_reported_at Ru c t tick))
    ∙ ap (λ h. arrivals_heard Du (arrivals_heard Du h (arrivals_at Du t tick)) (map event.Cell (cells_reported_at Du c t tick))) (arrivals-other Du Ru earlier (t.results Ru tick) (landing_at t.at_ru tick) refl)
    ∙ ap (λ h. arrivals_heard Du h (map event.Cell (cells_reported_at Du c t tick))) (arrivals-own Du earlier (t.results Du tick) own)
    ∙ arrivals-cells Du after (cells_reported_at Du c t tick)

next_tick : (m : ℕ) → (first_clock +ℤ pos m) +ℤ pos 1 ≡ first_clock +ℤ pos (suc m)
next_tick m = omega (arith, ints)

no_ticks : (from : ℤ) (f : ℤ → List Event) → each_tick from 0 f ≡ []
unfolding each_tick
no_ticks from f = refl

more_ticks : (from : ℤ) (n : ℕ) (f : ℤ → List Event) → each_tick from (suc n) f ≡ f from ++ each_tick (from +ℤ pos 1) n f
unfolding each_tick
more_ticks from n f = refl

module _ (side : Side) (c : Config) (t : Traffic) where
  heard_ticks : (n m k : ℕ) → m + n ≡ k → arrivals_heard side (arrivals_in (landings_at side t) m) (each_tick (first_clock +ℤ pos m) n (events_at c t)) ≡ arrivals_in (landings_at side t) k
  heard_ticks zero m k is =
      ap (arrivals_heard side (arrivals_in (landings_at side t) m)) (no_ticks (first_clock +ℤ pos m) (events_at c t))
      ∙ arrivals-none side (arrivals_in (landings_at side t) m)
      ∙ ap (arrivals_in (landings_at side t)) (omega (arith, is))
  heard_ticks (suc n) m k is =
      let l = landings_at side t in
      let from = first_clock +ℤ pos m in
      ap (arrivals_heard side (arrivals_in l m)) (more_ticks from n (events_at c t))
      ∙ arrivals-append side (arrivals_in l m) (events_at c t from) (each_tick (from +ℤ pos 1) n (events_at c t))
      ∙ ap (λ h. arrivals_heard side h (each_tick (from +ℤ pos 1) n (events_at c t))) (heard_then side c t from (arrivals_in l m) ∙ sym (next_first l m))
      ∙ ap (λ z. arrivals_heard side (arrivals_in l (suc m)) (each_tick z n (events_at c t))) (next_tick m)
      ∙ heard_ticks n (suc m) k (omega (arith, is))

-- ---- the counters tell no arrivals

no_arrival : (side other : Side) (b : Bool) (k : Counter) (n : ℕ) (earlier : List Arrival)
    → arrivals_heard side earlier (let es : List Event = if b then [] else event.Count other k n ∷ [] in es) ≡ earlier
unfolding arrivals_heard
no_arrival side other true k n earlier = refl
no_arrival side other false k n earlier = refl

no_arrivals : (side other : Side) (f : Counter → ℕ) (ks : List Counter) (earlier : List Arrival) → arrivals_heard side earlier (flat_map (λ k. count_event other (f k) k) ks) ≡ earlier
no_arrivals side other f [] earlier = arrivals-none side earlier
no_arrivals side other f (k ∷ ks) earlier =
    arrivals-append side earlier (count_event other (f k) k) (flat_map (λ j. count_event other (f j) j) ks)
    ∙ ap (λ h. arrivals_heard side h (flat_map (λ j. count_event other (f j) j) ks)) (no_arrival side other (f k == 0) k (f k) earlier)
    ∙ no_arrivals side other f ks earlier

none_of_counts : (side other : Side) (c : Config) (t : Traffic) (earlier : List Arrival) → arrivals_heard side earlier (count_events other c t) ≡ earlier
unfolding count_events
none_of_counts side other c t earlier = no_arrivals side other (number_of other c t) all_counters earlier

from_first : (n : ℕ) → first_clock ≡ first_clock +ℤ pos 0
from_first n = omega (arith, ints)

heard_in : (side : Side) (c : Config) (t : Traffic) (n : ℕ) → arrivals_heard side [] (each_tick first_clock n (events_at c t)) ≡ arrivals_in (landings_at side t) n
heard_in side c t n =
    ap₂ (λ h z. arrivals_heard side h (each_tick z n (events_at c t))) (sym (none_first (landings_at side t))) (from_first n)
    ∙ heard_ticks side c t n 0 n (omega arith)

pub arrivals_are : (side : Side) (c : Config) (t : Traffic) → arrivals_heard side [] (events c t) ≡ all_arrivals (landings_at side t)
unfolding events
arrivals_are side c t =
    let n = int_gap first_clock (end_of_time +ℤ pos 1) in
    let told = events_between c t first_clock (end_of_time +ℤ pos 1) in
    arrivals-append side [] told (count_events Ru c t ++ count_events Du c t)
    ∙ ap (λ h. arrivals_heard side h (count_events Ru c t ++ count_events Du c t)) (heard_in side c t n)
    ∙ arrivals-append side (all_arrivals (landings_at side t)) (count_events Ru c t) (count_events Du c t)
    ∙ ap (λ h. arrivals_heard side h (count_events Du c t)) (none_of_counts side Ru c t (all_arrivals (landings_at side t)))
    ∙ none_of_counts side Du c t (all_arrivals (landings_at side t))

-- ---- the counters

none_of_delays : (k : Counter) → is_measured k ≡ false → once counter.DelayResult k ≡ 0
none_of_delays counter.Frames is = refl
none_of_delays counter.FramesRefused is = refl
none_of_delays counter.Messages is = refl
none_of_delays counter.OtherType is = refl
none_of_delays counter.Delay is = refl
none_of_delays counter.Short is = refl
none_of_delays counter.UnknownEndpoint is = refl
none_of_delays counter.WrongWay is = refl
none_of_delays counter.CRefused is = refl
none_of_delays counter.CMismatch is = refl
none_of_delays counter.CLate is = refl
none_of_delays counter.CEarly is = refl
none_of_delays counter.CRange is = refl
none_of_delays counter.CRepeat is = refl
none_of_delays counter.COverlap is = refl
none_of_delays counter.CFull is = refl
none_of_delays counter.CAccepted is = refl
none_of_delays counter.FStored is = refl
none_of_delays counter.FWhole is = refl
none_of_delays counter.FRepeat is = refl
none_of_delays counter.FStray is = refl
none_of_delays counter.FLong is = refl
none_of_delays counter.URefused is = refl
none_of_delays counter.ULate is = refl
none_of_delays counter.UEarly is = refl
none_of_delays counter.URepeat is = refl
none_of_delays counter.UTaken is = refl
none_of_delays counter.Cells is = refl
none_of_delays counter.Missing is = refl
none_of_delays counter.DelayShort is = absurd (true≢false is)
none_of_delays counter.DelayUnknown is = absurd (true≢false is)
none_of_delays counter.DelayRepeat is = absurd (true≢false is)
none_of_delays counter.DelayResult is = absurd (true≢false is)

summed : (a x d o : ℕ) → o ≡ 0 → a + (x + d * o) ≡ a + x
summed a x d o is = rw is (omega arith)

words_are : (c : Config) (t : Traffic) (side : Side) (k : Counter) → is_measured k ≡ false → word_count side k (event_lines c (events c t)) ≡ times (all_counted side c t) k
words_are c t side k is =
    any_events c (events c t) side k
    ∙ ap₂ (λ h cells. times (arrivals_counted side c h) k + (times (cells_counted cells) k + delay_count side (events c t) * once counter.DelayResult k)) (arrivals_are side c t) (cells_are_reported side c t)
    ∙ summed (times (arrivals_counted side c (all_arrivals (landings_at side t))) k)
    (times (cells_counted (reported_at side c t.planned (all_arrivals (landings_at side t)) end_of_time)) k) (delay_count side (events c t)) (once counter.DelayResult k) (none_of_delays k is)
    ∙ sym (times-append (arrivals_counted side c (all_arrivals (landings_at side t))) (cells_counted (reported_at side c t.planned (all_arrivals (landings_at side t)) end_of_time)) k)

replayed : (c : Config) (t : Traffic) → LinesAreCounters c t
unfolding number_of
replayed c t side k is =
    ap (λ (b : Bool). capped (times (if b then t.counted side else all_counted side c t) k)) is
    ∙ ap capped (sym (words_are c t side k is))

pub are_lines : CountersAreLines
are_lines = record { any = any_events; replayed = replayed }
