-- The events up to a tick, and the end.
use Rattle.std.proofs.Common.{◌≡◌, ℤ, pos, ◌+ℤ◌, ◌-ℤ◌, ◌≤ℤ◌, ◌<ℤ◌, List, [], ◌++◌, sym, ap, ap₂, ◌∙◌, arith, append-nil}
use Rattle.std.specs.Prelude.{map}
use Rattle.std.proofs.lemmas.Int.{ints}
use Rattle.std.specs.Int.Signed.{<ℤ-≤ℤ_trans}
use Rattle.air_source.specs.declared.events.AirCell.{AirCell}
use Rattle.air_source.specs.declared.events.Event.{Event}
use Rattle.air_source.specs.declared.events.Event.TheVariants as event
use Rattle.air_source.specs.declared.events.Side.{Side}
use Rattle.air_source.specs.declared.events.Side.TheVariants.{Ru, Du}
use Rattle.window_config.specs.declared.config.Config.{Config}
use Rattle.unit_model.specs.Meetings.{Arrival}
use Rattle.unit_model.specs.Radiated.{first_clock, symbol_report, wait_of}
use Rattle.unit_model.specs.Sweeps.{at_tick}
use Rattle.unit_laws.proofs.HistoryTicks.{before_next, last_of_next}
use Rattle.replay_laws.specs.Events.{arrivals_at, cells_reported_at, events_at, events_between}
use Rattle.unit_model.specs.Events.{arrivals_told}
use Rattle.replay_laws.specs.Moments.{all_arrivals, arrivals_before, end_of_time}
use Rattle.replay_laws.specs.Passing.{AllIsOver, EventsGoOn, EventsWait, IsNextMoment, seen_before}
use Rattle.replay_laws.specs.Traffic.{Traffic, known_at, landings_at, reported_at}
use Rattle.unit_model.proofs.ToldLemmas.{none_told}
use Rattle.replay_laws.proofs.CameLemmas.{calm_adds_nothing, calm_in_part}
use Rattle.replay_laws.proofs.MomentLemmas.{calm_before, cells_settled, quiet_before, reported_before_moment, seen_by, seen_later}
use Rattle.replay_laws.proofs.TickLemmas.{no_ticks, tick_alone, tick_empty, ticks_append}
use Rattle.fh_base.proofs.Orders.{at_most, next_after, next_is_later}

pub events_go_on : EventsGoOn
events_go_on c x tick begun =
    let f = events_at c x in
    ticks_append f first_clock tick (tick +ℤ pos 1) begun (next_is_later tick)
    ∙ ap (λ (xs : List Event). events_between c x first_clock tick ++ xs) (tick_alone f tick)

waited_most : (a b wait : ℤ) → a ≤ℤ b → (a -ℤ wait) ≤ℤ (b -ℤ wait)
waited_most a b wait h = omega (arith, ints)

waited_less : (a b wait : ℤ) → a <ℤ b → (a -ℤ wait) <ℤ (b -ℤ wait)
waited_less a b wait h = omega (arith, ints)

-- before the next moment a tick has no cells of a unit
no_cells : (side : Side) (c : Config) (x : Traffic) (now tick t : ℤ) → IsNextMoment c x now tick → now ≤ℤ t → t <ℤ tick → cells_reported_at side c x t ≡ []
no_cells side c x now tick t next low high =
    let es = c.endpoints in
    let landings = landings_at side x in
    let w = wait_of side c.delays in
    let unit = next.units side in
    let seen = seen_before side t in
    let same = calm_adds_nothing landings now seen next.begun (at_most now t seen low (seen_later side t))
    (calm_in_part landings now seen tick (at_most seen (t +ℤ pos 1) tick (seen_by side t t (here t)) (next_after t tick high)) unit.calm) in
    cells_settled side c x t next.config unit.landings_are (at_most first_clock now t next.begun low)
    (before_next t end_of_time (<ℤ-≤ℤ_trans high next.ended))
    ∙ ap (λ (xs : List Arrival). at_tick (symbol_report side (known_at side c x.planned xs)) es (t -ℤ w)) same
    ∙ tick_empty (symbol_report side (known_at side c x.planned (arrivals_before landings now))) es (now -ℤ w) (t -ℤ w) (tick -ℤ w) (waited_most now t w low) (waited_less t tick w high)
    (quiet_before side c x now tick next)
  where
    here : (a : ℤ) → a ≤ℤ a
    here a = omega (arith, ints)

no_arrivals : (side : Side) (c : Config) (x : Traffic) (now tick t : ℤ) → IsNextMoment c x now tick → now ≤ℤ t → t <ℤ tick → arrivals_at side x t ≡ []
no_arrivals side c x now tick t next low high = ap (arrivals_told side (x.results side t)) ((next.units side).calm t low high) ∙ none_told side (x.results side t)

-- so it has no events
no_events : (c : Config) (x : Traffic) (now tick t : ℤ) → IsNextMoment c x now tick → now ≤ℤ t → t <ℤ tick → events_at c x t ≡ []
unfolding events_at
no_events c x now tick t next low high =
    ap₂ (λ (cs : List AirCell) (es : List Event). map event.Cell cs ++ (es ++ (arrivals_at Du x t ++ map event.Cell (cells_reported_at Du c x t))))
    (no_cells Ru c x now tick t next low high) (no_arrivals Ru c x now tick t next low high)
    ∙ ap₂ (λ (es : List Event) (cs : List AirCell). es ++ map event.Cell cs) (no_arrivals Du c x now tick t next low high) (no_cells Du c x now tick t next low high)

pub events_wait : EventsWait
events_wait c x now tick next =
    let f = events_at c x in
    let earlier = events_between c x first_clock now in
    ticks_append f first_clock now tick next.begun next.order
    ∙ ap (λ (xs : List Event). earlier ++ xs) (no_ticks f now tick next.order (λ t low high. no_events c x now tick t next low high))
    ∙ append-nil earlier

pub all_is_over : AllIsOver
all_is_over side c x now next =
    let end = end_of_time +ℤ pos 1 in
    let told = reported_before_moment side c x now end next in (
      calm_before side c x now end next,
      ap (λ (t : ℤ). reported_at side c x.planned (all_arrivals (landings_at side x)) t) (sym (last_of_next end_of_time)) ∙ sym told,
    )
