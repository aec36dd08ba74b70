-- What a replay's loop rests on as time passes.
use Rattle.std.specs.Prelude.{◌≡◌, ℤ, pos, ◌+ℤ◌, ◌-ℤ◌, ◌≤ℤ◌, ◌<ℤ◌, List, [], ◌++◌, All}
use Rattle.air_source.specs.declared.events.AirCell.{AirCell}
use Rattle.air_source.specs.declared.events.Side.{Side}
use Rattle.air_source.specs.declared.events.Side.TheVariants.{Ru, Du}
use Rattle.window_config.specs.Configs.{IsConfig}
use Rattle.window_config.specs.declared.config.Config.{Config}
use Rattle.fh_base.specs.Lists.{onto}
use Rattle.unit_model.specs.Meetings.{Arrival}
use Rattle.unit_model.specs.Proper.{IsTime}
use Rattle.unit_model.specs.Radiated.{first_clock}
use Rattle.unit_model.specs.Reports.{accepted_of}
use Rattle.unit_model.specs.Standing.{AreInTime, due, past_of}
use Rattle.unit_model.specs.Times.{last_landing}
use Rattle.unit_model.specs.Uplink.{jobs}
use Rattle.replay_laws.specs.Events.{cells_reported_at, events_at, events_between}
use Rattle.replay_laws.specs.Moments.{all_arrivals, arrivals_before, end_of_time, landing_at}
use Rattle.replay_laws.specs.Traffic.{Traffic, known_at, landings_at, reported_at}
use Rattle.unit_model.specs.declared.allocations.Allocation.{Allocation}

-- frames that may be replayed: what is told of them is told by the end of time
pub record AreLandings (landings : List Arrival) : Type 0 where
  pub times : All (λ a. IsTime a.at) landings
  pub begun : All (λ a. first_clock ≤ℤ a.at) landings
  pub ended : All (λ a. a.at ≤ℤ last_landing) landings

-- nothing lands from one tick on and before another
abbrev pub IsCalm : List Arrival → ℤ → ℤ → Type 0
IsCalm landings from to = (tick : ℤ) → from ≤ℤ tick → tick <ℤ to → landing_at landings tick ≡ []

-- what is due at a unit up to a time, where all its cells of ticks before `now` were reported
abbrev pub due_from : Side → Config → List Allocation → List Arrival → ℤ → ℤ → List AirCell
due_from side c planned landings now to =
    due side c.delays c.endpoints (known_at side c planned (arrivals_before landings now))
    (reported_at side c planned (arrivals_before landings now) (now -ℤ pos 1)) to

-- what has arrived at a unit when it reports the cells of a tick: at the distributed unit what lands at the tick too
abbrev pub seen_before : Side → ℤ → ℤ
seen_before Ru tick = tick
seen_before Du tick = tick +ℤ pos 1

abbrev pub seen_at : Side → List Arrival → ℤ → List Arrival
seen_at side landings tick = arrivals_before landings (seen_before side tick)

-- ---- what was received

-- a tick's frames follow those of the ticks before it
abbrev pub ArrivalsGoOn : Type 0
ArrivalsGoOn =
    (landings : List Arrival) (tick : ℤ) → first_clock ≤ℤ tick
    → arrivals_before landings (tick +ℤ pos 1) ≡ onto (arrivals_before landings tick) (landing_at landings tick)

abbrev pub CalmAddsNothing : Type 0
CalmAddsNothing =
    (landings : List Arrival) (from to : ℤ) → first_clock ≤ℤ from → from ≤ℤ to → IsCalm landings from to
    → arrivals_before landings to ≡ arrivals_before landings from

abbrev pub ArrivalsAreInTime : Type 0
ArrivalsAreInTime =
    (landings : List Arrival) (tick : ℤ) → AreLandings landings
    → AreInTime (tick -ℤ pos 1) (arrivals_before landings tick) × All (λ a. IsTime a.at) (arrivals_before landings tick)

-- ---- what is reported

-- what lands at a unit at a tick or later changes nothing of what it reports whose moment is past then, nor of the messages
abbrev pub ReportedIsSettled : Type 0
ReportedIsSettled =
    (side : Side) (c : Config) (planned : List Allocation) (landings : List Arrival) (to tick later : ℤ) → IsConfig c → AreLandings landings
    → first_clock ≤ℤ tick → to ≤ℤ past_of side tick → tick ≤ℤ later
    → reported_at side c planned (arrivals_before landings later) to ≡ reported_at side c planned (arrivals_before landings tick) to

abbrev pub MessagesAreSettled : Type 0
MessagesAreSettled =
    (c : Config) (landings : List Arrival) (to tick later : ℤ) → IsConfig c → AreLandings landings → first_clock ≤ℤ tick → to ≤ℤ tick → tick ≤ℤ later
    → jobs c.endpoints (accepted_of c (arrivals_before landings later)) to ≡ jobs c.endpoints (accepted_of c (arrivals_before landings tick)) to

-- nothing lands at a unit from `now` on and before a tick, and nothing is due at it before the tick
pub record IsUnitMoment (side : Side) (c : Config) (t : Traffic) (now tick : ℤ) : Type 0 where
  pub landings_are : AreLandings (landings_at side t)
  pub calm : IsCalm (landings_at side t) now tick
  pub quiet : due_from side c t.planned (landings_at side t) now (tick -ℤ pos 1) ≡ []

-- Where it is so at both units: what is due up to the tick are its cells, and no events are between.
pub record IsNextMoment (c : Config) (t : Traffic) (now tick : ℤ) : Type 0 where
  pub config : IsConfig c
  pub begun : first_clock ≤ℤ now
  pub order : now ≤ℤ tick
  pub ended : tick ≤ℤ (end_of_time +ℤ pos 1)
  pub units : (side : Side) → IsUnitMoment side c t now tick

abbrev pub DueAtMoment : Type 0
DueAtMoment =
    (side : Side) (c : Config) (t : Traffic) (now tick : ℤ) → IsNextMoment c t now tick → tick ≤ℤ end_of_time
    → due side c.delays c.endpoints (known_at side c t.planned (seen_at side (landings_at side t) tick))
    (reported_at side c t.planned (arrivals_before (landings_at side t) now) (now -ℤ pos 1)) tick
    ≡ cells_reported_at side c t tick

-- then all cells up to the tick are reported
abbrev pub ReportedAtMoment : Type 0
ReportedAtMoment =
    (side : Side) (c : Config) (t : Traffic) (now tick : ℤ) → IsNextMoment c t now tick → tick ≤ℤ end_of_time
    → reported_at side c t.planned (arrivals_before (landings_at side t) now) (now -ℤ pos 1) ++ cells_reported_at side c t tick
    ≡ reported_at side c t.planned (arrivals_before (landings_at side t) (tick +ℤ pos 1)) tick

-- and up to the tick before it they are
abbrev pub ReportedBeforeMoment : Type 0
ReportedBeforeMoment =
    (side : Side) (c : Config) (t : Traffic) (now tick : ℤ) → IsNextMoment c t now tick
    → reported_at side c t.planned (arrivals_before (landings_at side t) now) (now -ℤ pos 1)
    ≡ reported_at side c t.planned (arrivals_before (landings_at side t) tick) (tick -ℤ pos 1)

-- ---- events

abbrev pub EventsWait : Type 0
EventsWait =
    (c : Config) (t : Traffic) (now tick : ℤ) → IsNextMoment c t now tick
    → events_between c t first_clock tick ≡ events_between c t first_clock now

abbrev pub EventsGoOn : Type 0
EventsGoOn =
    (c : Config) (t : Traffic) (tick : ℤ) → first_clock ≤ℤ tick
    → events_between c t first_clock (tick +ℤ pos 1) ≡ events_between c t first_clock tick ++ events_at c t tick

-- ---- the end: nothing lands any more, and nothing is due

abbrev pub AllIsOver : Type 0
AllIsOver =
    (side : Side) (c : Config) (t : Traffic) (now : ℤ) → IsNextMoment c t now (end_of_time +ℤ pos 1)
    → (all_arrivals (landings_at side t) ≡ arrivals_before (landings_at side t) now)
    × (reported_at side c t.planned (all_arrivals (landings_at side t)) end_of_time
    ≡ reported_at side c t.planned (arrivals_before (landings_at side t) now) (now -ℤ pos 1))
