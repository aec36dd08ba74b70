-- How the jobs that a radio unit has given are related to those of all that lands at it.
use Rattle.std.specs.Prelude.{◌≡◌, ℤ, pos, ◌+ℤ◌, ◌-ℤ◌, ◌≤ℤ◌, ◌<ℤ◌, List, [], ◌++◌, ◌⊎◌}
use Rattle.air_source.specs.declared.events.Side.TheVariants.{Ru}
use Rattle.window_config.specs.Configs.{IsConfig}
use Rattle.window_config.specs.declared.config.Config.{Config}
use Rattle.unit_model.specs.Meetings.{Arrival}
use Rattle.unit_model.specs.Radiated.{Known, first_clock}
use Rattle.unit_model.specs.Standing.{History, IsHistory, owed_until}
use Rattle.unit_model.specs.Times.{end_of_time}
use Rattle.replay_laws.specs.Moments.{arrivals_before}
use Rattle.replay_laws.specs.Passing.{AreLandings}
use Rattle.uplink_laws.specs.Turns.{jobs_of_tick, jobs_until}

-- all that landed before a tick arrived in it, and no more
pub record HasSeen (c : Config) (landings : List Arrival) (seen : ℤ) (h : History) : Type 0 where
  pub config : IsConfig c
  pub landings_are : AreLandings landings
  pub begun : first_clock ≤ℤ seen
  pub ended : seen ≤ℤ (end_of_time +ℤ pos 1)
  pub arrivals : h.arrivals ≡ arrivals_before landings seen

-- where all before a tick were given, it has those of the tick to give
abbrev pub OwesTick : Type 0
OwesTick =
    (c : Config) (landings : List Arrival) (tick seen : ℤ) (h : History) → HasSeen c landings seen h → first_clock ≤ℤ tick → tick ≤ℤ seen
    → h.given ≡ jobs_until c landings (tick -ℤ pos 1) → owed_until c h tick ≡ jobs_of_tick c landings tick

-- and once it gave them, all up to the tick are given
abbrev pub GivesTick : Type 0
GivesTick =
    (c : Config) (landings : List Arrival) (tick seen : ℤ) (h : History) → HasSeen c landings seen h → first_clock ≤ℤ tick → tick ≤ℤ seen
    → h.given ≡ jobs_until c landings (tick -ℤ pos 1) → h.given ++ owed_until c h tick ≡ jobs_until c landings tick

-- where all before a tick were given and none is owed up to a time, none starts from the tick on up to it
abbrev pub OwesNone : Type 0
OwesNone =
    (c : Config) (landings : List Arrival) (now to seen : ℤ) (h : History) → HasSeen c landings seen h → first_clock ≤ℤ now → now ≤ℤ (to +ℤ pos 1) → to ≤ℤ seen
    → h.given ≡ jobs_until c landings (now -ℤ pos 1) → owed_until c h to ≡ [] → jobs_until c landings to ≡ jobs_until c landings (now -ℤ pos 1)

-- what a history gave, and what it owes up to a time that is not before its clock, are all up to that time
abbrev pub GivenAndOwed : Type 0
GivenAndOwed =
    (c : Config) (landings : List Arrival) (to seen : ℤ) (h : History) (k : Known) → HasSeen c landings seen h → to ≤ℤ seen → h.clock ≤ℤ to → IsHistory Ru c k h
    → h.given ++ owed_until c h to ≡ jobs_until c landings to

-- so where none is owed up to that time, all up to it were given
abbrev pub GivenIsAll : Type 0
GivenIsAll =
    (c : Config) (landings : List Arrival) (to seen : ℤ) (h : History) (k : Known) → HasSeen c landings seen h → to ≤ℤ seen → h.clock ≤ℤ to → IsHistory Ru c k h
    → owed_until c h to ≡ [] → h.given ≡ jobs_until c landings to

-- and at the start of a tick, which the clock has not reached, or which is the first, all before the tick were given
abbrev pub GivenBefore : Type 0
GivenBefore =
    (c : Config) (landings : List Arrival) (now : ℤ) (h : History) (k : Known) → HasSeen c landings now h → (h.clock <ℤ now) ⊎ (now ≡ first_clock) → IsHistory Ru c k h
    → owed_until c h (now -ℤ pos 1) ≡ [] → h.given ≡ jobs_until c landings (now -ℤ pos 1)
