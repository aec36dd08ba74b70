-- What is known of the radio unit's uplink as time passes.
use Rattle.std.specs.Prelude.{◌≡◌, ℤ, pos, ◌+ℤ◌, ◌-ℤ◌, ◌≤ℤ◌, ◌<ℤ◌, List, [], ◌++◌, All, length}
use Rattle.window_config.specs.Configs.{IsConfig}
use Rattle.window_config.specs.declared.config.Config.{Config}
use Rattle.unit_model.specs.Meetings.{Arrival}
use Rattle.unit_model.specs.Radiated.{first_clock}
use Rattle.unit_model.specs.Reports.{accepted_of}
use Rattle.unit_model.specs.Times.{end_of_time}
use Rattle.unit_model.specs.Uplink.{jobs}
use Rattle.unit_model.specs.declared.jobs.UplinkJob.{UplinkJob}
use Rattle.plan_model.specs.Packs.{Message}
use Rattle.replay_laws.specs.Moments.{arrivals_before}
use Rattle.replay_laws.specs.Passing.{AreLandings}
use Rattle.uplink_model.specs.Frames.{Antenna}
use Rattle.uplink_model.specs.Sent.{in_sent_order}
use Rattle.uplink_model.specs.SentLaws.{AreOf}
use Rattle.uplink_laws.specs.Turns.{handed_at, handed_behind, handed_between, handed_until, jobs_of_tick, jobs_between, jobs_until, leaving_of_handed, left_from, messages_of_tick, messages_between, messages_until, leaving_in_turn}

-- ---- jobs

-- what was received before a tick tells the jobs whose symbols start by the tick
abbrev pub JobsAreSettled : Type 0
JobsAreSettled =
    (c : Config) (landings : List Arrival) (to seen : ℤ) → IsConfig c → AreLandings landings → first_clock ≤ℤ seen → seen ≤ℤ (end_of_time +ℤ pos 1) → to ≤ℤ seen
    → jobs c.endpoints (accepted_of c (arrivals_before landings seen)) to ≡ jobs_until c landings to

-- those up to a tick are those before it, and those of the tick
abbrev pub JobsGoOn : Type 0
JobsGoOn =
    (c : Config) (landings : List Arrival) (tick : ℤ) → first_clock ≤ℤ tick
    → jobs_until c landings tick ≡ jobs_until c landings (tick -ℤ pos 1) ++ jobs_of_tick c landings tick

-- and those before an earlier tick, and those from it on
abbrev pub JobsGoOnFrom : Type 0
JobsGoOnFrom =
    (c : Config) (landings : List Arrival) (now tick : ℤ) → first_clock ≤ℤ now → now ≤ℤ (tick +ℤ pos 1)
    → jobs_until c landings tick ≡ jobs_until c landings (now -ℤ pos 1) ++ jobs_between c landings now (tick +ℤ pos 1)

-- before a unit's clock begins there are none
abbrev pub NoJobsBefore : Type 0
NoJobsBefore = (c : Config) (landings : List Arrival) (to : ℤ) → to <ℤ first_clock → jobs_until c landings to ≡ []

-- and by its first tick none either: nothing was received before it
abbrev pub NoJobsYet : Type 0
NoJobsYet = (c : Config) (landings : List Arrival) (to : ℤ) → IsConfig c → AreLandings landings → to ≤ℤ first_clock → jobs_until c landings to ≡ []

-- each starts when it is said to
abbrev pub JobsStartThen : Type 0
JobsStartThen = (c : Config) (landings : List Arrival) (tick : ℤ) → All (λ j. j.s.0 ≡ tick) (jobs_of_tick c landings tick)

abbrev pub JobsStartBetween : Type 0
JobsStartBetween =
    (c : Config) (landings : List Arrival) (from end : ℤ) → All (λ j. (from ≤ℤ j.s.0) × (j.s.0 <ℤ end)) (jobs_between c landings from end)

-- ---- messages: none is of two ticks

abbrev pub MessagesGoOn : Type 0
MessagesGoOn =
    (c : Config) (landings : List Arrival) (tick : ℤ) → first_clock ≤ℤ tick
    → messages_until c landings tick ≡ messages_until c landings (tick -ℤ pos 1) ++ messages_of_tick c landings tick

abbrev pub MessagesGoOnFrom : Type 0
MessagesGoOnFrom =
    (c : Config) (landings : List Arrival) (now tick : ℤ) → first_clock ≤ℤ now → now ≤ℤ (tick +ℤ pos 1)
    → messages_until c landings tick ≡ messages_until c landings (now -ℤ pos 1) ++ messages_between c landings now (tick +ℤ pos 1)

-- ---- frames, as they are handed over

abbrev pub HandedGoOn : Type 0
HandedGoOn =
    (c : Config) (antenna : Antenna) (landings : List Arrival) (tick : ℤ) → first_clock ≤ℤ tick
    → handed_until c antenna landings tick ≡ handed_until c antenna landings (tick -ℤ pos 1) ++ handed_at c antenna landings tick

abbrev pub HandedGoOnFrom : Type 0
HandedGoOnFrom =
    (c : Config) (antenna : Antenna) (landings : List Arrival) (now tick : ℤ) → first_clock ≤ℤ now → now ≤ℤ (tick +ℤ pos 1)
    → handed_until c antenna landings tick ≡ handed_until c antenna landings (now -ℤ pos 1) ++ handed_between c antenna landings now (tick +ℤ pos 1)

-- before a unit's clock begins there are none
abbrev pub NoneHandedBefore : Type 0
NoneHandedBefore = (c : Config) (antenna : Antenna) (landings : List Arrival) (to : ℤ) → to <ℤ first_clock → handed_until c antenna landings to ≡ []

-- each is of an endpoint of the configuration
abbrev pub HandedAreOf : Type 0
HandedAreOf = (c : Config) (antenna : Antenna) (landings : List Arrival) (t : ℤ) → AreOf (length c.endpoints) (handed_until c antenna landings t)

abbrev pub HandedBehindAreOf : Type 0
HandedBehindAreOf =
    (c : Config) (antenna : Antenna) (landings : List Arrival) (tick : ℤ) (ms : List (Message UplinkJob))
    → AreOf (length c.endpoints) (handed_behind c antenna landings tick ms)

-- a tick's frames leave in it or later
abbrev pub HandedLeaveLater : Type 0
HandedLeaveLater =
    (c : Config) (antenna : Antenna) (landings : List Arrival) (tick : ℤ) → IsConfig c → All (λ f. tick ≤ℤ f.at.0) (handed_at c antenna landings tick)

abbrev pub HandedLeaveFrom : Type 0
HandedLeaveFrom =
    (c : Config) (antenna : Antenna) (landings : List Arrival) (from end : ℤ) → IsConfig c → All (λ f. from ≤ℤ f.at.0) (handed_between c antenna landings from end)

-- ---- frames, as they are sent

-- what is handed over after a tick changes nothing of what leaves by it
abbrev pub LeavingIsSettled : Type 0
LeavingIsSettled =
    (c : Config) (antenna : Antenna) (landings : List Arrival) (t tick later : ℤ) → IsConfig c → first_clock ≤ℤ tick → t ≤ℤ tick → tick ≤ℤ later
    → leaving_of_handed c antenna landings later t ≡ leaving_of_handed c antenna landings tick t

-- those that leave from a tick on are those of the tick, and those that leave after it
abbrev pub LeftGoesOn : Type 0
LeftGoesOn =
    (c : Config) (antenna : Antenna) (landings : List Arrival) (now : ℤ) → IsConfig c → first_clock ≤ℤ now → now ≤ℤ end_of_time
    → left_from c antenna landings now ≡ leaving_in_turn c antenna landings now ++ left_from c antenna landings (now +ℤ pos 1)

-- nothing starts from one tick on and before another, and of what was handed over before nothing leaves
pub record IsSilentTurn (c : Config) (antenna : Antenna) (landings : List Arrival) (now tick : ℤ) : Type 0 where
  pub none_starts : jobs_until c landings (tick -ℤ pos 1) ≡ jobs_until c landings (now -ℤ pos 1)
  pub none_leaves : (t : ℤ) → now ≤ℤ t → t <ℤ tick → leaving_of_handed c antenna landings (now -ℤ pos 1) t ≡ []

-- then the same frames are left
abbrev pub LeftWaits : Type 0
LeftWaits =
    (c : Config) (antenna : Antenna) (landings : List Arrival) (now tick : ℤ) → IsConfig c → first_clock ≤ℤ now → now ≤ℤ tick → tick ≤ℤ (end_of_time +ℤ pos 1)
    → IsSilentTurn c antenna landings now tick → left_from c antenna landings now ≡ left_from c antenna landings tick

-- from the beginning they are all, in the sent order
abbrev pub LeftIsAll : Type 0
LeftIsAll =
    (c : Config) (antenna : Antenna) (landings : List Arrival)
    → left_from c antenna landings first_clock ≡ in_sent_order (length c.endpoints) (handed_until c antenna landings end_of_time)

-- after the end there are none
abbrev pub LeftEnds : Type 0
LeftEnds = (c : Config) (antenna : Antenna) (landings : List Arrival) (now : ℤ) → end_of_time <ℤ now → left_from c antenna landings now ≡ []

-- each leaves at the tick or later
abbrev pub LeftLeaveLater : Type 0
LeftLeaveLater = (c : Config) (antenna : Antenna) (landings : List Arrival) (now : ℤ) → All (λ f. now ≤ℤ f.at.0) (left_from c antenna landings now)
