-- No message is of two ticks.
use Rattle.std.proofs.Common.{◌≡◌, ℤ, pos, ◌+ℤ◌, ◌-ℤ◌, ◌≤ℤ◌, ◌<ℤ◌, List, ◌++◌, sym, ap, ◌∙◌, arith}
use Rattle.std.proofs.lemmas.Int.{by_lt_z, ints}
use Rattle.window_config.specs.declared.config.Config.{Config}
use Rattle.unit_model.specs.Meetings.{Arrival}
use Rattle.unit_model.specs.Radiated.{first_clock}
use Rattle.unit_model.specs.Sweeps.{sweep}
use Rattle.unit_model.specs.Uplink.{symbol_jobs}
use Rattle.unit_model.specs.declared.jobs.UplinkJob.{UplinkJob}
use Rattle.unit_laws.proofs.HistoryTicks.{next_of_last}
use Rattle.replay_laws.proofs.TickLemmas.{sweep_alone}
use Rattle.uplink_model.specs.Messages.{uplink_messages_of}
use Rattle.uplink_laws.proofs.TurnLemmas.{messages_end_in_time}
use Rattle.uplink_laws.specs.TurnLaws.{MessagesGoOn, MessagesGoOnFrom}
use Rattle.uplink_laws.specs.Turns.{all_accepted, jobs_between, messages_between, messages_until}
use Rattle.uplink_laws.proofs.TurnJobs.{jobs_go_on_from, no_jobs_before}
use Rattle.fh_base.proofs.Orders.{next_is_later}

pub last_by : (tick end : ℤ) → tick ≤ℤ (end +ℤ pos 1) → (tick -ℤ pos 1) ≤ℤ end
last_by tick end h = omega (arith, ints)

-- those of the first ticks, before which there are none
from_none : (c : Config) (landings : List Arrival) (now tick : ℤ) → first_clock ≤ℤ now → now ≤ℤ (tick +ℤ pos 1) → (now -ℤ pos 1) <ℤ first_clock
    → messages_until c landings tick ≡ messages_until c landings (now -ℤ pos 1) ++ messages_between c landings now (tick +ℤ pos 1)
from_none c landings now tick begun order early =
    let none = no_jobs_before c landings (now -ℤ pos 1) early in
    let rest = jobs_between c landings now (tick +ℤ pos 1) in
    ap (uplink_messages_of c) (jobs_go_on_from c landings now tick begun order ∙ ap (λ (js : List UplinkJob). js ++ rest) none)
    ∙ sym (ap (λ (js : List UplinkJob). uplink_messages_of c js ++ uplink_messages_of c rest) none)

-- and those of later ones
from_some : (c : Config) (landings : List Arrival) (now tick : ℤ) → now ≤ℤ (tick +ℤ pos 1) → first_clock ≤ℤ (now -ℤ pos 1)
    → messages_until c landings tick ≡ messages_until c landings (now -ℤ pos 1) ++ messages_between c landings now (tick +ℤ pos 1)
from_some c landings now tick order begun =
    let g = symbol_jobs (all_accepted c landings) in
    let earlier = messages_until c landings (now -ℤ pos 1) in
    messages_end_in_time c (all_accepted c landings) (now -ℤ pos 1) tick begun (last_by now tick order)
    ∙ ap (λ (t : ℤ). earlier ++ uplink_messages_of c (sweep g c.endpoints t (tick +ℤ pos 1))) (next_of_last now)

pub messages_go_on_from : MessagesGoOnFrom
messages_go_on_from c landings now tick begun order =
    by_lt_z (now -ℤ pos 1) first_clock (from_none c landings now tick begun order) (from_some c landings now tick order)

pub messages_go_on : MessagesGoOn
messages_go_on c landings tick begun =
    let earlier = messages_until c landings (tick -ℤ pos 1) in
    messages_go_on_from c landings tick tick begun (next_is_later tick)
    ∙ ap (λ (js : List UplinkJob). earlier ++ uplink_messages_of c js) (sweep_alone (symbol_jobs (all_accepted c landings)) c.endpoints tick)
