-- The jobs up to a tick, and those of one.
use Rattle.std.proofs.Common.{◌≡◌, ℤ, pos, ◌+ℤ◌, ◌-ℤ◌, ◌≤ℤ◌, ◌<ℤ◌, List, [], ◌++◌, refl, sym, ap, ◌∙◌, arith}
use Rattle.std.proofs.lemmas.Int.{ints}
use Rattle.std.specs.Int.Signed.{≤ℤ_refl}
use Rattle.window_config.specs.declared.config.Config.{Config}
use Rattle.window_config.specs.declared.endpoints.EndpointConfig.{EndpointConfig}
use Rattle.unit_model.specs.Commands.{accepted}
use Rattle.unit_model.specs.Meetings.{Arrival, commands, meetings}
use Rattle.unit_model.specs.Radiated.{first_clock}
use Rattle.unit_model.specs.Reports.{accepted_of}
use Rattle.unit_model.specs.Sweeps.{sweep}
use Rattle.unit_model.specs.Times.{end_of_time}
use Rattle.unit_model.specs.Uplink.{jobs, symbol_jobs}
use Rattle.unit_model.specs.declared.allocations.Allocation.{Allocation}
use Rattle.unit_model.specs.declared.jobs.UplinkJob.{UplinkJob}
use Rattle.unit_model.proofs.SweepLemmas.{sweep-append, sweep-none, tick-nothing}
use Rattle.unit_laws.proofs.HistoryTicks.{next_of_last}
use Rattle.replay_laws.specs.Moments.{arrivals_before}
use Rattle.replay_laws.proofs.CameLemmas.{none_yet}
use Rattle.replay_laws.proofs.SettledLemmas.{messages_settled}
use Rattle.replay_laws.proofs.TickLemmas.{sweep_alone}
use Rattle.uplink_laws.proofs.StreamJobs.{at_starts, swept_jobs}
use Rattle.uplink_laws.specs.TurnLaws.{JobsAreSettled, JobsGoOn, JobsGoOnFrom, JobsStartBetween, JobsStartThen, NoJobsBefore, NoJobsYet}
use Rattle.uplink_laws.specs.Turns.{all_accepted, jobs_of_tick, jobs_between, jobs_until}
use Rattle.unit_model.proofs.SweepLaws.{sweep_quiet as sweep-nothing}
use Rattle.unit_laws.proofs.AheadLemmas.{no_jobs}
use Rattle.fh_base.proofs.MemberLemmas.{all_of}
use Rattle.fh_base.proofs.Orders.{next_after, next_is_later}

-- ---- up to a time

pub jobs_settled : JobsAreSettled
jobs_settled c landings to seen config are begun ended past =
    sym (messages_settled c landings to seen (end_of_time +ℤ pos 1) config are begun past ended)

pub jobs_go_on_from : JobsGoOnFrom
unfolding jobs
jobs_go_on_from c landings now tick begun order =
    let g = symbol_jobs (all_accepted c landings) in
    let end = tick +ℤ pos 1 in
    sweep-append g c.endpoints first_clock now end begun order
    ∙ ap (λ (t : ℤ). sweep g c.endpoints first_clock t ++ sweep g c.endpoints now end) (sym (next_of_last now))

pub jobs_go_on : JobsGoOn
jobs_go_on c landings tick begun =
    jobs_go_on_from c landings tick tick begun (next_is_later tick)
    ∙ ap (λ (js : List UplinkJob). jobs_until c landings (tick -ℤ pos 1) ++ js) (sweep_alone (symbol_jobs (all_accepted c landings)) c.endpoints tick)

pub no_jobs_before : NoJobsBefore
unfolding jobs
no_jobs_before c landings to early =
    sweep-none (symbol_jobs (all_accepted c landings)) c.endpoints first_clock (to +ℤ pos 1) (next_after to first_clock early)

-- ---- of nothing

none_accepted : (c : Config) → accepted_of c [] ≡ []
unfolding accepted commands meetings
none_accepted c = refl

jobs_of_none : (es : List EndpointConfig) (to : ℤ) → jobs es [] to ≡ []
unfolding jobs
jobs_of_none es to =
    let g = symbol_jobs [] in
    sweep-nothing g es first_clock (to +ℤ pos 1) (λ tick low high. tick-nothing g es tick (λ ep e slot symbol swept. no_jobs ep e slot symbol))

-- where nothing arrived there are none
pub jobs_of_nothing : (c : Config) (arrivals : List Arrival) (to : ℤ) → arrivals ≡ [] → jobs c.endpoints (accepted_of c arrivals) to ≡ []
jobs_of_nothing c arrivals to none =
    ap (λ (xs : List Arrival). jobs c.endpoints (accepted_of c xs) to) none
    ∙ ap (λ (xs : List Allocation). jobs c.endpoints xs to) (none_accepted c)
    ∙ jobs_of_none c.endpoints to

pub no_jobs_yet : NoJobsYet
no_jobs_yet c landings to config are early =
    sym (jobs_settled c landings to first_clock config are (≤ℤ_refl first_clock) begins early)
    ∙ jobs_of_nothing c (arrivals_before landings first_clock) to (none_yet landings first_clock (≤ℤ_refl first_clock))
  where
    begins : first_clock ≤ℤ (end_of_time +ℤ pos 1)
    begins = omega (arith, ints)

-- ---- when they start

pub jobs_start_then : JobsStartThen
jobs_start_then c landings tick =
    all_of (λ (j : UplinkJob). j.s.0 ≡ tick) (jobs_of_tick c landings tick) (λ j i. (at_starts (all_accepted c landings) c.endpoints 0 c.endpoints tick j i).0)

pub jobs_start_between : JobsStartBetween
jobs_start_between c landings from end =
    all_of (λ (j : UplinkJob). (from ≤ℤ j.s.0) × (j.s.0 <ℤ end)) (jobs_between c landings from end) (λ j i.
    (let w = swept_jobs (all_accepted c landings) c.endpoints from end j i in (w.low, w.high)))
