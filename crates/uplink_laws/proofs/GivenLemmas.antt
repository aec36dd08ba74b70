-- The jobs that a radio unit has given, and those that it owes.
use Rattle.std.proofs.Common.{◌≡◌, ℤ, pos, ◌+ℤ◌, ◌-ℤ◌, ◌≤ℤ◌, ◌<ℤ◌, inl, inr, List, [], ◌++◌, length, drop, refl, sym, ap, ◌∙◌, arith, append_assoc, append-nil, drop_at}
use Rattle.std.proofs.lemmas.Int.{ints}
use Rattle.window_config.specs.declared.config.Config.{Config}
use Rattle.unit_model.specs.Meetings.{Arrival}
use Rattle.unit_model.specs.Radiated.{first_clock}
use Rattle.unit_model.specs.Reports.{accepted_of}
use Rattle.unit_model.specs.Standing.{History, owed_until}
use Rattle.unit_model.specs.Uplink.{jobs}
use Rattle.unit_model.specs.declared.jobs.UplinkJob.{UplinkJob}
use Rattle.unit_laws.proofs.SentLemmas.{jobs_begin}
use Rattle.unit_laws.proofs.HistoryTicks.{last_is_earlier, last_before}
use Rattle.unit_laws.proofs.HistoryLists.{front_empty}
use Rattle.replay_laws.proofs.CameLemmas.{none_yet}
use Rattle.uplink_laws.specs.Given.{GivenAndOwed, GivenBefore, GivenIsAll, GivesTick, HasSeen, OwesNone, OwesTick}
use Rattle.uplink_laws.specs.Turns.{jobs_of_tick, jobs_between, jobs_until}
use Rattle.uplink_laws.proofs.TurnJobs.{jobs_go_on, jobs_go_on_from, jobs_of_nothing, jobs_settled, no_jobs_before}
use Rattle.fh_base.proofs.Orders.{first_most}

drop_front : (xs ys : List UplinkJob) → drop (length xs) (xs ++ ys) ≡ ys
drop_front xs ys = drop_at xs ys (length xs) refl

-- what was received tells the jobs up to a time
told_until : (c : Config) (landings : List Arrival) (to seen : ℤ) (h : History) → HasSeen c landings seen h → to ≤ℤ seen
    → jobs c.endpoints (accepted_of c h.arrivals) to ≡ jobs_until c landings to
told_until c landings to seen h see past =
    ap (λ (xs : List Arrival). jobs c.endpoints (accepted_of c xs) to) see.arrivals
    ∙ jobs_settled c landings to seen see.config see.landings_are see.begun see.ended past

-- where all of these were given, the rest is owed
owes_rest : (c : Config) (landings : List Arrival) (to seen : ℤ) (h : History) (front rest : List UplinkJob) → HasSeen c landings seen h → to ≤ℤ seen
    → h.given ≡ front → jobs_until c landings to ≡ front ++ rest → owed_until c h to ≡ rest
owes_rest c landings to seen h front rest see past given is =
    ap (λ (js : List UplinkJob). drop (length js) (jobs c.endpoints (accepted_of c h.arrivals) to)) given
    ∙ ap (drop (length front)) (told_until c landings to seen h see past ∙ is)
    ∙ drop_front front rest

pub owes_tick : OwesTick
owes_tick c landings tick seen h see begun past given =
    owes_rest c landings tick seen h (jobs_until c landings (tick -ℤ pos 1)) (jobs_of_tick c landings tick) see past given (jobs_go_on c landings tick begun)

pub gives_tick : GivesTick
gives_tick c landings tick seen h see begun past given =
    ap (λ (js : List UplinkJob). h.given ++ js) (owes_tick c landings tick seen h see begun past given)
    ∙ ap (λ (js : List UplinkJob). js ++ jobs_of_tick c landings tick) given
    ∙ sym (jobs_go_on c landings tick begun)

pub owes_none : OwesNone
owes_none c landings now to seen h see begun order past given none =
    let before = jobs_until c landings (now -ℤ pos 1) in
    let rest = jobs_between c landings now (to +ℤ pos 1) in
    let all = jobs_go_on_from c landings now to begun order in
    all ∙ ap (λ (js : List UplinkJob). before ++ js) (sym (owes_rest c landings to seen h before rest see past given all) ∙ none) ∙ append-nil before

-- a front of a list, and the rest after it
front_and_rest : (xs ys zs : List UplinkJob) → zs ≡ xs ++ ys → xs ++ drop (length xs) zs ≡ zs
front_and_rest xs ys zs is =
    ap (λ (js : List UplinkJob). xs ++ drop (length xs) js) is ∙ ap (λ (js : List UplinkJob). xs ++ js) (drop_front xs ys) ∙ sym is

pub given_and_owed : GivenAndOwed
given_and_owed c landings to seen h k see past late history =
    let acc = accepted_of c h.arrivals in
    let more = jobs_begin c.endpoints acc h.clock to late in
    let is : jobs c.endpoints acc to ≡ h.given ++ (history.later ++ more.0) =
    more.1 ∙ ap (λ (js : List UplinkJob). js ++ more.0) history.given ∙ append_assoc h.given history.later more.0 in
    front_and_rest h.given (history.later ++ more.0) (jobs c.endpoints acc to) is
    ∙ told_until c landings to seen h see past

pub given_is_all : GivenIsAll
given_is_all c landings to seen h k see past late history none =
    sym (append-nil h.given) ∙ ap (λ (js : List UplinkJob). h.given ++ js) (sym none) ∙ given_and_owed c landings to seen h k see past late history

last_early : (now first : ℤ) → now ≡ first → (now -ℤ pos 1) <ℤ first
last_early now first e = omega (arith, ints)

pub given_before : GivenBefore
given_before c landings now h k see (inl late) history none =
    given_is_all c landings (now -ℤ pos 1) now h k see (last_is_earlier now) (last_before h.clock now late) history none
given_before c landings now h k see (inr first) history none =
    let nothing : h.arrivals ≡ [] = see.arrivals ∙ none_yet landings now (first_most now first_clock first) in
    front_empty h.given history.later (sym history.given ∙ jobs_of_nothing c h.arrivals h.clock nothing)
    ∙ sym (no_jobs_before c landings (now -ℤ pos 1) (last_early now first_clock first))
