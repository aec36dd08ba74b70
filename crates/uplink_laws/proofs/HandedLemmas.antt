-- The frames that are handed over up to a tick, and at one.
use Rattle.std.proofs.Common.{◌≡◌, ℕ, ℤ, pos, ◌+ℤ◌, ◌-ℤ◌, ◌≤ℤ◌, ◌<ℤ◌, ◌<◌, inl, inr, List, [], ◌∷◌, length, Option, Some, None, refl, sym, ap, ◌∙◌, subst, arith}
use Rattle.std.specs.Prelude.{All}
use Rattle.std.specs.List.{slice_get}
use Rattle.std.specs.Option.{option_map_or}
use Rattle.std.proofs.lemmas.Int.{ints}
use Rattle.std.proofs.lemmas.List.Elements.{All-append, All-head, All-nil, All-tail, All-weaker}
use Rattle.std.proofs.lemmas.Option.{slice_get_within}
use Rattle.air_source.specs.declared.links.LinkFrame.{LinkFrame}
use Rattle.window_config.specs.Limits.{IsWithinLimits}
use Rattle.window_config.specs.Windows.{ticks_of_ns}
use Rattle.window_config.specs.declared.config.Config.{Config}
use Rattle.window_config.specs.declared.endpoints.EndpointConfig.{EndpointConfig}
use Rattle.fh_base.specs.Lists.{each, onto}
use Rattle.unit_model.specs.declared.jobs.UplinkJob.{UplinkJob}
use Rattle.unit_laws.proofs.HistoryTicks.{same_most}
use Rattle.plan_model.specs.Packs.{Message}
use Rattle.uplink_model.specs.Frames.{Antenna, uplink_frame_of, frames_behind, uplink_frames_from, uplink_message_frames}
use Rattle.uplink_model.specs.Messages.{frame_count, uplink_frames_before, uplink_messages_of, number_behind}
use Rattle.uplink_model.specs.SentLaws.{AreOf}
use Rattle.uplink_model.proofs.MessageLemmas.{frames_both}
use Rattle.uplink_laws.proofs.StreamMessages.{message_first}
use Rattle.uplink_laws.proofs.TurnLemmas.{frames_leave_in_ta3}
use Rattle.uplink_laws.specs.TurnLaws.{HandedAreOf, HandedBehindAreOf, HandedGoOn, HandedGoOnFrom, HandedLeaveFrom, HandedLeaveLater, NoneHandedBefore}
use Rattle.uplink_laws.specs.Turns.{jobs_of_tick, jobs_between, messages_of_tick, messages_between, messages_until}
use Rattle.uplink_laws.proofs.TurnJobs.{jobs_start_between, jobs_start_then, no_jobs_before}
use Rattle.uplink_laws.proofs.MessageLemmas.{messages_go_on, messages_go_on_from}
use Rattle.fh_base.proofs.MemberLemmas.{all_of}
use Rattle.fh_base.proofs.MadeLists.{in_all, of_each}

-- ---- tick by tick

pub handed_go_on_from : HandedGoOnFrom
handed_go_on_from c antenna landings now tick begun order =
    ap (frames_behind c antenna []) (messages_go_on_from c landings now tick begun order)
    ∙ frames_both c antenna [] (messages_until c landings (now -ℤ pos 1)) (messages_between c landings now (tick +ℤ pos 1))

pub handed_go_on : HandedGoOn
handed_go_on c antenna landings tick begun =
    ap (frames_behind c antenna []) (messages_go_on c landings tick begun)
    ∙ frames_both c antenna [] (messages_until c landings (tick -ℤ pos 1)) (messages_of_tick c landings tick)

none_behind : (c : Config) (antenna : Antenna) (earlier : List (Message UplinkJob)) → frames_behind c antenna earlier [] ≡ []
unfolding frames_behind
none_behind c antenna earlier = refl

pub none_handed_before : NoneHandedBefore
none_handed_before c antenna landings to early =
    ap (λ (js : List UplinkJob). frames_behind c antenna [] (uplink_messages_of c js)) (no_jobs_before c landings to early) ∙ none_behind c antenna []

-- ---- of which endpoint

one_is_of : (c : Config) (antenna : Antenna) (earlier : List (Message UplinkJob)) (m : Message UplinkJob) → AreOf (length c.endpoints) (uplink_message_frames c antenna earlier m)
unfolding uplink_message_frames
one_is_of c antenna earlier m = go (slice_get c.endpoints m.first.ep) refl
  where
    go : (o : Option EndpointConfig) → slice_get c.endpoints m.first.ep ≡ o
        → All (λ f. f.ep < length c.endpoints) (option_map_or (λ e. uplink_frames_from c antenna e m (number_behind m.first.ep earlier) (uplink_frames_before c m.first earlier) 0 (frame_count c m)) o [])
    go None is = All-nil (λ (f : LinkFrame). f.ep < length c.endpoints)
    go (Some e) is =
        let make : ℕ → LinkFrame = uplink_frame_of c antenna e m (number_behind m.first.ep earlier) (uplink_frames_before c m.first earlier) in
        let within = slice_get_within c.endpoints m.first.ep e is in
        all_of (λ (f : LinkFrame). f.ep < length c.endpoints) (each 0 (frame_count c m) (λ k. make k ∷ [])) (λ f i.
        (let w = of_each f 0 (frame_count c m) (λ k. make k ∷ []) i in
        elim w.3 [ inl e ↦ subst (λ (x : LinkFrame). x.ep < length c.endpoints) (sym e) within | inr t ↦ absurd t ]))

all_are_of : (c : Config) (antenna : Antenna) (earlier ms : List (Message UplinkJob)) → AreOf (length c.endpoints) (frames_behind c antenna earlier ms)
unfolding frames_behind
all_are_of c antenna earlier [] = All-nil (λ (f : LinkFrame). f.ep < length c.endpoints)
all_are_of c antenna earlier (m ∷ ms) =
    All-append (λ (f : LinkFrame). f.ep < length c.endpoints) (uplink_message_frames c antenna earlier m) (frames_behind c antenna (m ∷ earlier) ms)
    (one_is_of c antenna earlier m) (all_are_of c antenna (m ∷ earlier) ms)

pub handed_are_of : HandedAreOf
handed_are_of c antenna landings t = all_are_of c antenna [] (messages_until c landings t)

pub handed_behind_are_of : HandedBehindAreOf
handed_behind_are_of c antenna landings tick ms = all_are_of c antenna (onto [] (messages_until c landings (tick -ℤ pos 1))) ms

-- ---- when they leave

after_start : (from s least at : ℤ) → pos 0 ≤ℤ least → from ≤ℤ s → (s +ℤ ticks_of_ns least) ≤ℤ at → from ≤ℤ at
after_start from s least at low begun after = omega (arith, ints)

-- the frames of messages whose symbols start from a tick on leave from it on
leave_from : (c : Config) (antenna : Antenna) (from : ℤ) (earlier ms : List (Message UplinkJob)) → IsWithinLimits c.delays → All (λ m. from ≤ℤ m.first.s.0) ms
    → All (λ f. from ≤ℤ f.at.0) (frames_behind c antenna earlier ms)
unfolding frames_behind
leave_from c antenna from earlier [] limits start = All-nil (λ (f : LinkFrame). from ≤ℤ f.at.0)
leave_from c antenna from earlier (m ∷ ms) limits start =
    let S = λ (n : Message UplinkJob). from ≤ℤ n.first.s.0 in
    let s = m.first.s.0 in
    let least = c.delays.ta3.min in
    let most = c.delays.ta3.max in
    All-append (λ (f : LinkFrame). from ≤ℤ f.at.0) (uplink_message_frames c antenna earlier m) (frames_behind c antenna (m ∷ earlier) ms)
    (All-weaker (λ (f : LinkFrame). ((s +ℤ ticks_of_ns least) ≤ℤ f.at.0) × (f.at.0 ≤ℤ (s +ℤ ticks_of_ns most))) (λ (f : LinkFrame). from ≤ℤ f.at.0)
    (λ f h. after_start from s least f.at.0 limits.ta3.low (All-head S m ms start) h.0)
    (uplink_message_frames c antenna earlier m) (frames_leave_in_ta3 c antenna earlier m limits))
    (leave_from c antenna from (m ∷ earlier) ms limits (All-tail S m ms start))

-- the messages of jobs that start from a tick on do
start_from : (c : Config) (from : ℤ) (js : List UplinkJob) → All (λ j. from ≤ℤ j.s.0) js → All (λ m. from ≤ℤ m.first.s.0) (uplink_messages_of c js)
start_from c from js all =
    all_of (λ (m : Message UplinkJob). from ≤ℤ m.first.s.0) (uplink_messages_of c js) (λ m i.
    in_all (λ (j : UplinkJob). from ≤ℤ j.s.0) m.first js all (message_first c js m i))

pub handed_leave_later : HandedLeaveLater
handed_leave_later c antenna landings tick config =
    leave_from c antenna tick (onto [] (messages_until c landings (tick -ℤ pos 1))) (messages_of_tick c landings tick) config.delays
    (start_from c tick (jobs_of_tick c landings tick)
    (All-weaker (λ (j : UplinkJob). j.s.0 ≡ tick) (λ (j : UplinkJob). tick ≤ℤ j.s.0) (λ j e. same_most j.s.0 tick e) (jobs_of_tick c landings tick) (jobs_start_then c landings tick)))

pub handed_leave_from : HandedLeaveFrom
handed_leave_from c antenna landings from end config =
    leave_from c antenna from (onto [] (messages_until c landings (from -ℤ pos 1))) (messages_between c landings from end) config.delays
    (start_from c from (jobs_between c landings from end)
    (All-weaker (λ (j : UplinkJob). (from ≤ℤ j.s.0) × (j.s.0 <ℤ end)) (λ (j : UplinkJob). from ≤ℤ j.s.0) (λ j h. h.0) (jobs_between c landings from end)
    (jobs_start_between c landings from end)))
