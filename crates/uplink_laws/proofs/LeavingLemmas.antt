-- The frames that leave at a tick, and from one on.
use Rattle.std.proofs.Common.{◌≡◌, ℕ, ℤ, pos, ◌+ℤ◌, ◌-ℤ◌, ◌≤ℤ◌, ◌<ℤ◌, List, [], ◌++◌, length, refl, ap, ◌∙◌}
use Rattle.std.specs.Int.{int_gap}
use Rattle.std.proofs.lemmas.List.Elements.{All-weaker}
use Rattle.std.specs.Int.Signed.{≤ℤ_refl}
use Rattle.air_source.specs.declared.links.LinkFrame.{LinkFrame}
use Rattle.fh_base.specs.Lists.{each_tick}
use Rattle.unit_model.specs.Radiated.{first_clock}
use Rattle.unit_model.specs.Times.{end_of_time}
use Rattle.unit_model.specs.declared.jobs.UplinkJob.{UplinkJob}
use Rattle.unit_laws.proofs.HistoryTicks.{last_of_next, last_before, after_all, same_then}
use Rattle.replay_laws.proofs.TickLemmas.{no_ticks, tick_alone, ticks_append}
use Rattle.uplink_model.specs.Frames.{frames_behind}
use Rattle.uplink_model.specs.Messages.{uplink_messages_of}
use Rattle.uplink_model.specs.Sent.{in_sent_order, leaving_at}
use Rattle.uplink_model.proofs.SentLemmas.{later_change_nothing, leaving_leave_then}
use Rattle.uplink_laws.proofs.ListLemmas.{tick_within}
use Rattle.uplink_laws.specs.TurnLaws.{LeavingIsSettled, LeftEnds, LeftGoesOn, LeftIsAll, LeftLeaveLater, LeftWaits}
use Rattle.uplink_laws.specs.Turns.{handed_between, handed_until, leaving_of_handed, left_from}
use Rattle.uplink_laws.proofs.HandedLemmas.{handed_go_on_from, handed_leave_from}
use Rattle.fh_base.proofs.Orders.{at_most, next_order, next_after, next_is_later}
use Rattle.uplink_laws.proofs.MessageLemmas.{last_by}
use Rattle.fh_base.proofs.MemberLemmas.{all_of}
use Rattle.fh_base.proofs.MadeLists.{in_all}
use Rattle.fh_base.proofs.EachLemmas.{gap_none, no_ticks as none_of_ticks}

-- ---- at a tick

pub leaving_settled : LeavingIsSettled
leaving_settled c antenna landings t tick later config begun past order =
    let n = length c.endpoints in
    let next = tick +ℤ pos 1 in
    let end = later +ℤ pos 1 in
    let rest = handed_between c antenna landings next end in
    ap (λ (fs : List LinkFrame). leaving_at n fs t)
    (handed_go_on_from c antenna landings next later (at_most first_clock tick next begun (next_is_later tick)) (next_order tick later order))
    ∙ later_change_nothing n (handed_until c antenna landings (next -ℤ pos 1)) rest t
    (All-weaker (λ (f : LinkFrame). next ≤ℤ f.at.0) (λ (f : LinkFrame). t <ℤ f.at.0) (λ f h. after_all t tick f.at.0 past h) rest
    (handed_leave_from c antenna landings next end config))
    ∙ ap (λ (u : ℤ). leaving_of_handed c antenna landings u t) (last_of_next tick)

-- ---- from a tick on

pub left_goes_on : LeftGoesOn
left_goes_on c antenna landings now config begun ended =
    let f = leaving_of_handed c antenna landings end_of_time in
    let next = now +ℤ pos 1 in
    ticks_append f now next (end_of_time +ℤ pos 1) (next_is_later now) (next_order now end_of_time ended)
    ∙ ap (λ (fs : List LinkFrame). fs ++ left_from c antenna landings next)
    (tick_alone f now ∙ leaving_settled c antenna landings now now end_of_time config begun (≤ℤ_refl now) ended)

pub left_waits : LeftWaits
left_waits c antenna landings now tick config begun order ended silent =
    let n = length c.endpoints in
    let f = leaving_of_handed c antenna landings end_of_time in
    let last = tick -ℤ pos 1 in
    ticks_append f now tick (end_of_time +ℤ pos 1) order ended
    ∙ ap (λ (fs : List LinkFrame). fs ++ left_from c antenna landings tick)
    (no_ticks f now tick order (λ t low high.
    leaving_settled c antenna landings t last end_of_time config (at_most first_clock t last (at_most first_clock now t begun low) (last_before t tick high)) (last_before t tick high)
    (last_by tick end_of_time ended)
    ∙ ap (λ (js : List UplinkJob). leaving_at n (frames_behind c antenna [] (uplink_messages_of c js)) t) silent.none_starts
    ∙ silent.none_leaves t low high))

pub left_is_all : LeftIsAll
unfolding in_sent_order
left_is_all c antenna landings = refl

pub left_ends : LeftEnds
left_ends c antenna landings now over =
    let f = leaving_of_handed c antenna landings end_of_time in
    ap (λ (n : ℕ). each_tick now n f) (gap_none now (end_of_time +ℤ pos 1) (next_after end_of_time now over)) ∙ none_of_ticks now f

pub left_leave_later : LeftLeaveLater
left_leave_later c antenna landings now =
    let n = length c.endpoints in
    let frames = handed_until c antenna landings end_of_time in
    all_of (λ (f : LinkFrame). now ≤ℤ f.at.0) (left_from c antenna landings now) (λ f i.
    (let w = tick_within f now (int_gap now (end_of_time +ℤ pos 1)) (leaving_at n frames) i in
    same_then now w.0 f.at.0 w.1 (in_all (λ (g : LinkFrame). g.at.0 ≡ w.0) f (leaving_at n frames w.0) (leaving_leave_then n frames w.0) w.3)))
