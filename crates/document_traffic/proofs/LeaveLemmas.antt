-- What leaves for a unit from a tick on.
use Rattle.std.proofs.Common.{◌≡◌, ℕ, ℤ, pos, suc, ◌+◌, ◌^◌, ◌<◌, ◌+ℤ◌, ◌≤ℤ◌, ◌<ℤ◌, inl, inr, List, [], ◌∷◌, ◌++◌, length, map, refl, ap, ap₂, sym, ◌∙◌, subst, arith, length-append}
use Rattle.std.specs.Prelude.{All}
use Rattle.std.specs.Int.{int_gap}
use Rattle.std.specs.Ordering.{int_eq}
use Rattle.std.proofs.lemmas.Int.{ints}
use Rattle.std.proofs.lemmas.List.Elements.{All-map, All-weaker}
use Rattle.std.specs.Int.Signed.{<ℤ-≤ℤ_trans}
use Rattle.air_source.specs.declared.events.Side.{Side}
use Rattle.air_source.specs.declared.events.Side.TheVariants.{Ru}
use Rattle.delay_laws.specs.Ticks.{Flight}
use Rattle.delay_measure.specs.declared.message.DelayMessage.{DelayMessage}
use Rattle.document_traffic.proofs.ShortLemmas.{are_short}
use Rattle.document_traffic.specs.Landing.{antenna_for, copy_at, leaving_answer, leaving_to}
use Rattle.document_traffic.specs.Laws.{IsReplayable}
use Rattle.document_traffic.specs.Sending.{Leaving, count_of}
use Rattle.fh_document.specs.DeliverLines.{least_of}
use Rattle.fh_document.specs.Proper.{IsFrom}
use Rattle.fh_document.specs.declared.delivered.TrafficClass.{TrafficClass}
use Rattle.fh_document.specs.declared.delivered.TrafficClass.TheVariants.{M}
use Rattle.fh_document.specs.declared.document.Document.{Document}
use Rattle.frame_bytes.proofs.Fields.{length-in_bytes}
use Rattle.frame_bytes.specs.Spelled.{in_bytes}
use Rattle.frame_ways.proofs.Within.{copies_within}
use Rattle.frame_ways.specs.Copies.{copies_of}
use Rattle.replay_laws.proofs.TickLemmas.{no_ticks, ticks_append}
use Rattle.fh_base.specs.Lists.{each_tick}
use Rattle.unit_model.specs.Radiated.{first_clock}
use Rattle.unit_model.specs.Times.{end_of_time, tick_count}
use Rattle.unit_model.specs.declared.jobs.UplinkJob.{UplinkJob}
use Rattle.uplink_laws.specs.Premise.{frames_of}
use Rattle.uplink_model.specs.Sent.{in_sent_order}
use Rattle.uplink_laws.proofs.LeavingLemmas.{left_is_all}
use Rattle.window_config.specs.Windows.{ticks_of_ns}
use Rattle.delay_model.proofs.FrameLemmas.{payload_long, payload_of}
use Rattle.document_traffic.proofs.ListLemmas.{at_key, none_then}
use Rattle.document_traffic.proofs.MergeLemmas.{first_merged}
use Rattle.document_traffic.proofs.SentLemmas.{messages_are_owed}
use Rattle.document_traffic.specs.Measured.{delay_frame, exchanges, flights_then, header_fields}
use Rattle.document_traffic.specs.Replayed.{all_leaving, landings_for, leaving_flight, leaving_from, leaving_then}
use Rattle.document_traffic.specs.Turns.{AllAreShort, FirstLeaves, LeavingWaits, MeasuredLandLater, MeasuredLeave, UplinkLeavesInTurn}
use Rattle.fh_document.specs.declared.config_lines.TheConstants.{MOST_TRANSIT}
use Rattle.fh_base.proofs.Orders.{next_later as next_most, beyond_next as after_next, next_order}
use Rattle.fh_base.specs.Members.{IsIn}
use Rattle.fh_base.proofs.MemberLemmas.{in_either, of_filter, all_of}
use Rattle.fh_base.proofs.MadeLists.{in_all, of_map, of_tick}
use Rattle.fh_base.proofs.EachLemmas.{gap_is}

-- ---- tick by tick

-- the ticks that are gone over from a tick on: it, and those from the next on
gap_counts : (now last : ℤ) (n m : ℕ) → now +ℤ pos n ≡ last +ℤ pos 1 → (now +ℤ pos 1) +ℤ pos m ≡ last +ℤ pos 1 → n ≡ suc m
gap_counts now last n m a b = omega (arith, ints, a, b)

gap_next : (now last : ℤ) → now ≤ℤ last → int_gap now (last +ℤ pos 1) ≡ suc (int_gap (now +ℤ pos 1) (last +ℤ pos 1))
gap_next now last h =
    gap_counts now last (int_gap now (last +ℤ pos 1)) (int_gap (now +ℤ pos 1) (last +ℤ pos 1)) (gap_is now (last +ℤ pos 1) (next_most now last h))
    (gap_is (now +ℤ pos 1) (last +ℤ pos 1) (next_order now last h))

abbrev at_leaving : Leaving → ℤ
at_leaving f = f.at

pub first_leaves : FirstLeaves
unfolding leaving_from
first_leaves fs now f ls here ended =
    let count = gap_next now end_of_time ended in
    let n = int_gap (now +ℤ pos 1) (end_of_time +ℤ pos 1) in
    ap (λ (k : ℕ). each_tick now k (leaving_then (f ∷ ls) fs)) count
    ∙ first_merged at_leaving (λ (g : Flight). g.at) leaving_flight now n f ls fs here
    ∙ ap (λ (k : ℕ). f ∷ each_tick now k (leaving_then ls fs)) (sym count)

none_leave : (t : ℤ) (ls : List Leaving) → ((f : Leaving) → IsIn f ls → t <ℤ f.at) → at_key at_leaving ls t ≡ []
none_leave t ls later = none_then at_leaving t ls later

with_next : (now : ℤ) (n : ℕ) (f : ℤ → List Leaving) → each_tick now (suc n) f ≡ f now ++ each_tick (now +ℤ pos 1) n f
unfolding each_tick
with_next now n f = refl

pub measured_leave : MeasuredLeave
unfolding leaving_from
measured_leave fs now ls later ended =
    let n = int_gap (now +ℤ pos 1) (end_of_time +ℤ pos 1) in
    let rest = each_tick (now +ℤ pos 1) n (leaving_then ls fs) in
    let none = none_leave now ls (λ f m. after_next now f.at (in_all (λ (g : Leaving). (now +ℤ pos 1) ≤ℤ g.at) f ls later m)) in
    ap (λ (k : ℕ). each_tick now k (leaving_then ls fs)) (gap_next now end_of_time ended)
    ∙ with_next now n (leaving_then ls fs)
    ∙ ap (λ (gs : List Leaving). (gs ++ map leaving_flight (flights_then fs now)) ++ rest) none

pub leaving_waits : LeavingWaits
unfolding leaving_from
leaving_waits fs now tick ls later low high none =
    let leave = leaving_then ls fs in
    let all = each_tick tick (int_gap tick (end_of_time +ℤ pos 1)) leave in
    ticks_append leave now tick (end_of_time +ℤ pos 1) low high
    ∙ ap (λ (gs : List Leaving). gs ++ all) (no_ticks leave now tick low (λ t from below.
    ap₂ (λ (gs : List Leaving) (hs : List Flight). gs ++ map leaving_flight hs)
    (none_leave t ls (λ f m. <ℤ-≤ℤ_trans below (in_all (λ (g : Leaving). tick ≤ℤ g.at) f ls later m)))
    (none t from below)))

-- ---- how long frames are

delay_frame_long : (m : DelayMessage) → length (delay_frame m) ≡ 24
unfolding delay_frame
delay_frame_long m =
    length-append (in_bytes header_fields) (payload_of m) ∙ ap₂ (λ j k. j + k) (length-in_bytes 4 header_fields refl) (payload_long m)

delay_frame_short : (m : DelayMessage) → length (delay_frame m) < 2 ^ 32
delay_frame_short m = let long = delay_frame_long m in omega (arith, long)

leaves_short : (d : Document) (side : Side) → IsReplayable d → (f : Leaving) → IsIn f (all_leaving side d) → length f.frame < 2 ^ 32
unfolding leaving_from
leaves_short d side is f m =
    let ls = leaving_to side d in
    let fs = (exchanges d).sent side in
    let w = of_tick f first_clock tick_count (leaving_then ls fs) m in
    elim (in_either f (at_key at_leaving ls w.0) (map leaving_flight (flights_then fs w.0)) w.1) [
      | inl l ↦
          in_all (λ (g : Leaving). length g.frame < 2 ^ 32) f ls (are_short d side is.document is.valid)
          (of_filter (λ (g : Leaving). int_eq g.at w.0) f ls l).0
      | inr r ↦
          (let g = of_map leaving_flight f (flights_then fs w.0) r in
          subst (λ (h : Leaving). length h.frame < 2 ^ 32) (sym g.2) (delay_frame_short g.0.message))
    ]

pub all_are_short : AllAreShort
all_are_short d side is = all_of (λ (f : Leaving). length f.frame < 2 ^ 32) (all_leaving side d) (leaves_short d side is)

-- ---- when copies land

lands_later : (at ns : ℤ) → pos 1 ≤ℤ ns → (at +ℤ pos 1) ≤ℤ (at +ℤ ticks_of_ns ns)
lands_later at ns low = omega (arith, ints, low)

pub measured_land_later : MeasuredLandLater
measured_land_later d side n f is measured =
    let k = count_of f.class n in
    let within : All (IsFrom (least_of M) MOST_TRANSIT) (copies_of d side f.class k) =
    subst (λ (class : TrafficClass). All (IsFrom (least_of class) MOST_TRANSIT) (copies_of d side f.class k)) measured
    (copies_within d is.document.transits is.document.deliveries side f.class k) in
    All-map (λ a. (f.at +ℤ pos 1) ≤ℤ a.at) (copy_at f) (copies_of d side f.class k)
    (All-weaker (IsFrom (least_of M) MOST_TRANSIT) (λ (ns : ℤ). (f.at +ℤ pos 1) ≤ℤ (copy_at f ns).at) (λ ns time. lands_later f.at ns time.low) (copies_of d side f.class k) within)

-- ---- the radio unit's frames

pub uplink_alike : UplinkLeavesInTurn
uplink_alike d =
    let n = length d.config.endpoints in
    ap (λ (js : List UplinkJob). map leaving_answer (in_sent_order n (frames_of d.config (antenna_for d) js))) (sym (messages_are_owed d))
    ∙ ap (map leaving_answer) (sym (left_is_all d.config (antenna_for d) (landings_for Ru d)))
