-- Nothing lands at either unit before time 0, as a meter asks of what it is told.
use Rattle.std.proofs.Common.{◌≡◌, ℕ, ℤ, pos, neg_ℤ, ◌+◌, ◌*◌, ◌+ℤ◌, ◌-ℤ◌, ◌≤ℤ◌, ◌<ℤ◌, min, inl, inr, List, [], ◌∷◌, ◌++◌, refl, ap, sym, ◌∙◌, subst, arith}
use Rattle.std.specs.Prelude.{All, filter, map}
use Rattle.std.specs.Int.{int_gap}
use Rattle.std.specs.List.{flat_map}
use Rattle.std.specs.Ordering.{int_eq}
use Rattle.std.proofs.lemmas.Int.{by_lt_z, ints}
use Rattle.std.proofs.lemmas.Bool.Decides.{Decides-int_eq}
use Rattle.std.proofs.lemmas.List.Elements.{All-map, All-nil, All-weaker}
use Rattle.std.specs.Int.Signed.{≤ℤ_refl}
use Rattle.air_source.specs.declared.events.Side.{Side}
use Rattle.air_source.specs.declared.events.Side.TheVariants.{Ru, Du}
use Rattle.air_source.specs.declared.links.LinkFrame.{LinkFrame}
use Rattle.delay_laws.proofs.Keeping.{IsKept, Keeps, all_kept}
use Rattle.delay_laws.specs.Nodes.{Heard, time_of}
use Rattle.delay_laws.specs.Ticks.{Begin, Flight, came_heard}
use Rattle.delay_measure.specs.declared.message.DelayMessage.{DelayMessage}
use Rattle.document_traffic.specs.Settings.{begin_of, setting_of, ways_of}
use Rattle.document_traffic.proofs.AnswerLemmas.{sent_is_handed}
use Rattle.document_traffic.proofs.CopyLemmas.{delayed_is, of_copies}
use Rattle.document_traffic.proofs.LandingLemmas.{are_replayed}
use Rattle.document_traffic.proofs.LineLemmas.{lines_fit}
use Rattle.document_traffic.specs.Landing.{antenna_for, copies_among, copies_in, copy_at, handed_for, injected_at, injected_to, is_to, landing_with, landings_of, leaving_to, leaving_up}
use Rattle.document_traffic.specs.Laws.{IsReplayable}
use Rattle.document_traffic.specs.Sending.{Delayed, Leaving, delayed_behind, leaving_down, leaving_of, none_sent, sent_for}
use Rattle.fh_document.specs.DeliverLines.{least_of}
use Rattle.fh_document.specs.Proper.{IsDocument, IsFrom, IsInjection, IsMeasure}
use Rattle.fh_document.specs.declared.delivered.TrafficClass.TheVariants.{M}
use Rattle.fh_document.specs.declared.document.Document.{Document}
use Rattle.fh_document.specs.declared.document.Measure.{Measure}
use Rattle.frame_ways.proofs.Within.{copies_within}
use Rattle.frame_ways.specs.Copies.{copies_of}
use Rattle.document_traffic.specs.Measured.{delay_messages, exchanges, flights_then, others_of}
use Rattle.document_traffic.specs.Replayed.{all_leaving, landings_for, leaving_flight, leaving_from, leaving_then}
use Rattle.plan_model.specs.Departures.{departures_of, sending_window, sent_at, start_of_part}
use Rattle.plan_model.specs.Lines.{planned}
use Rattle.plan_model.specs.Packs.{Numbered}
use Rattle.plan_model.specs.Sent.{SentFrame, sent}
use Rattle.plan_model.specs.Streams.{Part, messages_of}
use Rattle.plan_model.specs.Valid.{IsValid}
use Rattle.plan_model.specs.declared.lines.PlannedLine.{PlannedLine}
use Rattle.plan_model.specs.declared.streams.Stream.{Stream}
use Rattle.replay_laws.proofs.CameLemmas.{calm_adds_nothing, none_yet}
use Rattle.replay_laws.specs.Moments.{arrivals_before, end_of_time, landing_at}
use Rattle.plan_model.proofs.SentLemmas.{IsSentStream, message_part, sent_is}
use Rattle.schedule_laws.proofs.SentTimeLemmas.{most_before, part_time}
use Rattle.unit_model.specs.Meetings.{Arrival}
use Rattle.unit_model.specs.Proper.{IsAt}
use Rattle.unit_model.specs.Radiated.{first_clock}
use Rattle.unit_model.specs.declared.jobs.UplinkJob.{UplinkJob}
use Rattle.uplink_laws.specs.Premise.{frames_of}
use Rattle.uplink_model.specs.Frames.{Antenna, frames_behind}
use Rattle.uplink_laws.proofs.HandedLemmas.{handed_go_on_from, handed_leave_from}
use Rattle.uplink_laws.proofs.TurnJobs.{jobs_of_nothing, jobs_settled}
use Rattle.uplink_laws.specs.Turns.{handed_between, jobs_until}
use Rattle.window_config.proofs.TickLemmas.{positive}
use Rattle.window_config.specs.Configs.{IsConfig}
use Rattle.window_config.specs.Plans.{IsPlanLine}
use Rattle.window_config.specs.Windows.{ticks_of_ns}
use Rattle.window_config.specs.declared.config.Config.{Config}
use Rattle.window_config.specs.declared.endpoints.EndpointConfig.{EndpointConfig}
use Rattle.window_config.specs.declared.plan.PlanLine.{PlanLine}
use Rattle.document_traffic.proofs.TimeLemmas.{from_is}
use Rattle.document_traffic.proofs.FlightLemmas.{none_at}
use Rattle.fh_base.specs.declared.frames.TheConstants.{FRAME}
use Rattle.fh_document.specs.declared.config_lines.TheConstants.{MOST_TRANSIT}
use Rattle.unit_model.specs.Times.{tick_count}
use Rattle.fh_base.specs.Members.{IsIn}
use Rattle.fh_base.proofs.MemberLemmas.{in_either, of_filter, all_of}
use Rattle.fh_base.proofs.MadeLists.{in_all, of_map, of_tick}

-- ---- the frames of a plan leave later than time 0

-- a window begins at most 4 ms before its symbol, which starts 10 ms after time 0 at least
leaves_late : (s most : ℤ) (wait : ℕ) → FRAME ≤ℤ s → most ≤ℤ pos 4000000 → pos 0 ≤ℤ ((s +ℤ neg_ℤ (ticks_of_ns most)) +ℤ pos wait)
leaves_late s most wait low few = omega (arith, ints)

module _ (c : Config) (lines : List PlanLine) (config : IsConfig c) (fit : All IsPlanLine lines) (valid : IsValid c lines) where
  abbrev ps : List PlannedLine
  ps = planned c.endpoints lines

  message_late : (stream : Stream) → IsSentStream stream → (ep : ℕ) (e : EndpointConfig) → IsAt c.endpoints ep e → (n : Numbered Part) → IsIn n (messages_of c ps stream ep e)
      → (sub : ℕ) → pos 0 ≤ℤ sent_at c stream n sub
  message_late stream s ep e at n m sub =
      let x = n.message.first in
      let time = part_time c lines config fit valid stream s ep e at x (message_part c ps stream ep e n x m (inl refl)) in
      let window = sending_window c.delays stream in
      let most = most_before c lines config fit valid stream s in
      let d = departures_of c stream in
      subst (λ (from : ℤ). pos 0 ≤ℤ ((start_of_part x +ℤ from) +ℤ pos (min ((n.before + sub) * d.gap) d.spread))) (sym (from_is c.delays stream s))
      (leaves_late (start_of_part x) window.max (min ((n.before + sub) * d.gap) d.spread) time.0 most.1)

  frame_late : (f : SentFrame) → IsIn f (sent c (planned c.endpoints lines)) → pos 0 ≤ℤ f.at
  frame_late f m =
      let o = sent_is c ps f m in
      subst (λ (g : SentFrame). pos 0 ≤ℤ g.at) (sym o.is) (message_late f.stream o.is_sent f.ep f.endpoint o.at o.n o.there f.sub)

down_late : (d : Document) → IsReplayable d → (f : Leaving) → IsIn f (leaving_down d) → pos 0 ≤ℤ f.at
down_late d doc f m =
    let is = doc.document in
    let w = of_map (leaving_of d) f (sent_for d) m in
    subst (λ (g : Leaving). pos 0 ≤ℤ g.at) (sym w.2) (frame_late d.config d.plan is.config (lines_fit d.plan is.plan) doc.valid w.0 w.1)

-- ---- so do the frames of delay measurement

not_before : (t at : ℤ) → t <ℤ pos 0 → pos 0 ≤ℤ at → at ≡ t → ⊥
not_before t at lt low e = omega (arith, ints, lt, low, e)

none_before : (t : ℤ) (arrivals : List Arrival) → t <ℤ pos 0 → ((a : Arrival) → IsIn a arrivals → pos 0 ≤ℤ a.at) → landing_at arrivals t ≡ []
none_before t arrivals lt late = none_at t arrivals (all_of (λ (a : Arrival). a.at ≡ t → ⊥) arrivals (λ a m. not_before t a.at lt (late a m)))

weak : (ns : ℤ) (least : ℕ) → pos least ≤ℤ ns → pos 0 ≤ℤ ns
weak ns least low = omega (arith, ints, low)

sum_late : (b c : ℤ) → pos 0 ≤ℤ b → pos 0 ≤ℤ c → pos 0 ≤ℤ (b +ℤ c)
sum_late b c h k = omega (arith, ints, h, k)

module _ (d : Document) (is : IsDocument d) where
  abbrev IsLate : ℤ → DelayMessage → Type 0
  IsLate t m = pos 0 ≤ℤ t

  abbrev IsHeardLate : Heard → Type 0
  IsHeardLate one = pos 0 ≤ℤ time_of one.told

  injected_late : (side : Side) (a : Arrival) → IsIn a (injected_to side d) → pos 0 ≤ℤ a.at
  injected_late side a m =
      let i = of_map injected_at a (filter (is_to side) d.injections) m in
      let there = of_filter (is_to side) i.0 d.injections i.1 in
      subst (λ (b : Arrival). pos 0 ≤ℤ b.at) (sym i.2) (positive i.0.at (in_all IsInjection i.0 d.injections is.injections there.0).time.low)

  ways_late : (side : Side) (k : ℕ) → All (λ t. pos 0 ≤ℤ t) (ways_of d side k)
  ways_late side k =
      All-map (λ (t : ℤ). pos 0 ≤ℤ t) ticks_of_ns (copies_of d side M k)
      (All-weaker (IsFrom 1 MOST_TRANSIT) (λ (ns : ℤ). pos 0 ≤ℤ ticks_of_ns ns) (λ ns time. positive ns (weak ns 1 time.low)) (copies_of d side M k) (copies_within d is.transits is.deliveries side M k))

  none_early : (side : Side) (t : ℤ) → t <ℤ pos 0 → others_of d side t ≡ []
  none_early side t before =
      ap (λ (arrivals : List Arrival). flat_map (λ (a : Arrival). delay_messages a.frame) arrivals)
      (none_before t (injected_to side d) before (injected_late side))

  others_late : (side : Side) (t : ℤ) → All (λ m. IsHeardLate (came_heard side t m)) (others_of d side t)
  others_late side t =
      by_lt_z t (pos 0)
      (λ before. subst (All (λ (m : DelayMessage). IsHeardLate (came_heard side t m))) (sym (none_early side t before)) (All-nil (λ (m : DelayMessage). IsHeardLate (came_heard side t m))))
      (λ from k x lt. from)

  begins_late : All (λ b. pos 0 ≤ℤ b.at) (map begin_of d.measures)
  begins_late =
      All-map (λ (b : Begin). pos 0 ≤ℤ b.at) begin_of d.measures
      (All-weaker IsMeasure (λ (m : Measure). pos 0 ≤ℤ ticks_of_ns m.at) (λ m proper. positive m.at (weak m.at 1000000 proper.time.low)) d.measures is.measures)

  keeps : Keeps (setting_of d (others_of d)) IsLate IsHeardLate
  keeps = record {
    begins = begins_late;
    copies = λ side k at m h. All-weaker (λ (t : ℤ). pos 0 ≤ℤ t) (λ (t : ℤ). pos 0 ≤ℤ (at +ℤ t)) (λ t some. sum_late at t h some) (ways_of d side k) (ways_late side k);
    others = others_late;
    answers = λ one e h k x lt. h;
  }

  flight_late : (side : Side) (f : Flight) → IsIn f ((exchanges d).sent side) → pos 0 ≤ℤ f.at
  flight_late side f m =
      let kept = all_kept (setting_of d (others_of d)) IsLate IsHeardLate keeps first_clock tick_count in
      (in_all (IsKept IsLate IsHeardLate side) f ((exchanges d).sent side) (kept.flights side) m).sent

  -- ---- where all leaves later than time 0, all lands later

  module _ (side : Side) (ls : List Leaving) (late : (f : Leaving) → IsIn f ls → pos 0 ≤ℤ f.at) where
    leaving_late : (now : ℤ) (f : Leaving) → IsIn f (leaving_from ls ((exchanges d).sent side) now) → pos 0 ≤ℤ f.at
    unfolding leaving_from
    leaving_late now f m =
        let fs = (exchanges d).sent side in
        let w = of_tick f now (int_gap now (end_of_time +ℤ pos 1)) (leaving_then ls fs) m in
        let t = w.0 in
        elim (in_either f (filter (λ (g : Leaving). int_eq g.at t) ls) (map leaving_flight (flights_then fs t)) w.1) [
          | inl l ↦ late f (of_filter (λ (g : Leaving). int_eq g.at t) f ls l).0
          | inr r ↦
              (let x = of_map leaving_flight f (flights_then fs t) r in
              subst (λ (g : Leaving). pos 0 ≤ℤ g.at) (sym x.2) (flight_late side x.0 (of_filter (λ (g : Flight). int_eq g.at t) x.0 fs x.1).0))
        ]

  module _ (side : Side) (fs : List Leaving) (late : (f : Leaving) → IsIn f fs → pos 0 ≤ℤ f.at) where
    copy_late : (x : Delayed) (a : Arrival) → IsIn x (delayed_behind d side none_sent fs) → IsIn a (copies_in x) → pos 0 ≤ℤ a.at
    copy_late x a m i =
        let w = delayed_is d side none_sent fs x m in
        let class = x.frame.class in
        let ns = of_map (copy_at x.frame) a x.delays i in
        let within = in_all (IsFrom (least_of class) MOST_TRANSIT) ns.0 (copies_of d side class w.number) (copies_within d is.transits is.deliveries side class w.number)
        (subst (λ (delays : List ℤ). IsIn ns.0 delays) w.delays_are ns.1) in
        subst (λ (b : Arrival). pos 0 ≤ℤ b.at) (sym ns.2) (sum_late x.frame.at (ticks_of_ns ns.0) (late x.frame w.there) (positive ns.0 (weak ns.0 (least_of class) within.low)))

    all_lands_late : (a : Arrival) → IsIn a (landing_with d side fs) → pos 0 ≤ℤ a.at
    all_lands_late a m = elim (in_either a (copies_among (delayed_behind d side none_sent fs)) (injected_to side d) m) [
      | inl copy ↦ (let x = of_copies (delayed_behind d side none_sent fs) a copy in copy_late x.0 a x.1 x.2)
      | inr injected ↦ injected_late side a injected
    ]

-- ---- at the radio unit

radio_late : (d : Document) → IsReplayable d → (a : Arrival) → IsIn a (landings_for Ru d) → pos 0 ≤ℤ a.at
radio_late d doc a m =
    let is = doc.document in
    all_lands_late d is Ru (all_leaving Ru d) (leaving_late d is Ru (leaving_to Ru d) (down_late d doc) first_clock) a m

-- ---- at the distributed unit: no symbol of a message starts before time 0

clock_begins : first_clock ≤ℤ pos 0
clock_begins = omega (arith, ints)

last_begins : pos 0 ≤ℤ (end_of_time +ℤ pos 1)
last_begins = omega (arith, ints)

last_early : (pos 0 -ℤ pos 1) ≤ℤ pos 0
last_early = omega (arith, ints)

none_framed : (c : Config) (antenna : Antenna) (js : List UplinkJob) → js ≡ [] → frames_of c antenna js ≡ []
unfolding frames_behind
none_framed c antenna js none = ap (frames_of c antenna) none

module _ (d : Document) (doc : IsReplayable d) where
  abbrev landed : List Arrival
  landed = landings_of d

  landed_late : (a : Arrival) → IsIn a landed → pos 0 ≤ℤ a.at
  landed_late = all_lands_late d doc.document Ru (leaving_down d) (down_late d doc)

  nothing_came : arrivals_before landed (pos 0) ≡ []
  nothing_came =
      calm_adds_nothing landed first_clock (pos 0) (≤ℤ_refl first_clock) clock_begins (λ t low high. none_before t landed high landed_late)
      ∙ none_yet landed first_clock (≤ℤ_refl first_clock)

  none_starts : jobs_until d.config landed (pos 0 -ℤ pos 1) ≡ []
  none_starts =
      sym (jobs_settled d.config landed (pos 0 -ℤ pos 1) (pos 0) doc.document.config (are_replayed d Ru doc.document doc.valid) clock_begins last_begins last_early)
      ∙ jobs_of_nothing d.config (arrivals_before landed (pos 0)) (pos 0 -ℤ pos 1) nothing_came

  all_start : handed_for d ≡ handed_between d.config (antenna_for d) landed (pos 0) (end_of_time +ℤ pos 1)
  all_start =
      handed_go_on_from d.config (antenna_for d) landed (pos 0) end_of_time clock_begins last_begins
      ∙ ap (λ (fs : List LinkFrame). fs ++ handed_between d.config (antenna_for d) landed (pos 0) (end_of_time +ℤ pos 1)) (none_framed d.config (antenna_for d) _ none_starts)

  up_late : (f : Leaving) → IsIn f (leaving_up d) → pos 0 ≤ℤ f.at
  up_late f m =
      let w = sent_is_handed d doc.document doc.valid f m in
      let all = subst (All (λ (g : LinkFrame). pos 0 ≤ℤ g.at.0)) (sym all_start) (handed_leave_from d.config (antenna_for d) landed (pos 0) (end_of_time +ℤ pos 1) doc.document.config) in
      subst (λ (g : Leaving). pos 0 ≤ℤ g.at) (sym w.2) (in_all (λ (g : LinkFrame). pos 0 ≤ℤ g.at.0) w.0 (handed_for d) all w.1)

  distributed_late : (a : Arrival) → IsIn a (landings_for Du d) → pos 0 ≤ℤ a.at
  distributed_late a m =
      let is = doc.document in
      all_lands_late d is Du (all_leaving Du d) (leaving_late d is Du (leaving_to Du d) up_late first_clock) a m

-- ---- at either

lands_late : (d : Document) (side : Side) → IsReplayable d → (a : Arrival) → IsIn a (landings_for side d) → pos 0 ≤ℤ a.at
lands_late d Ru doc = radio_late d doc
lands_late d Du doc = distributed_late d doc

-- a tick at which a frame lands
pub late_enough : (d : Document) (side : Side) (tick : ℤ) (a : Arrival) (more : List Arrival) → IsReplayable d → landing_at (landings_for side d) tick ≡ a ∷ more → pos 0 ≤ℤ tick
late_enough d side tick a more doc is =
    let all = landings_for side d in
    let w = of_filter (λ (x : Arrival). int_eq x.at tick) a all (subst (λ (xs : List Arrival). IsIn a xs) (sym is) (inl refl)) in
    subst (λ (t : ℤ). pos 0 ≤ℤ t) ((Decides-int_eq a.at tick).0 w.1) (lands_late d side doc a w.0)
