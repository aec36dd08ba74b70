-- What the radio unit sends for what lands at it: when each frame leaves, and that all of them do.
use Rattle.std.proofs.Common.{◌≡◌, ℕ, ℤ, pos, ◌+◌, ◌*◌, ◌<◌, ◌≤◌, ◌+ℤ◌, ◌-ℤ◌, ◌≤ℤ◌, min, inl, inr, Bool, true, false, if◌then◌else◌, List, [], ◌∷◌, ◌++◌, length, Option, Some, None, refl, ap, sym, ◌∙◌, subst, arith, append-nil}
use Rattle.std.specs.Prelude.{All, IsPermutation, map}
use Rattle.std.specs.List.{slice_get}
use Rattle.std.specs.Option.{option_map_or}
use Rattle.std.proofs.lemmas.Int.{ints}
use Rattle.std.proofs.lemmas.List.Elements.{All-head, All-tail}
use Rattle.std.proofs.lemmas.List.Sorted.{All-permutation, IsPermutation-map, IsPermutation-sym}
use Rattle.air_source.specs.declared.events.Side.TheVariants.{Ru}
use Rattle.air_source.specs.declared.links.LinkFrame.{LinkFrame}
use Rattle.fh_document.specs.Proper.{IsDocument}
use Rattle.fh_document.specs.declared.document.Document.{Document}
use Rattle.unit_laws.proofs.SendingLemmas.{jobs_are_proper}
use Rattle.plan_model.specs.Departures.{departures_of}
use Rattle.plan_model.specs.Packs.{Message, alone, with_part}
use Rattle.plan_model.specs.Valid.{IsValid}
use Rattle.plan_model.specs.declared.streams.Stream.TheVariants.{UpData}
use Rattle.replay_laws.proofs.CameLemmas.{arrivals_in_time}
use Rattle.replay_laws.specs.Moments.{all_arrivals}
use Rattle.plan_model.proofs.TimeLemmas.{wait_most}
use Rattle.unit_laws.proofs.EndLemmas.{no_jobs_later}
use Rattle.unit_laws.proofs.SentLemmas.{jobs_append}
use Rattle.unit_model.proofs.SweepLaws.{sweep_quiet as sweep-nothing}
use Rattle.unit_model.specs.Meetings.{Arrival}
use Rattle.unit_model.specs.Proper.{IsAt, IsTime}
use Rattle.unit_model.specs.ProperJobs.{IsProperJob}
use Rattle.unit_model.specs.Radiated.{first_clock}
use Rattle.unit_model.specs.Reports.{accepted_of}
use Rattle.unit_model.specs.Standing.{AreInTime}
use Rattle.unit_model.specs.Times.{end_of_time, last_landing}
use Rattle.unit_model.specs.Uplink.{jobs, symbol_jobs}
use Rattle.unit_model.specs.declared.allocations.Allocation.{Allocation}
use Rattle.unit_model.specs.declared.jobs.UplinkJob.{UplinkJob}
use Rattle.uplink_model.proofs.SentLemmas.{all_are_sent}
use Rattle.uplink_model.specs.Frames.{Antenna, uplink_frame_of, frames_behind, uplink_frames_from, uplink_message_frames}
use Rattle.uplink_model.specs.Messages.{frame_count, uplink_frames_before, messages_behind, uplink_messages_of, number_behind, takes_job}
use Rattle.uplink_model.specs.Sent.{in_sent_order}
use Rattle.uplink_model.specs.SentLaws.{AreInTimes, AreOf}
use Rattle.window_config.specs.Windows.{ticks_of_ns}
use Rattle.window_config.specs.declared.config.Config.{Config}
use Rattle.window_config.specs.declared.endpoints.EndpointConfig.{EndpointConfig}
use Rattle.document_traffic.specs.Landing.{antenna_for, handed_for, jobs_for, landings_of, leaving_answer, leaving_up}
use Rattle.document_traffic.specs.Laws.{AnswersAllLeave}
use Rattle.document_traffic.specs.Sending.{Leaving, leaving_down, leaving_of, sent_for}
use Rattle.document_traffic.proofs.ArrivalLemmas.{of_arrivals}
use Rattle.document_traffic.proofs.LineLemmas.{lines_fit}
use Rattle.document_traffic.proofs.TimeLemmas.{IsBy, frame_leaves, last_sent, longest, replayed_by}
use Rattle.document_traffic.proofs.WithinLemmas.{each_lands}
use Rattle.window_config.specs.declared.delays.TheConstants.{MOST_DELAY}
use Rattle.window_config.proofs.TickLemmas.{in_ticks}
use Rattle.unit_laws.proofs.UnitLemmas.{small_is}
use Rattle.fh_base.specs.Members.{IsIn}
use Rattle.fh_base.proofs.MemberLemmas.{in_either, all_of, the_one}
use Rattle.fh_base.proofs.MadeLists.{in_all, in_map, of_each, of_map}
use Rattle.fh_base.proofs.EachLemmas.{gap_is}
use Rattle.fh_base.proofs.RisingLemmas.{below_get}

-- ---- frames that are handed over for messages

-- one of the frames of one of the messages
pub record IsHanded (c : Config) (antenna : Antenna) (ms : List (Message UplinkJob)) (f : LinkFrame) : Type 0 where
  pub message : Message UplinkJob
  pub there : IsIn message ms
  pub endpoint : EndpointConfig
  pub at : IsAt c.endpoints message.first.ep endpoint
  pub number : ℕ
  pub before : ℕ
  pub sub : ℕ
  pub below : sub < frame_count c message
  pub is : f ≡ uplink_frame_of c antenna endpoint message number before sub

pub handed_is : (c : Config) (antenna : Antenna) (earlier ms : List (Message UplinkJob)) (f : LinkFrame) → IsIn f (frames_behind c antenna earlier ms) → IsHanded c antenna ms f
unfolding frames_behind uplink_message_frames
handed_is c antenna earlier [] f m = absurd m
handed_is c antenna earlier (x ∷ ms) f m = elim (in_either f (uplink_message_frames c antenna earlier x) (frames_behind c antenna (x ∷ earlier) ms) m) [
  | inl here ↦ go (slice_get c.endpoints x.first.ep) refl here
  | inr later ↦
      (let w = handed_is c antenna (x ∷ earlier) ms f later in
      record { message = w.message; there = inr w.there; endpoint = w.endpoint; at = w.at; number = w.number; before = w.before; sub = w.sub; below = w.below; is = w.is })
]
  where
    go : (o : Option EndpointConfig) → slice_get c.endpoints x.first.ep ≡ o
        → IsIn f (option_map_or (λ e. uplink_frames_from c antenna e x (number_behind x.first.ep earlier) (uplink_frames_before c x.first earlier) 0 (frame_count c x)) o [])
        → IsHanded c antenna (x ∷ ms) f
    go None at i = absurd i
    go (Some e) at i =
        let number = number_behind x.first.ep earlier in
        let before = uplink_frames_before c x.first earlier in
        let w = of_each f 0 (frame_count c x) (λ k. uplink_frame_of c antenna e x number before k ∷ []) i in
        record {
          message = x;
          there = inl refl;
          endpoint = e;
          at = at;
          number = number;
          before = before;
          sub = w.0;
          below = small_is w.0 (frame_count c x) w.2;
          is = the_one f (uplink_frame_of c antenna e x number before w.0) w.3;
        }

-- what holds of each job holds of the first of each message
module _ (P : UplinkJob → Type 0) (c : Config) where
  first_behind : (m : Message UplinkJob) (js : List UplinkJob) → P m.first → All P js → (x : Message UplinkJob) → IsIn x (messages_behind c m js) → P x.first
  unfolding messages_behind
  first_behind m [] h all x i = subst (λ (y : Message UplinkJob). P y.first) (sym (the_one x m i)) h
  first_behind m (j ∷ js) h all x i =
      let rest = All-tail P j js all in
      go (takes_job c m j) (first_behind (with_part m j) js h rest x) (first_behind (alone j) js (All-head P j js all) rest x) i
    where
      go : (b : Bool) → (IsIn x (messages_behind c (with_part m j) js) → P x.first) → (IsIn x (messages_behind c (alone j) js) → P x.first)
          → IsIn x (if b then messages_behind c (with_part m j) js else m ∷ messages_behind c (alone j) js) → P x.first
      go true taken other n = taken n
      go false taken other n = elim n [ inl e ↦ subst (λ (y : Message UplinkJob). P y.first) (sym e) h | inr t ↦ other t ]

  first_of_each : (js : List UplinkJob) → All P js → (x : Message UplinkJob) → IsIn x (uplink_messages_of c js) → P x.first
  first_of_each [] all x i = absurd i
  first_of_each (j ∷ js) all x i = first_behind (alone j) js (All-head P j js all) (All-tail P j js all) x i

-- what is in a list is in each order of it
permuted : {X : Type 0} (x : X) (xs ys : List X) → IsPermutation xs ys → IsIn x xs → IsIn x ys
permuted x xs ys p m = in_all (λ y. IsIn y ys) x xs (All-permutation (λ y. IsIn y ys) ys xs (IsPermutation-sym xs ys p) (all_of (λ y. IsIn y ys) ys (λ y n. n))) m

-- ---- when the answers leave

-- all that lands at the radio unit does by then
abbrev pub last_heard : ℤ
last_heard = last_sent +ℤ longest

-- the last symbol that a command then can name starts before a second is over
abbrev pub last_start : ℤ
last_start = pos 1542243999999999

-- the answers leave by then
abbrev pub last_answered : ℤ
last_answered = pos 1543000000000000

heard_in_time : last_heard ≤ℤ last_landing
heard_in_time = omega (arith, ints)

sent_late : pos 1536000000000000 ≤ℤ last_sent
sent_late = omega (arith, ints)

second_later : (tick : ℤ) → (last_start +ℤ pos 1) ≤ℤ tick → (last_heard +ℤ pos 1536000000000) ≤ℤ tick
second_later tick h = omega (arith, ints, h)

start_begun : first_clock ≤ℤ last_start
start_begun = omega (arith, ints)

answered_in_time : (t : ℤ) → t ≤ℤ last_answered → t ≤ℤ end_of_time
answered_in_time t h = omega (arith, ints, h)

start_in_time : last_start ≤ℤ end_of_time
start_in_time = omega (arith, ints)

in_time_by : (clock last : ℤ) (xs : List Arrival) → AreInTime clock xs → ((a : Arrival) → IsIn a xs → a.at ≤ℤ last) → AreInTime last xs
in_time_by clock last [] h by = tt
in_time_by clock last (a ∷ earlier) h by = (by a (inl refl), h.1)

-- a frame leaves within Ta3 after a symbol that starts at s
answer_leaves : (s least most : ℤ) (wait width : ℕ) → first_clock ≤ℤ s → s ≤ℤ last_start → pos 0 ≤ℤ least → most ≤ℤ pos MOST_DELAY
    → ticks_of_ns least +ℤ pos width ≡ ticks_of_ns most → wait ≤ width → IsBy last_answered ((s +ℤ ticks_of_ns least) +ℤ pos wait)
answer_leaves s least most wait width low high some few is in_width = record { low = omega (arith, ints); high = omega (arith, ints) }

module _ (d : Document) (is : IsDocument d) (valid : IsValid d.config d.plan) where
  pub down_leaves : (f : Leaving) → IsIn f (leaving_down d) → IsBy last_sent f.at
  down_leaves f m =
      let w = of_map (leaving_of d) f (sent_for d) m in
      subst (λ (g : Leaving). IsBy last_sent g.at) (sym w.2) (frame_leaves d.config d.plan is.config (lines_fit d.plan is.plan) valid w.0 w.1)

  pub heard_by : (a : Arrival) → IsIn a (landings_of d) → IsBy last_heard a.at
  heard_by = each_lands d is Ru (leaving_down d) last_sent sent_late down_leaves

  abbrev arrivals : List Arrival
  arrivals = all_arrivals (landings_of d)

  came : AreInTime last_heard arrivals × All (λ a. IsTime a.at) arrivals
  came =
      let end = end_of_time +ℤ pos 1 in
      let proper = arrivals_in_time (landings_of d) end (replayed_by last_heard (landings_of d) heard_in_time heard_by) in
      (in_time_by (end -ℤ pos 1) last_heard arrivals proper.0 (λ a m. (heard_by a (of_arrivals (landings_of d) a m)).high), proper.1)

  abbrev accepted : List Allocation
  accepted = accepted_of d.config arrivals

  -- there are no jobs after the last start
  jobs_by : jobs_for d ≡ jobs d.config.endpoints accepted last_start
  jobs_by =
      let es = d.config.endpoints in
      jobs_append es accepted last_start end_of_time start_begun start_in_time
      ∙ ap (λ (js : List UplinkJob). jobs es accepted last_start ++ js)
      (sweep-nothing (symbol_jobs accepted) es (last_start +ℤ pos 1) (end_of_time +ℤ pos 1) (λ tick low high.
      no_jobs_later d.config last_heard arrivals tick is.config.delays came.0 (second_later tick low)))
      ∙ append-nil (jobs es accepted last_start)

  pub jobs_proper : All (IsProperJob d.config.endpoints last_start) (jobs_for d)
  jobs_proper = subst (All (IsProperJob d.config.endpoints last_start)) (sym jobs_by) (jobs_are_proper d.config last_heard arrivals last_start came.0 came.1)

  frame_leaves_by : (f : LinkFrame) → IsHanded d.config (antenna_for d) (uplink_messages_of d.config (jobs_for d)) f → IsBy last_answered f.at.0
  frame_leaves_by f h =
      let job = first_of_each (IsProperJob d.config.endpoints last_start) d.config (jobs_for d) jobs_proper h.message h.there in
      let p = departures_of d.config UpData in
      let ta3 = d.config.delays.ta3 in
      let limits = is.config.delays.ta3 in
      subst (λ (g : LinkFrame). IsBy last_answered g.at.0) (sym h.is)
      (answer_leaves h.message.first.s.0 ta3.min ta3.max (min ((h.before + h.sub) * p.gap) p.spread) p.spread job.low job.high limits.low limits.high
      (gap_is (ticks_of_ns ta3.min) (ticks_of_ns ta3.max) (in_ticks ta3.min ta3.max limits.order)) (wait_most (h.before + h.sub) p.gap p.spread))

  pub handed_frame : (f : LinkFrame) → IsIn f (handed_for d) → IsHanded d.config (antenna_for d) (uplink_messages_of d.config (jobs_for d)) f
  handed_frame f m = handed_is d.config (antenna_for d) [] (uplink_messages_of d.config (jobs_for d)) f m

  pub handed_leaves : (f : LinkFrame) → IsIn f (handed_for d) → IsBy last_answered f.at.0
  handed_leaves f m = frame_leaves_by f (handed_frame f m)

  handed_endpoint : (f : LinkFrame) → IsIn f (handed_for d) → f.ep < length d.config.endpoints
  handed_endpoint f m =
      let h = handed_frame f m in
      subst (λ (g : LinkFrame). g.ep < length d.config.endpoints) (sym h.is) (below_get h.message.first.ep h.endpoint d.config.endpoints h.at)

  -- ---- all of them leave, and nothing else does

  handed_of : AreOf (length d.config.endpoints) (handed_for d)
  handed_of = all_of (λ (f : LinkFrame). f.ep < length d.config.endpoints) (handed_for d) handed_endpoint

  handed_in_times : AreInTimes (handed_for d)
  handed_in_times =
      all_of (λ (f : LinkFrame). (first_clock ≤ℤ f.at.0) × (f.at.0 ≤ℤ end_of_time)) (handed_for d)
      (λ f m. (let by = handed_leaves f m in (by.low, answered_in_time f.at.0 by.high)))

  pub all_leave : IsPermutation (map leaving_answer (handed_for d)) (leaving_up d)
  all_leave =
      let n = length d.config.endpoints in
      IsPermutation-map leaving_answer (handed_for d) (in_sent_order n (handed_for d)) (all_are_sent n (handed_for d) handed_of handed_in_times)

  pub handed_is_sent : (f : LinkFrame) → IsIn f (handed_for d) → IsIn (leaving_answer f) (leaving_up d)
  handed_is_sent f m = permuted (leaving_answer f) (map leaving_answer (handed_for d)) (leaving_up d) all_leave (in_map leaving_answer f (handed_for d) m)

  pub sent_is_handed : (f : Leaving) → IsIn f (leaving_up d) → (g : LinkFrame) × IsIn g (handed_for d) × (f ≡ leaving_answer g)
  sent_is_handed f m =
      let handed = map leaving_answer (handed_for d) in
      of_map leaving_answer f (handed_for d) (permuted f (leaving_up d) handed (IsPermutation-sym handed (leaving_up d) all_leave) m)

  pub up_leaves : (f : Leaving) → IsIn f (leaving_up d) → IsBy last_answered f.at
  up_leaves f m =
      let w = sent_is_handed f m in
      subst (λ (g : Leaving). IsBy last_answered g.at) (sym w.2) (handed_leaves w.0 w.1)

pub answers_all_leave : AnswersAllLeave
answers_all_leave d is valid = all_leave d is valid
