-- Each frame of a valid plan leaves in the times that are gone over.
use Rattle.std.proofs.Common.{◌≡◌, ℕ, ℤ, pos, neg_ℤ, suc, ◌+◌, ◌*◌, ◌<◌, ◌+ℤ◌, ◌≤ℤ◌, ◌<ℤ◌, min, inl, inr, List, [], ◌∷◌, ◌++◌, refl, sym, subst, arith}
use Rattle.std.specs.Prelude.{All}
use Rattle.std.specs.Int.{int_gap}
use Rattle.std.proofs.lemmas.Int.{ints}
use Rattle.fh_base.specs.Numbering.{symbols_of}
use Rattle.window_config.specs.Configs.{IsConfig}
use Rattle.window_config.specs.Plans.{IsPlanLine}
use Rattle.window_config.specs.Windows.{ticks_of_ns}
use Rattle.window_config.specs.declared.config.Config.{Config}
use Rattle.window_config.specs.declared.endpoints.EndpointConfig.{EndpointConfig}
use Rattle.window_config.specs.declared.plan.PlanLine.{PlanLine}
use Rattle.unit_model.specs.Proper.{IsAt}
use Rattle.unit_model.specs.Radiated.{first_clock}
use Rattle.unit_model.specs.Times.{end_of_time}
use Rattle.unit_laws.proofs.FarLemmas.{endpoints_equal}
use Rattle.plan_model.specs.Departures.{departures_of, sending_window, sent_at, start_of_part, width_of}
use Rattle.plan_model.specs.Lines.{planned}
use Rattle.plan_model.specs.Packs.{Numbered}
use Rattle.plan_model.specs.Sent.{SentFrame, endpoint_frames, frames_from, stream_frames}
use Rattle.plan_model.specs.Streams.{Part, messages_of, parts_in}
use Rattle.plan_model.specs.Valid.{IsValid}
use Rattle.plan_model.specs.declared.lines.PlannedLine.{PlannedLine}
use Rattle.plan_model.specs.declared.streams.Stream.{Stream}
use Rattle.plan_model.specs.declared.streams.Stream.TheVariants.{DownCommands, UpCommands, DownData, UpData}
use Rattle.plan_model.proofs.LineLemmas.{good, part_line, start_in_time}
use Rattle.plan_model.proofs.SentLemmas.{IsSentStream, message_part, part_is}
use Rattle.plan_model.proofs.TimeLemmas.{in_time, wait_most}
use Rattle.schedule_laws.proofs.SentOrderLemmas.{of_message, of_messages}
use Rattle.fh_base.specs.declared.frames.TheConstants.{FRAME}
use Rattle.window_config.proofs.TickLemmas.{in_ticks}
use Rattle.fh_base.specs.Members.{IsIn}
use Rattle.fh_base.proofs.MemberLemmas.{in_either}
use Rattle.fh_base.proofs.EachLemmas.{gap_is}

abbrev pub IsInTime : ℤ → Type 0
IsInTime t = (first_clock ≤ℤ t) × (t <ℤ (first_clock +ℤ pos (int_gap first_clock (end_of_time +ℤ pos 1))))

to_end : (t : ℤ) → first_clock ≤ℤ t → t <ℤ (end_of_time +ℤ pos 1) → IsInTime t
to_end t low high = (low, subst (λ (z : ℤ). t <ℤ z) (sym (gap_is first_clock (end_of_time +ℤ pos 1) (omega (arith, ints)))) high)

module _ (c : Config) (lines : List PlanLine) (config : IsConfig c) (fit : All IsPlanLine lines) (valid : IsValid c lines) where
  abbrev ps : List PlannedLine
  ps = planned c.endpoints lines

  pub most_before : (stream : Stream) → IsSentStream stream → ((sending_window c.delays stream).min ≤ℤ (sending_window c.delays stream).max) × ((sending_window c.delays stream).max ≤ℤ pos 4000000)
      × (pos 0 ≤ℤ (sending_window c.delays stream).min)
  most_before DownCommands s =
      let w = config.delays.t1a_up in
      let a = config.delays.advance in (omega (arith, ints, w.order), omega (arith, ints, w.high, a.high), omega (arith, ints, w.low, a.low))
  most_before UpCommands s = let w = config.delays.t1a_cp_ul in (w.order, omega (arith, ints, w.high), w.low)
  most_before DownData s = let w = config.delays.t1a_up in (w.order, omega (arith, ints, w.high), w.low)
  most_before UpData s = absurd s

  leaves : (stream : Stream) → IsSentStream stream → (n : Numbered Part) (sub : ℕ)
      → sent_at c stream n sub ≡ (start_of_part n.message.first +ℤ neg_ℤ (ticks_of_ns (sending_window c.delays stream).max))
      +ℤ pos (min ((n.before + sub) * (departures_of c stream).gap) (width_of (sending_window c.delays stream)))
  leaves DownCommands s n sub = refl
  leaves UpCommands s n sub = refl
  leaves DownData s n sub = refl
  leaves UpData s n sub = absurd s

  -- a part's symbol starts in the first 1,001 s, no earlier than frame 1
  pub part_time : (stream : Stream) → IsSentStream stream → (ep : ℕ) (e : EndpointConfig) → IsAt c.endpoints ep e → (x : Part) → IsIn x (parts_in ps stream ep e)
      → (FRAME ≤ℤ start_of_part x) × (start_of_part x ≤ℤ pos 1536100000000000)
  part_time stream s ep e at x m =
      let part = part_is ps stream s ep e x m in
      let place = part_line stream s x.planned ep part.slot x.symbol part.has in
      let g = good c lines config fit valid x.planned part.from in
      let same = endpoints_equal c.endpoints x.planned.ep ep x.planned.endpoint e g.at at place.ep_is in
      start_in_time c.endpoints x.planned x.symbol g (subst (λ (y : EndpointConfig). x.symbol < symbols_of y.numerology) (sym same) part.is_symbol)

  message_time : (stream : Stream) → IsSentStream stream → (ep : ℕ) (e : EndpointConfig) → IsAt c.endpoints ep e → (n : Numbered Part) → IsIn n (messages_of c ps stream ep e) → (sub : ℕ)
      → IsInTime (sent_at c stream n sub)
  message_time stream s ep e at n m sub =
      let x = n.message.first in
      let time = part_time stream s ep e at x (message_part c ps stream ep e n x m (inl refl)) in
      let window = sending_window c.delays stream in
      let most = most_before stream s in
      let wait = min ((n.before + sub) * (departures_of c stream).gap) (width_of window) in
      let clock = in_time (start_of_part x) window.min window.max wait (width_of window) time.0 time.1 most.1 most.2 most.0
      (gap_is (ticks_of_ns window.min) (ticks_of_ns window.max) (in_ticks window.min window.max most.0)) (wait_most (n.before + sub) (departures_of c stream).gap (width_of window)) in
      subst IsInTime (sym (leaves stream s n sub)) (to_end ((start_of_part x +ℤ neg_ℤ (ticks_of_ns window.max)) +ℤ pos wait) clock.0 clock.1)

  stream_time : (stream : Stream) → IsSentStream stream → (ep : ℕ) (e : EndpointConfig) → IsAt c.endpoints ep e → (f : SentFrame) → IsIn f (stream_frames c ps stream ep e) → IsInTime f.at
  stream_time stream s ep e at f m =
      let w = of_messages c ps stream ep e (messages_of c ps stream ep e) f m in
      let x = of_message c stream ep e w.0 f w.2 in
      subst (λ (g : SentFrame). IsInTime g.at) (sym x.2) (message_time stream s ep e at w.0 w.1 x.0)

  endpoint_time : (ep : ℕ) (e : EndpointConfig) → IsAt c.endpoints ep e → (f : SentFrame) → IsIn f (endpoint_frames c ps ep e) → IsInTime f.at
  endpoint_time ep e at f m = elim (in_either f (stream_frames c ps DownCommands ep e) (stream_frames c ps UpCommands ep e ++ stream_frames c ps DownData ep e) m) [
    | inl a ↦ stream_time DownCommands tt ep e at f a
    | inr r ↦ elim (in_either f (stream_frames c ps UpCommands ep e) (stream_frames c ps DownData ep e) r) [
      | inl a ↦ stream_time UpCommands tt ep e at f a
      | inr b ↦ stream_time DownData tt ep e at f b
    ]
  ]

  frames_time : (start : ℕ) (es : List EndpointConfig) → ((i : ℕ) (e : EndpointConfig) → IsAt es i e → IsAt c.endpoints (start + i) e) → (f : SentFrame) → IsIn f (frames_from c ps start es) → IsInTime f.at
  unfolding frames_from
  frames_time start [] h f m = absurd m
  frames_time start (e ∷ es) h f m = elim (in_either f (endpoint_frames c ps start e) (frames_from c ps (start + 1) es) m) [
    | inl a ↦ (let here : start + 0 ≡ start = omega arith in endpoint_time start e (subst (λ k. IsAt c.endpoints k e) here (h 0 e refl)) f a)
    | inr r ↦ frames_time (start + 1) es (λ i g at. (let there : start + suc i ≡ start + 1 + i = omega arith in subst (λ k. IsAt c.endpoints k g) there (h (suc i) g at))) f r
  ]

  pub all_in_time : (f : SentFrame) → IsIn f (frames_from c ps 0 c.endpoints) → IsInTime f.at
  all_in_time f m = frames_time 0 c.endpoints (λ i e at. (let here : 0 + i ≡ i = omega arith in subst (λ k. IsAt c.endpoints k e) (sym here) at)) f m
