-- Each message of a valid plan has from 1 to 128 frames, and the last leaves in a queue's times.
use Rattle.std.proofs.Common.{◌≡◌, ℕ, ℤ, pos, neg_ℤ, suc, ◌+◌, ◌-◌, ◌*◌, ◌/◌, ◌^◌, ◌<◌, ◌≤◌, ◌+ℤ◌, ◌≤ℤ◌, ◌<ℤ◌, min, inl, inr, List, [], ◌∷◌, ◌++◌, map, refl, sym, subst, arith}
use Rattle.std.specs.Prelude.{All}
use Rattle.std.proofs.lemmas.Int.{ints}
use Rattle.std.proofs.Math.Nat.{div-lt_iff_lt-mul}
use Rattle.std.proofs.lemmas.List.Elements.{All-nil, All-cons, All-append}
use Rattle.window_config.specs.Configs.{IsConfig}
use Rattle.window_config.specs.Plans.{IsPlanLine}
use Rattle.window_config.specs.Windows.{ticks_of_ns}
use Rattle.window_config.specs.declared.config.Config.{Config}
use Rattle.window_config.specs.declared.endpoints.EndpointConfig.{EndpointConfig}
use Rattle.window_config.specs.declared.plan.PlanLine.{PlanLine}
use Rattle.unit_model.specs.Proper.{IsAt}
use Rattle.plan_model.specs.Departures.{departures_of, sending_window, start_of_part, width_of}
use Rattle.plan_model.specs.Lines.{planned}
use Rattle.plan_model.specs.Packs.{Numbered, packs, size_of}
use Rattle.plan_model.specs.Streams.{Part, frames_in, messages_of, part_fields, parts_in}
use Rattle.plan_model.specs.Valid.{IsValid}
use Rattle.plan_model.specs.declared.lines.PlannedLine.{PlannedLine}
use Rattle.plan_model.specs.declared.streams.Stream.{Stream}
use Rattle.plan_model.specs.declared.streams.Stream.TheVariants.{DownCommands, UpCommands, DownData, UpData}
use Rattle.du_scheduler.specs.Turns.{IsRun}
use Rattle.du_scheduler.specs.declared.turns.Run.{Run}
use Rattle.schedule_laws.proofs.FlowLemmas.{section_short, some_frames}
use Rattle.plan_model.proofs.LineLemmas.{good}
use Rattle.schedule_laws.proofs.OrderLemmas.{all_short}
use Rattle.plan_model.proofs.SchedulePackLemmas.{message_from}
use Rattle.plan_model.proofs.SentLemmas.{IsSentStream, message_part, part_is}
use Rattle.du_scheduler.specs.Runs.{MessagesAreRuns, endpoint_runs, latest, run_of, runs_from, stream_runs}
use Rattle.schedule_laws.proofs.SentTimeLemmas.{most_before, part_time}
use Rattle.window_config.proofs.TickLemmas.{in_ticks}
use Rattle.unit_model.specs.Terms.{piece_count, MESSAGE_BYTES}
use Rattle.window_config.specs.declared.config.TheConstants.{LEAST_FRAGMENT}
use Rattle.fh_base.specs.Members.{IsIn}
use Rattle.fh_base.proofs.EachLemmas.{gap_is}

few_frames : (fragment size : ℕ) → LEAST_FRAGMENT ≤ fragment → size ≤ MESSAGE_BYTES → piece_count fragment size ≤ 128
few_frames fragment size h k =
    let under : size + (fragment - 1) < 129 * fragment = omega (arith, h, k) in
    let some : 0 < fragment = omega (arith, h) in
    let less : (size + (fragment - 1)) / fragment < 129 = (div-lt_iff_lt-mul some).1 under in
    omega (arith, less)

from_none : (n : ℕ) → n ≤ 128 → 0 + n ≤ 128
from_none n h = omega (arith, h)

time_order : (start : ℤ) (wait spread : ℕ) → (start +ℤ pos (min wait spread)) ≤ℤ (start +ℤ pos spread)
time_order start wait spread = omega (arith, ints)

time_bound : (s least most : ℤ) (width : ℕ) → s ≤ℤ pos 1536100000000000 → pos 0 ≤ℤ least → least ≤ℤ most → most ≤ℤ pos 4000000
    → ticks_of_ns least +ℤ pos width ≡ ticks_of_ns most → ((s +ℤ neg_ℤ (ticks_of_ns most)) +ℤ pos width) <ℤ pos (2 ^ 62)
time_bound s least most width a low order high e = omega (arith, ints)

module _ (c : Config) (lines : List PlanLine) (config : IsConfig c) (fit : All IsPlanLine lines) (valid : IsValid c lines) where
  abbrev ps : List PlannedLine
  ps = planned c.endpoints lines

  data_short : (ep : ℕ) (e : EndpointConfig) (n : Numbered Part) → IsIn n (messages_of c ps DownData ep e) → size_of part_fields n.message ≤ MESSAGE_BYTES
  unfolding messages_of
  data_short ep e n m =
      let parts = parts_in ps DownData ep e in
      all_short part_fields c.pack parts n.message (λ x i. section_short c.endpoints x (good c lines config fit valid x.planned (part_is ps DownData tt ep e x i).from))
      (message_from part_fields (frames_in c DownData) (packs part_fields c.pack parts) n m)

  some : (stream : Stream) → IsSentStream stream → (n : Numbered Part) → 0 < frames_in c stream n.message
  some DownCommands s n = omega arith
  some UpCommands s n = omega arith
  some DownData s n = some_frames c n.message config.fragment_low
  some UpData s n = absurd s

  few : (stream : Stream) → IsSentStream stream → (ep : ℕ) (e : EndpointConfig) (n : Numbered Part) → IsIn n (messages_of c ps stream ep e) → 0 + frames_in c stream n.message ≤ 128
  few DownCommands s ep e n m = omega arith
  few UpCommands s ep e n m = omega arith
  few DownData s ep e n m = from_none (piece_count c.fragment (size_of part_fields n.message)) (few_frames c.fragment (size_of part_fields n.message) config.fragment_low (data_short ep e n m))
  few UpData s ep e n m = absurd s

  latest_is : (stream : Stream) → IsSentStream stream → (n : Numbered Part)
      → latest c stream n ≡ (start_of_part n.message.first +ℤ neg_ℤ (ticks_of_ns (sending_window c.delays stream).max)) +ℤ pos (width_of (sending_window c.delays stream))
  latest_is DownCommands s n = refl
  latest_is UpCommands s n = refl
  latest_is DownData s n = refl
  latest_is UpData s n = absurd s

  is_run : (stream : Stream) → IsSentStream stream → (ep : ℕ) (e : EndpointConfig) → IsAt c.endpoints ep e → (n : Numbered Part) → IsIn n (messages_of c ps stream ep e) → IsRun (run_of c stream ep n)
  is_run stream s ep e at n m =
      let d = departures_of c stream in
      let x = n.message.first in
      let time = part_time c lines config fit valid stream s ep e at x (message_part c ps stream ep e n x m (inl refl)) in
      let window = sending_window c.delays stream in
      let most = most_before c lines config fit valid stream s in
      record {
        some = some stream s n;
        subs = few stream s ep e n m;
        order = time_order (start_of_part x +ℤ d.from.0) ((n.before + 0) * d.gap) d.spread;
        bound = subst (λ (t : ℤ). t <ℤ pos (2 ^ 62)) (sym (latest_is stream s n))
            (time_bound (start_of_part x) window.min window.max (width_of window) time.1 most.2 most.0 most.1
            (gap_is (ticks_of_ns window.min) (ticks_of_ns window.max) (in_ticks window.min window.max most.0)));
      }

  all_runs : (f : Numbered Part → Run) (ns : List (Numbered Part)) → ((n : Numbered Part) → IsIn n ns → IsRun (f n)) → All IsRun (map f ns)
  all_runs f [] h = All-nil IsRun
  all_runs f (n ∷ ns) h = All-cons IsRun (f n) (map f ns) (h n (inl refl)) (all_runs f ns (λ x m. h x (inr m)))

  of_stream : (stream : Stream) → IsSentStream stream → (ep : ℕ) (e : EndpointConfig) → IsAt c.endpoints ep e → All IsRun (stream_runs c ps stream ep e)
  of_stream stream s ep e at = all_runs (run_of c stream ep) (messages_of c ps stream ep e) (λ n m. is_run stream s ep e at n m)

  of_endpoint : (ep : ℕ) (e : EndpointConfig) → IsAt c.endpoints ep e → All IsRun (endpoint_runs c ps ep e)
  of_endpoint ep e at =
      All-append IsRun (stream_runs c ps DownCommands ep e) (stream_runs c ps UpCommands ep e ++ stream_runs c ps DownData ep e) (of_stream DownCommands tt ep e at)
      (All-append IsRun (stream_runs c ps UpCommands ep e) (stream_runs c ps DownData ep e) (of_stream UpCommands tt ep e at) (of_stream DownData tt ep e at))

  of_endpoints : (start : ℕ) (es : List EndpointConfig) → ((i : ℕ) (e : EndpointConfig) → IsAt es i e → IsAt c.endpoints (start + i) e) → All IsRun (runs_from c ps start es)
  unfolding runs_from
  of_endpoints start [] h = All-nil IsRun
  of_endpoints start (e ∷ es) h =
      let here : start + 0 ≡ start = omega arith in
      All-append IsRun (endpoint_runs c ps start e) (runs_from c ps (start + 1) es) (of_endpoint start e (subst (λ k. IsAt c.endpoints k e) here (h 0 e refl)))
      (of_endpoints (start + 1) es (λ i g at. (let there : start + suc i ≡ start + 1 + i = omega arith in subst (λ k. IsAt c.endpoints k g) there (h (suc i) g at))))

pub messages_are_runs : MessagesAreRuns
messages_are_runs c lines config fit valid =
    of_endpoints c lines config fit valid 0 c.endpoints (λ i e at. (let here : 0 + i ≡ i = omega arith in subst (λ k. IsAt c.endpoints k e) (sym here) at))
