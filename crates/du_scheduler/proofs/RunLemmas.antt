-- The frames of a message are those of its run.
use Rattle.std.proofs.Common.{◌≡◌, ℕ, ℤ, pos, zero, suc, ◌+◌, ◌*◌, ◌+ℤ◌, min, List, [], ◌∷◌, ◌++◌, map, refl, ap, ap₂, sym, ◌∙◌, arith}
use Rattle.std.proofs.lemmas.List.{map-append}
use Rattle.window_config.specs.declared.config.Config.{Config}
use Rattle.window_config.specs.declared.endpoints.EndpointConfig.{EndpointConfig}
use Rattle.fh_base.specs.Lists.{each}
use Rattle.plan_model.specs.Departures.{departures_of, sent_at, start_of_part}
use Rattle.plan_model.specs.Packs.{Numbered}
use Rattle.plan_model.specs.Sent.{SentFrame, endpoint_frames, frame_of, frames_from, message_frames, stream_frames}
use Rattle.plan_model.specs.Streams.{Part, frames_in, messages_of}
use Rattle.plan_model.specs.declared.lines.PlannedLine.{PlannedLine}
use Rattle.plan_model.specs.declared.streams.Stream.{Stream}
use Rattle.plan_model.specs.declared.streams.Stream.TheVariants.{DownCommands, UpCommands, DownData}
use Rattle.du_scheduler.specs.Turns.{leaves, rest_of, turn_at, turns}
use Rattle.du_scheduler.specs.declared.turns.Turn.{Turn}
use Rattle.du_scheduler.specs.declared.turns.Run.{Run}
use Rattle.du_scheduler.proofs.TurnOrder.{frames_leave_in_time, made}
use Rattle.du_scheduler.specs.Runs.{endpoint_runs, gap_ticks, rests_of, run_of, runs_from, stream_runs, turn_of}
use Rattle.unit_model.specs.Terms.{joined}

first_at : (start : ℤ) (i gap spread : ℕ) → start +ℤ pos (min ((i + 0) * gap) spread) ≡ start +ℤ pos (min (i * gap) spread)
first_at start i gap spread = let e : i + 0 ≡ i = omega arith in ap (λ k. start +ℤ pos (min (k * gap) spread)) e

turn_is : (c : Config) (stream : Stream) (ep : ℕ) (e : EndpointConfig) (n : Numbered Part) (k : ℕ)
    → turn_at (gap_ticks c) (run_of c stream ep n) k ≡ turn_of (frame_of c stream ep e n k)
unfolding made
turn_is c stream ep e n k =
    let d = departures_of c stream in
    let start = start_of_part n.message.first +ℤ d.from.0 in
    let time : leaves (gap_ticks c) (run_of c stream ep n) k ≡ sent_at c stream n k =
    frames_leave_in_time (gap_ticks c) (run_of c stream ep n) start d.spread n.before k (first_at start n.before d.gap d.spread) refl in
    let sub : 0 + k ≡ k = omega arith in
    ap₂ (λ at s. made at ep stream n.number s) time sub

turns_are : (c : Config) (stream : Stream) (ep : ℕ) (e : EndpointConfig) (n : Numbered Part) (k count : ℕ)
    → turns (gap_ticks c) (run_of c stream ep n) k count ≡ map turn_of (each k count (λ sub. frame_of c stream ep e n sub ∷ []))
unfolding each
turns_are c stream ep e n k zero = refl
turns_are c stream ep e n k (suc count) = ap₂ (λ (t : Turn) (ts : List Turn). t ∷ ts) (turn_is c stream ep e n k) (turns_are c stream ep e n (k + 1) count)

pub rest_is : (c : Config) (stream : Stream) (ep : ℕ) (e : EndpointConfig) (n : Numbered Part) → rest_of (gap_ticks c) (run_of c stream ep n) ≡ map turn_of (message_frames c stream ep e n)
rest_is c stream ep e n = turns_are c stream ep e n 0 (frames_in c stream n.message)

pub rests-append : (gap : ℕ) (rs ss : List Run) → rests_of gap (rs ++ ss) ≡ rests_of gap rs ++ rests_of gap ss
rests-append gap [] ss = refl
rests-append gap (r ∷ rs) ss = ap (λ (ts : List Turn). rest_of gap r ++ ts) (rests-append gap rs ss) ∙ sym (append_assoc (rest_of gap r) (rests_of gap rs) (rests_of gap ss))
  where
    append_assoc : (xs ys zs : List Turn) → (xs ++ ys) ++ zs ≡ xs ++ (ys ++ zs)
    append_assoc [] ys zs = refl
    append_assoc (x ∷ xs) ys zs = ap (λ (ts : List Turn). x ∷ ts) (append_assoc xs ys zs)

messages_are : (c : Config) (stream : Stream) (ep : ℕ) (e : EndpointConfig) (ns : List (Numbered Part))
    → rests_of (gap_ticks c) (map (run_of c stream ep) ns) ≡ map turn_of (joined (map (message_frames c stream ep e) ns))
messages_are c stream ep e [] = refl
messages_are c stream ep e (n ∷ ns) =
    ap₂ (λ (xs ys : List Turn). xs ++ ys) (rest_is c stream ep e n) (messages_are c stream ep e ns)
    ∙ sym (map-append turn_of (message_frames c stream ep e n) (joined (map (message_frames c stream ep e) ns)))

module _ (c : Config) (ps : List PlannedLine) where
  stream_is : (stream : Stream) (ep : ℕ) (e : EndpointConfig) → rests_of (gap_ticks c) (stream_runs c ps stream ep e) ≡ map turn_of (stream_frames c ps stream ep e)
  stream_is stream ep e = messages_are c stream ep e (messages_of c ps stream ep e)

  both : (rs ss : List Run) (xs ys : List SentFrame) → rests_of (gap_ticks c) rs ≡ map turn_of xs → rests_of (gap_ticks c) ss ≡ map turn_of ys
      → rests_of (gap_ticks c) (rs ++ ss) ≡ map turn_of (xs ++ ys)
  both rs ss xs ys h k = rests-append (gap_ticks c) rs ss ∙ ap₂ (λ (a b : List Turn). a ++ b) h k ∙ sym (map-append turn_of xs ys)

  endpoint_is : (ep : ℕ) (e : EndpointConfig) → rests_of (gap_ticks c) (endpoint_runs c ps ep e) ≡ map turn_of (endpoint_frames c ps ep e)
  endpoint_is ep e =
      both (stream_runs c ps DownCommands ep e) (stream_runs c ps UpCommands ep e ++ stream_runs c ps DownData ep e) (stream_frames c ps DownCommands ep e)
      (stream_frames c ps UpCommands ep e ++ stream_frames c ps DownData ep e) (stream_is DownCommands ep e)
      (both (stream_runs c ps UpCommands ep e) (stream_runs c ps DownData ep e) (stream_frames c ps UpCommands ep e) (stream_frames c ps DownData ep e) (stream_is UpCommands ep e) (stream_is DownData ep e))

  pub runs_are : (ep : ℕ) (es : List EndpointConfig) → rests_of (gap_ticks c) (runs_from c ps ep es) ≡ map turn_of (frames_from c ps ep es)
  unfolding runs_from frames_from
  runs_are ep [] = refl
  runs_are ep (e ∷ es) = both (endpoint_runs c ps ep e) (runs_from c ps (ep + 1) es) (endpoint_frames c ps ep e) (frames_from c ps (ep + 1) es) (endpoint_is ep e) (runs_are (ep + 1) es)
