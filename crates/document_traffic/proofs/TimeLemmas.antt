-- When the frames of the distributed unit leave, when copies land, and which landings may be replayed.
use Rattle.std.proofs.Common.{◌≡◌, ℕ, ℤ, pos, neg_ℤ, ◌+◌, ◌*◌, ◌≤◌, ◌+ℤ◌, ◌*ℤ◌, ◌≤ℤ◌, min, inl, List, refl, sym, subst, arith}
use Rattle.std.specs.Prelude.{All}
use Rattle.std.proofs.lemmas.Int.{ints}
use Rattle.plan_model.specs.Departures.{departures_of, sending_from, sending_window, sent_at, start_of_part, width_of}
use Rattle.plan_model.specs.Lines.{planned}
use Rattle.plan_model.specs.Packs.{Numbered}
use Rattle.plan_model.specs.Sent.{SentFrame, sent}
use Rattle.plan_model.specs.Streams.{Part, messages_of}
use Rattle.plan_model.specs.Valid.{IsValid}
use Rattle.plan_model.specs.declared.lines.PlannedLine.{PlannedLine}
use Rattle.plan_model.specs.declared.streams.Stream.{Stream}
use Rattle.plan_model.specs.declared.streams.Stream.TheVariants.{DownCommands, UpCommands, DownData, UpData}
use Rattle.replay_laws.specs.Passing.{AreLandings}
use Rattle.plan_model.proofs.SentLemmas.{IsSentStream, message_part, sent_is}
use Rattle.plan_model.proofs.TimeLemmas.{wait_most}
use Rattle.schedule_laws.proofs.SentTimeLemmas.{most_before, part_time}
use Rattle.unit_model.specs.Meetings.{Arrival}
use Rattle.unit_model.specs.Proper.{IsAt, IsTime}
use Rattle.unit_model.specs.Radiated.{first_clock}
use Rattle.unit_model.specs.Times.{last_landing}
use Rattle.window_config.specs.Configs.{IsConfig}
use Rattle.window_config.specs.Plans.{IsPlanLine}
use Rattle.window_config.specs.Windows.{ticks_of_ns}
use Rattle.window_config.specs.declared.config.Config.{Config}
use Rattle.window_config.specs.declared.delays.Delays.{Delays}
use Rattle.window_config.specs.declared.endpoints.EndpointConfig.{EndpointConfig}
use Rattle.window_config.specs.declared.plan.PlanLine.{PlanLine}
use Rattle.fh_base.specs.declared.frames.TheConstants.{FRAME}
use Rattle.fh_base.specs.declared.nanoseconds.TheConstants.{LAST_TIME, NANOSECOND}
use Rattle.fh_document.specs.declared.config_lines.TheConstants.{MOST_TRANSIT}
use Rattle.window_config.proofs.TickLemmas.{in_ticks}
use Rattle.fh_base.specs.Members.{IsIn}
use Rattle.fh_base.proofs.MemberLemmas.{all_of}
use Rattle.fh_base.proofs.EachLemmas.{gap_is}

-- ---- times of a replay

-- it is one from the first clock to a last time
pub record IsBy (last t : ℤ) : Type 0 where
  pub low : first_clock ≤ℤ t
  pub high : t ≤ℤ last

-- the distributed unit's frames leave no later than the last symbol of frame 99,999 starts
abbrev pub last_sent : ℤ
last_sent = pos 1536100000000000

-- a copy is at most three seconds on its way
abbrev pub longest : ℤ
longest = pos 4608000000000

-- ---- a frame of the distributed unit leaves

-- a window is from `least` to `most` before a symbol that starts at s
leaves_by : (s least most : ℤ) (wait width : ℕ) → FRAME ≤ℤ s → s ≤ℤ pos 1536100000000000 → most ≤ℤ pos 4000000 → pos 0 ≤ℤ least
    → ticks_of_ns least +ℤ pos width ≡ ticks_of_ns most → wait ≤ width → IsBy last_sent ((s +ℤ neg_ℤ (ticks_of_ns most)) +ℤ pos wait)
leaves_by s least most wait width low high few some is in_width = record { low = omega (arith, ints); high = omega (arith, ints) }

pub from_is : (d : Delays) (stream : Stream) → IsSentStream stream → sending_from d stream ≡ neg_ℤ (ticks_of_ns (sending_window d stream).max)
from_is d DownCommands s = refl
from_is d UpCommands s = refl
from_is d DownData s = refl
from_is d UpData s = absurd s

module _ (c : Config) (lines : List PlanLine) (config : IsConfig c) (fit : All IsPlanLine lines) (valid : IsValid c lines) where
  abbrev ps : List PlannedLine
  ps = planned c.endpoints lines

  message_leaves : (stream : Stream) → IsSentStream stream → (ep : ℕ) (e : EndpointConfig) → IsAt c.endpoints ep e → (n : Numbered Part) → IsIn n (messages_of c ps stream ep e)
      → (sub : ℕ) → IsBy last_sent (sent_at c stream n sub)
  message_leaves stream s ep e at n m sub =
      let x = n.message.first in
      let time = part_time c lines config fit valid stream s ep e at x (message_part c ps stream ep e n x m (inl refl)) in
      let window = sending_window c.delays stream in
      let most = most_before c lines config fit valid stream s in
      let d = departures_of c stream in
      let wait = min ((n.before + sub) * d.gap) d.spread in
      subst (λ (from : ℤ). IsBy last_sent ((start_of_part x +ℤ from) +ℤ pos wait)) (sym (from_is c.delays stream s))
      (leaves_by (start_of_part x) window.min window.max wait (width_of window) time.0 time.1 most.1 most.2
      (gap_is (ticks_of_ns window.min) (ticks_of_ns window.max) (in_ticks window.min window.max most.0)) (wait_most (n.before + sub) d.gap d.spread))

  pub frame_leaves : (f : SentFrame) → IsIn f (sent c (planned c.endpoints lines)) → IsBy last_sent f.at
  frame_leaves f m =
      let o = sent_is c ps f m in
      subst (λ (g : SentFrame). IsBy last_sent g.at) (sym o.is) (message_leaves f.stream o.is_sent f.ep f.endpoint o.at o.n o.there f.sub)

-- ---- what lands

-- a copy lands within three seconds
pub copy_lands : (last at ns : ℤ) (least : ℕ) → IsBy last at → pos least ≤ℤ ns → ns ≤ℤ pos MOST_TRANSIT → IsBy (last +ℤ longest) (at +ℤ ticks_of_ns ns)
copy_lands last at ns least leaves low high = record { low = omega (arith, ints); high = omega (arith, ints) }

-- an injected frame lands in the first 1,000 s
pub injected_lands : (last ns : ℤ) → pos 1536000000000000 ≤ℤ last → pos 0 ≤ℤ ns → ns ≤ℤ pos LAST_TIME → IsBy (last +ℤ longest) (ns *ℤ pos NANOSECOND)
injected_lands last ns late low high = record { low = omega (arith, ints); high = omega (arith, ints) }

-- such a time may be given to a unit
by_is_time : (last t : ℤ) → last ≤ℤ last_landing → IsBy last t → IsTime t
by_is_time last t order by = record { low = omega (arith, ints); high = omega (arith, ints) }

by_last : (last t : ℤ) → last ≤ℤ last_landing → IsBy last t → t ≤ℤ last_landing
by_last last t order by = omega (arith, ints)

-- frames that land by a last time may be replayed
pub replayed_by : (last : ℤ) (landings : List Arrival) → last ≤ℤ last_landing → ((a : Arrival) → IsIn a landings → IsBy last a.at) → AreLandings landings
replayed_by last landings order by = record {
  times = all_of (λ (a : Arrival). IsTime a.at) landings (λ a m. by_is_time last a.at order (by a m));
  begun = all_of (λ (a : Arrival). first_clock ≤ℤ a.at) landings (λ a m. (by a m).low);
  ended = all_of (λ (a : Arrival). a.at ≤ℤ last_landing) landings (λ a m. by_last last a.at order (by a m));
}
