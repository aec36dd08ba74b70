-- Each uplink message becomes whole once, within Ta4.
use Rattle.std.proofs.Common.{◌≡◌, ℕ, ℤ, pos, ◌+◌, ◌*◌, ◌<◌, ◌≤◌, ◌+ℤ◌, ◌*ℤ◌, ◌-ℤ◌, ◌≤ℤ◌, min, List, arith}
use Rattle.std.proofs.lemmas.Int.{ints}
use Rattle.air_source.specs.declared.events.Side.TheVariants.{Du}
use Rattle.ecpri_fragments.specs.Generations.{Fragment}
use Rattle.fragment_laws.specs.Apart.{Numbers, of_message}
use Rattle.fragment_laws.specs.Flow.{numbers_of, sent_at as flow_sent_at}
use Rattle.fragment_laws.specs.Once.{IsOnceWhole, answers}
use Rattle.fragment_laws.proofs.CompletedLemmas.{are_the_sent}
use Rattle.fragment_laws.proofs.FlowLemmas.{delivered_apart}
use Rattle.fragment_laws.proofs.OnceLemmas.{once_whole}
use Rattle.window_config.specs.Classes.{IsOnTimeUp}
use Rattle.window_config.specs.Windows.{ticks_of_ns}
use Rattle.window_config.specs.declared.config.Config.{Config}
use Rattle.window_config.specs.declared.plan.PlanLine.{PlanLine}
use Rattle.unit_model.specs.Meetings.{Arrival, fragments, meetings}
use Rattle.plan_model.specs.Lines.{planned}
use Rattle.plan_model.specs.declared.lines.PlannedLine.{PlannedLine}
use Rattle.sent_frames.specs.Messages.{Source}
use Rattle.plan_model.proofs.TimeLemmas.{wait_most, last_one}
use Rattle.uplink_model.specs.Frames.{Antenna}
use Rattle.uplink_laws.specs.Flows.{uplink_bounds_of, uplink_flow_of, flow_start_at}
use Rattle.uplink_laws.specs.Premise.{BothArrive}
use Rattle.uplink_laws.specs.Whole.{AreTakenOnce, EachIsTakenOnce}
use Rattle.uplink_laws.proofs.ArrivalLemmas.{delivered, sounds}
use Rattle.window_config.proofs.TickLemmas.{in_ticks}
use Rattle.fh_base.specs.declared.nanoseconds.TheConstants.{NANOSECOND}
use Rattle.fh_base.proofs.EachLemmas.{gap_is}

-- ---- times

-- a frame that left from Ta3's minimum on is received no sooner than T34's minimum later
comes_from : (s least fast first : ℤ) (wait : ℕ) → (((s +ℤ least *ℤ pos NANOSECOND) +ℤ pos wait) +ℤ fast *ℤ pos NANOSECOND) ≤ℤ first → (s +ℤ (least +ℤ fast) *ℤ pos NANOSECOND) ≤ℤ first
comes_from s least fast first wait h = omega (arith, ints, h)

-- and one that left by its maximum no later than T34's maximum later
comes_to : (s least most slow last : ℤ) (wait spread : ℕ) → least *ℤ pos NANOSECOND +ℤ pos spread ≡ most *ℤ pos NANOSECOND → wait ≤ spread
    → last ≤ℤ (((s +ℤ least *ℤ pos NANOSECOND) +ℤ pos wait) +ℤ slow *ℤ pos NANOSECOND) → last ≤ℤ (s +ℤ (most +ℤ slow) *ℤ pos NANOSECOND)
comes_to s least most slow last wait spread e w h = omega (arith, ints, e, w, h)

not_late : (s sum most last : ℤ) → last ≤ℤ (s +ℤ sum *ℤ pos NANOSECOND) → sum ≤ℤ most → (last -ℤ s) ≤ℤ (most *ℤ pos NANOSECOND)
not_late s sum most last h k = omega (arith, ints, h, k)

not_early : (s sum least first : ℤ) → (s +ℤ sum *ℤ pos NANOSECOND) ≤ℤ first → least ≤ℤ sum → (least *ℤ pos NANOSECOND) ≤ℤ (first -ℤ s)
not_early s sum least first h k = omega (arith, ints, h, k)

still_held : (s least most fast slow hold first last : ℤ) → (s +ℤ (least +ℤ fast) *ℤ pos NANOSECOND) ≤ℤ first → last ≤ℤ (s +ℤ (most +ℤ slow) *ℤ pos NANOSECOND)
    → ((most -ℤ least) +ℤ (slow -ℤ fast)) ≤ℤ hold → last ≤ℤ (first +ℤ hold *ℤ pos NANOSECOND)
still_held s least most fast slow hold first last f l h = omega (arith, ints, f, l, h)

after_start : (s least fast last : ℤ) → pos 0 ≤ℤ least → pos 0 ≤ℤ fast → (s +ℤ (least +ℤ fast) *ℤ pos NANOSECOND) ≤ℤ last → s ≤ℤ last
after_start s least fast last a b h = omega (arith, ints, a, b, h)

-- ---- of the messages of a plan

module _ (c : Config) (lines : List PlanLine) (source : Source) (antenna : Antenna) (down up : List Arrival) (h : BothArrive c lines source antenna down up) where
  abbrev ps : List PlannedLine
  ps = planned c.endpoints lines

  abbrev num : Numbers
  num = numbers_of (uplink_bounds_of c) (uplink_flow_of c antenna ps)

  abbrev all : List Fragment
  all = fragments (meetings Du c.endpoints up)

  pub whole_once : (ep j : ℕ) → j < (uplink_flow_of c antenna (planned c.endpoints lines) ep).count
      → IsOnceWhole (uplink_bounds_of c) (uplink_flow_of c antenna (planned c.endpoints lines) ep) j
      (of_message (numbers_of (uplink_bounds_of c) (uplink_flow_of c antenna (planned c.endpoints lines))) ep j (fragments (meetings Du c.endpoints up)))
      (answers (uplink_bounds_of c).hold (numbers_of (uplink_bounds_of c) (uplink_flow_of c antenna (planned c.endpoints lines))) ep j (fragments (meetings Du c.endpoints up)))
  whole_once ep j below = once_whole (uplink_bounds_of c) (uplink_flow_of c antenna ps) (sounds c lines source antenna down up h) all (delivered c lines source antenna down up h) ep j below

  -- when a message's pieces were received
  pub record InTime (start first last : ℤ) : Type 0 where
    pub soon : (start +ℤ ticks_of_ns (c.delays.ta3.min +ℤ c.delays.t34.min)) ≤ℤ first
    pub late : last ≤ℤ (start +ℤ ticks_of_ns (c.delays.ta3.max +ℤ c.delays.t34.max))
    pub in_window : IsOnTimeUp first last start c.delays.ta4
    pub held : last ≤ℤ (first +ℤ ticks_of_ns c.delays.hold_ul)
    pub begun : start ≤ℤ last

  pub in_time : (ep j : ℕ) (first last : ℤ) → j < (uplink_flow_of c antenna (planned c.endpoints lines) ep).count
      → (flow_sent_at (uplink_flow_of c antenna (planned c.endpoints lines) ep) j 0 +ℤ (uplink_bounds_of c).fast) ≤ℤ first
      → ((k : ℕ) → k + 1 ≡ (uplink_flow_of c antenna (planned c.endpoints lines) ep).pieces j → (flow_sent_at (uplink_flow_of c antenna (planned c.endpoints lines) ep) j k +ℤ (uplink_bounds_of c).fast) ≤ℤ last)
      → ((k : ℕ) → k + 1 ≡ (uplink_flow_of c antenna (planned c.endpoints lines) ep).pieces j → last ≤ℤ (flow_sent_at (uplink_flow_of c antenna (planned c.endpoints lines) ep) j k +ℤ (uplink_bounds_of c).slow))
      → InTime (flow_start_at c (planned c.endpoints lines) ep j) first last
  in_time ep j first last below from last_from to =
      let f = uplink_flow_of c antenna ps ep in
      let d = c.delays in
      let start = flow_start_at c ps ep j in
      let k = last_one (f.pieces j) ((sounds c lines source antenna down up h ep).some j below) in
      let check = h.check in
      let order = h.sendable.config.delays.ta3.order in
      let soon = comes_from start d.ta3.min d.t34.min first (min ((f.before j + 0) * f.gap) f.spread) from in
      let late = comes_to start d.ta3.min d.ta3.max d.t34.max last (min ((f.before j + k.0) * f.gap) f.spread) f.spread
      (gap_is (ticks_of_ns d.ta3.min) (ticks_of_ns d.ta3.max) (in_ticks d.ta3.min d.ta3.max order)) (wait_most (f.before j + k.0) f.gap f.spread) (to k.0 k.1) in
      record {
        soon = soon;
        late = late;
        in_window = record {
          soon_enough = not_late start (d.ta3.max +ℤ d.t34.max) d.ta4.max last late check.ta4_max;
          late_enough = not_early start (d.ta3.min +ℤ d.t34.min) d.ta4.min first soon check.ta4_min;
        };
        held = still_held start d.ta3.min d.ta3.max d.t34.min d.t34.max d.hold_ul first last soon late check.hold_ul;
        begun = after_start start d.ta3.min d.t34.min last h.sendable.config.delays.ta3.low h.sendable.config.delays.t34.low
            (comes_from start d.ta3.min d.t34.min last (min ((f.before j + k.0) * f.gap) f.spread) (last_from k.0 k.1));
      }

  pub taken_once : AreTakenOnce c antenna (planned c.endpoints lines) up
  taken_once = record {
    apart = delivered_apart (uplink_bounds_of c) (uplink_flow_of c antenna ps) (sounds c lines source antenna down up h) all (delivered c lines source antenna down up h);
    wholes = are_the_sent (uplink_bounds_of c) (uplink_flow_of c antenna ps) (sounds c lines source antenna down up h) all (delivered c lines source antenna down up h);
    each = λ ep j below.
        (let w = whole_once ep j below in
        let t = in_time ep j w.whole.shows.first w.whole.shows.last below w.first_from w.last_from w.last_to in
        record { once = w; soon = t.soon; late = t.late; in_window = t.in_window; held = t.held });
  }

pub each_is_taken_once : EachIsTakenOnce
each_is_taken_once = taken_once
