-- Each uplink message becomes whole once at the distributed unit, within Ta4, over any number of messages. Times are ticks.
use Rattle.std.specs.Prelude.{ℕ, ℤ, ◌+ℤ◌, ◌≤ℤ◌, ◌<◌, List}
use Rattle.air_source.specs.declared.events.Side.TheVariants.{Du}
use Rattle.ecpri_fragments.specs.Generations.{Fragment}
use Rattle.fragment_laws.specs.Apart.{AreApart, of_message}
use Rattle.fragment_laws.specs.Flow.{Flow, numbers_of, sent_at}
use Rattle.fragment_laws.specs.Once.{Answered, AreTheSent, IsOnceWhole, answers}
use Rattle.window_config.specs.Classes.{IsOnTimeUp}
use Rattle.window_config.specs.Windows.{ticks_of_ns}
use Rattle.window_config.specs.declared.config.Config.{Config}
use Rattle.window_config.specs.declared.plan.PlanLine.{PlanLine}
use Rattle.unit_model.specs.Meetings.{Arrival, fragments}
use Rattle.unit_model.specs.Reports.{met}
use Rattle.plan_model.specs.Lines.{planned}
use Rattle.plan_model.specs.declared.lines.PlannedLine.{PlannedLine}
use Rattle.sent_frames.specs.Messages.{Source}
use Rattle.uplink_model.specs.Frames.{Antenna}
use Rattle.uplink_laws.specs.Flows.{uplink_bounds_of, uplink_flow_of, flow_start_at}
use Rattle.uplink_laws.specs.Premise.{BothArrive}

-- A message whose symbol starts then becomes complete once, with all its pieces: the first is received no sooner than the minima of Ta3
-- and T34 after the start, the last no later than their maxima; so both lie in Ta4, and the last is received while the generation of the
-- first holds.
pub record IsTakenOnce (c : Config) (f : Flow) (j : ℕ) (start : ℤ) (came : List Fragment) (all : List Answered) : Type 0 where
  pub once : IsOnceWhole (uplink_bounds_of c) f j came all
  pub soon : (start +ℤ ticks_of_ns (c.delays.ta3.min +ℤ c.delays.t34.min)) ≤ℤ once.whole.shows.first
  pub late : once.whole.shows.last ≤ℤ (start +ℤ ticks_of_ns (c.delays.ta3.max +ℤ c.delays.t34.max))
  pub in_window : IsOnTimeUp once.whole.shows.first once.whole.shows.last start c.delays.ta4
  pub held : once.whole.shows.last ≤ℤ (once.whole.shows.first +ℤ ticks_of_ns c.delays.hold_ul)

-- Of what was received at the distributed unit: messages with one sequence id are apart; what becomes complete was sent, and of each
-- message that was sent there is one; and each message is taken in once.
pub record AreTakenOnce (c : Config) (antenna : Antenna) (ps : List PlannedLine) (up : List Arrival) : Type 0 where
  pub apart : AreApart (uplink_bounds_of c).hold (uplink_bounds_of c).fast (uplink_bounds_of c).slow (λ ep j. sent_at (uplink_flow_of c antenna ps ep) j 0)
      (numbers_of (uplink_bounds_of c) (uplink_flow_of c antenna ps)) (fragments (met Du c up))
  pub wholes : AreTheSent (uplink_bounds_of c) (uplink_flow_of c antenna ps) (fragments (met Du c up))
  pub each : (ep j : ℕ) → j < (uplink_flow_of c antenna ps ep).count
      → IsTakenOnce c (uplink_flow_of c antenna ps ep) j (flow_start_at c ps ep j) (of_message (numbers_of (uplink_bounds_of c) (uplink_flow_of c antenna ps)) ep j (fragments (met Du c up)))
      (answers (uplink_bounds_of c).hold (numbers_of (uplink_bounds_of c) (uplink_flow_of c antenna ps)) ep j (fragments (met Du c up)))

abbrev pub EachIsTakenOnce : Type 0
EachIsTakenOnce =
    (c : Config) (lines : List PlanLine) (source : Source) (antenna : Antenna) (down up : List Arrival) → BothArrive c lines source antenna down up
    → AreTakenOnce c antenna (planned c.endpoints lines) up
