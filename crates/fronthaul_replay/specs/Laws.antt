-- What holds of the events of every document, whatever lands (this project's profile).
use Rattle.std.specs.Prelude.{◌≡◌, ℕ, ℤ, ◌≤ℤ◌, ◌∷◌, ◌++◌, List, All, map}
use Rattle.air_source.specs.declared.events.Event.{Event}
use Rattle.air_source.specs.declared.events.Side.{Side}
use Rattle.document_traffic.specs.Undisturbed.{IsTakenInOnce, IsUndisturbed, IsUndisturbedBothWays, RadiatesOnce}
use Rattle.fh_document.specs.declared.document.Document.{Document}
use Rattle.document_traffic.specs.Delays.{DelayIs, InjectsNone, IsOfRequest, IsTimeOfWay}
use Rattle.document_traffic.specs.Exchanged.{TellsExchanges}
use Rattle.document_traffic.specs.Replayed.{traffic_of}
use Rattle.unit_model.specs.Events.{arrival_event, result_event}
use Rattle.replay_laws.specs.Moments.{all_arrivals, end_of_time}
use Rattle.replay_laws.specs.Traffic.{landings_at}
use Rattle.replay_laws.specs.Delays.{FollowsFrame, IsLanding, IsResult, StandTogether, given_by}
use Rattle.replay_laws.specs.Gathered.{IsShownGathered}
use Rattle.replay_laws.specs.Landed.{AllLand}
use Rattle.replay_laws.specs.Once.{IsOnce}
use Rattle.replay_laws.specs.Refused.{RefusedChangesNothing}
use Rattle.replay_laws.specs.Shown.{IsShownInTime}
use Rattle.replay_laws.specs.Silent.{SilentChangesNothing}
use Rattle.replay_laws.specs.Sums.{AddsUp}
use Rattle.unit_model.specs.Meetings.{Arrival}
use Rattle.unit_model.specs.Radiated.{first_clock}
use Rattle.fronthaul_replay.specs.Replaying.{events_of}

-- each delay is a result of the frames that land at its unit at its time, and is after the frame that gave it, with that frame's
-- results before it between; and each frame that lands is followed by all its results
pub record TellsResults (d : Document) : Type 0 where
  pub results : All (IsResult (traffic_of d)) (events_of d)
  pub behind : (before : List Event) (x : Event) (after : List Event) → events_of d ≡ before ++ x ∷ after → FollowsFrame (traffic_of d) before x
  pub all : (side : Side) (tick : ℤ) (place : ℕ) (frame : Arrival) → first_clock ≤ℤ tick → tick ≤ℤ end_of_time → IsLanding side (traffic_of d) tick place frame
      → StandTogether (arrival_event side frame ∷ map (result_event side tick) (given_by side (traffic_of d) tick place)) (events_of d)

-- at each unit: no cell is reported twice; the samples of a cell were received in the symbol's window, and each of its elements was named
-- by a command on time that was accepted under the cell's section id, or is planned under it; each decoded section has one counted verdict
-- and each cell one count; the frames that arrive are those that are listed, each as often as it is listed; where nothing disturbs the
-- plan, each planned element radiates or is taken in exactly once, and each generation holds fragments of one message only; a message that
-- is refused on receipt, a fragment that is not stored and a section that is refused change nothing but counters; nor does a message of
-- data that is complete and says nothing, but that its fragments keep their places; each fragment of the message that gave a shown cell its
-- samples was received within the cell's window; the delays are told after the frames that give them; the delays and the counters of delay
-- measurement are those of what both units are told of it and send; and where no injected frame has a message of delay measurement, each
-- delay is that of the one request of its id and of a copy of its frame, and exactly the copy's time on its way where the two compensations
-- that enter it are whole nanoseconds
pub record IsSound (d : Document) : Type 0 where
  pub once : IsOnce d.config (traffic_of d)
  pub in_time : (side : Side) → IsShownInTime side d.config (traffic_of d)
  pub sums : AddsUp d.config (traffic_of d)
  pub arrive : (side : Side) → AllLand (landings_at side (traffic_of d))
  pub exactly_once : IsUndisturbed d → RadiatesOnce d (traffic_of d)
  pub taken_in_once : IsUndisturbedBothWays d → IsTakenInOnce d (traffic_of d)
  pub refused : (side : Side) → RefusedChangesNothing side d.config (all_arrivals (landings_at side (traffic_of d)))
  pub silent : (side : Side) → SilentChangesNothing side d.config (all_arrivals (landings_at side (traffic_of d)))
  pub gathered : (side : Side) → IsShownGathered side d.config (traffic_of d)
  pub results : TellsResults d
  pub exchanges : TellsExchanges d
  pub delays : InjectsNone d → All (DelayIs (IsOfRequest d)) (events_of d)
  pub exact_delays : InjectsNone d → All (DelayIs (IsTimeOfWay d)) (events_of d)
