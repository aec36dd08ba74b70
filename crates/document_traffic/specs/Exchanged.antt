-- The delays that a document's replay tells, and what it counts of delay measurement, by what both units were told of it and sent
-- (`exchanges`): nothing that a unit does is named.
use Rattle.std.specs.Prelude.{◌≡◌, ℕ, nat_lt, Bool, true, false, ◌&&◌, if◌then◌else◌, List, [], ◌∷◌, ◌++◌, filter, length, map}
use Rattle.std.specs.List.{flat_map}
use Rattle.document_traffic.specs.Settings.{setting_of}
use Rattle.air_source.specs.Units.{same_side}
use Rattle.air_source.specs.declared.events.Event.{Event}
use Rattle.air_source.specs.declared.events.Event.TheVariants.{Cell, Delay, Arrival as ArrivalTold, Count}
use Rattle.air_source.specs.declared.events.Side.{Side}
use Rattle.delay_laws.specs.Known.{known}
use Rattle.delay_laws.specs.Nodes.{Heard}
use Rattle.delay_laws.specs.Ticks.{Setting, exchange_of}
use Rattle.delay_measure.specs.After.{id_of}
use Rattle.fh_document.specs.declared.document.Document.{Document}
use Rattle.document_traffic.specs.Laws.{IsReplayable}
use Rattle.ecpri_frames.specs.Gathering.{whole_messages}
use Rattle.ecpri_frames.specs.Messages.{Message, is_delay}
use Rattle.fault_counters.specs.Counts.{capped, times}
use Rattle.fault_counters.specs.declared.kinds.Counter.{Counter}
use Rattle.fault_counters.specs.declared.kinds.Counter.TheVariants.{DelayShort}
use Rattle.replay_laws.specs.Events.{events, is_measured, number_of}
use Rattle.replay_laws.specs.Moments.{all_arrivals}
use Rattle.document_traffic.specs.Doings.{counted_then}
use Rattle.document_traffic.specs.Measured.{exchanges, others_of}
use Rattle.document_traffic.specs.Replayed.{landings_for, traffic_of}

-- ---- delays

abbrev pub is_delay_event : Event → Bool
is_delay_event (Cell cell) = false
is_delay_event (Delay at side id delay) = true
is_delay_event (ArrivalTold side at frame) = false
is_delay_event (Count side counter value) = false

-- all delays that became known to either unit, in the order in which both were told what made them known
abbrev pub delays_known : Document → List Event
delays_known d = known (setting_of d (others_of d)) (exchanges d).heard

-- ---- counters

-- what a unit counts of all that both were told, the newest first
abbrev pub counted_of : Setting → Side → List Heard → List Counter
counted_of w side [] = []
counted_of w side (one ∷ earlier) =
    (if same_side side one.side then counted_then (w.comps side) (exchange_of w earlier side (id_of one.told)) one.told else []) ++ counted_of w side earlier

-- a message of type 5 that is too short for one of delay measurement: nobody is told anything by it
abbrev pub is_short : Message → Bool
is_short m = is_delay m && nat_lt (length m.payload) 20

abbrev pub short_counted : Message → Counter
short_counted m = DelayShort

abbrev pub shorts_of : List ℕ → List Counter
shorts_of frame = map short_counted (filter is_short (whole_messages frame))

-- what is counted at a unit: of all that both were told, and of the messages that are too short in the frames that arrive
abbrev pub delays_counted : Document → Side → List Counter
delays_counted d side = counted_of (setting_of d (others_of d)) side (exchanges d).heard ++ flat_map (λ a. shorts_of a.frame) (all_arrivals (landings_for side d))

-- ---- the law

-- the events of delays are those that became known, in their order, and the counters of delay measurement have counted this, up to the
-- greatest u64
pub record TellsExchanges (d : Document) : Type 0 where
  pub delays : filter is_delay_event (events d.config (traffic_of d)) ≡ delays_known d
  pub counts : (side : Side) (k : Counter) → is_measured k ≡ true → number_of side d.config (traffic_of d) k ≡ capped (times (delays_counted d side) k)

abbrev pub DelaysAreTold : Type 0
DelaysAreTold = (d : Document) → IsReplayable d → TellsExchanges d
