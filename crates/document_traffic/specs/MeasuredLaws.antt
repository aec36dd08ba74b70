-- What holds of what lands with the frames of delay measurement.
use Rattle.std.specs.Prelude.{◌≡◌, ℤ, ◌<◌, ◌^◌, Bool, true, false, List, [], ◌++◌, All, filter}
use Rattle.std.specs.List.{flat_map}
use Rattle.air_source.specs.declared.events.Side.{Side}
use Rattle.air_source.specs.declared.events.Side.TheVariants.{Ru}
use Rattle.bfp_codec.specs.Exponent.{Within}
use Rattle.delay_measure.specs.declared.message.DelayMessage.{DelayMessage}
use Rattle.document_traffic.specs.Landing.{all_delayed, jobs_for, planned_traffic}
use Rattle.document_traffic.specs.Laws.{IsReplayable}
use Rattle.document_traffic.specs.Sending.{Delayed}
use Rattle.delay_laws.specs.Ticks.{Flight, landing}
use Rattle.fh_document.specs.declared.document.Document.{Document}
use Rattle.replay_laws.specs.Moments.{all_arrivals, landing_at}
use Rattle.replay_laws.specs.Passing.{AreLandings}
use Rattle.replay_laws.specs.Traffic.{landings_at, reported_at}
use Rattle.unit_model.specs.Meetings.{Arrival, fragments}
use Rattle.unit_model.specs.Reports.{accepted_of, commands_of, data_of, met, timely_of}
use Rattle.unit_model.specs.declared.allocations.Allocation.{Allocation}
use Rattle.uplink_laws.specs.Premise.{jobs_of}
use Rattle.window_config.specs.declared.config.Config.{Config}
use Rattle.document_traffic.specs.Measured.{delay_messages, exchanges, has_only_delays, others_of}
use Rattle.document_traffic.specs.Replayed.{landings_for}

-- ---- frames

-- a message whose numbers are in their fields' widths
pub record IsDelayMessage (m : DelayMessage) : Type 0 where
  pub id : m.id < 2 ^ 8
  pub action : m.action < 2 ^ 8
  pub seconds : m.seconds < 2 ^ 48
  pub nanoseconds : m.nanoseconds < 2 ^ 32
  pub comp : Within 64 m.comp

-- ---- what arrivals leave a unit

-- but for what they count, these arrivals leave a unit what those leave it: what it decodes, the fragments of data, what a radio unit
-- accepts of it, what was received in time, and what is reported
pub record LeaveTheSame (side : Side) (c : Config) (these those : List Arrival) : Type 0 where
  pub commands : commands_of side c these ≡ commands_of side c those
  pub sections : data_of side c these ≡ data_of side c those
  pub fragments : fragments (met side c these) ≡ fragments (met side c those)
  pub accepted : accepted_of c these ≡ accepted_of c those
  pub timely : timely_of side c these ≡ timely_of side c those
  pub reported : (planned : List Allocation) (to : ℤ) → reported_at side c planned these to ≡ reported_at side c planned those to

-- so it is where frames are left out that have no whole message but of delay measurement
abbrev pub OnlyDelaysRest : Type 0
OnlyDelaysRest =
    (side : Side) (c : Config) (stays : Arrival → Bool) (arrivals : List Arrival) → ((a : Arrival) → stays a ≡ false → has_only_delays a.frame ≡ true)
    → LeaveTheSame side c (filter stays arrivals) arrivals

-- ---- documents

-- so delay measurement changes nothing of what either unit decodes and reports
abbrev pub MeasurementRests : Type 0
MeasurementRests =
    (d : Document) (side : Side)
    → LeaveTheSame side d.config (all_arrivals (landings_for side d)) (all_arrivals (landings_at side (planned_traffic d)))

-- nor of the uplink messages that the radio unit owes
abbrev pub MessagesAreOwed : Type 0
MessagesAreOwed = (d : Document) → jobs_of d.config (all_arrivals (landings_for Ru d)) ≡ jobs_for d

-- the frames of the classes c and u to a unit have no message of delay measurement, and those of class m are read as their messages
pub record AreDistinct (side : Side) (d : Document) : Type 0 where
  pub others_have_none : All (λ (x : Delayed). delay_messages x.frame.frame ≡ []) (all_delayed side d)
  pub fit : All (λ (f : Flight). IsDelayMessage f.message) ((exchanges d).sent side)

-- so they are in each document that may be replayed, whatever it injects
abbrev pub DocumentsAreDistinct : Type 0
DocumentsAreDistinct = (d : Document) (side : Side) → IsReplayable d → AreDistinct side d

-- then what is received of delay measurement at each tick is, in order, what both units were said to be told then
abbrev pub MessagesLand : Type 0
MessagesLand =
    (d : Document) (side : Side) (t : ℤ) → AreDistinct side d
    → flat_map (λ a. delay_messages a.frame) (landing_at (landings_for side d) t) ≡ landing ((exchanges d).sent side) t ++ others_of d side t

-- where nothing is measured and no injected frame has a message of delay measurement, the same lands in the same order
abbrev pub UnmeasuredLandsTheSame : Type 0
UnmeasuredLandsTheSame =
    (d : Document) (side : Side) → d.measures ≡ [] → All (λ i. delay_messages i.frame ≡ []) d.injections
    → landings_for side d ≡ landings_at side (planned_traffic d)

-- all that lands at a unit has its time between the first clock and 1,099 s
abbrev pub LandingsAreReplayed : Type 0
LandingsAreReplayed = (d : Document) (side : Side) → IsReplayable d → AreLandings (landings_for side d)
