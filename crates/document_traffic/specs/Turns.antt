-- What a loop that goes over a document's replay tick by tick rests on, with delay measurement.
use Rattle.std.specs.Prelude.{◌≡◌, ℤ, pos, ◌+ℤ◌, ◌≤ℤ◌, ◌<ℤ◌, ◌<◌, ◌^◌, List, [], ◌∷◌, ◌++◌, All, length, map}
use Rattle.air_source.specs.declared.events.Side.{Side}
use Rattle.air_source.specs.declared.events.Side.TheVariants.{Ru}
use Rattle.delay_laws.specs.Ticks.{Flight}
use Rattle.document_traffic.specs.Laws.{IsReplayable}
use Rattle.document_traffic.specs.Landing.{antenna_for, copies_in, leaving_answer, leaving_up}
use Rattle.document_traffic.specs.Sending.{Leaving, SentCounts, delayed}
use Rattle.fh_document.specs.declared.delivered.TrafficClass.TheVariants.{M}
use Rattle.fh_document.specs.declared.document.Document.{Document}
use Rattle.replay_laws.specs.Moments.{end_of_time}
use Rattle.replay_laws.specs.Passing.{IsCalm}
use Rattle.unit_model.specs.Radiated.{first_clock}
use Rattle.uplink_laws.specs.Turns.{left_from}
use Rattle.document_traffic.specs.Measured.{exchanges, flights_then}
use Rattle.document_traffic.specs.Replayed.{all_leaving, begins_at, landings_for, leaving_flight, leaving_from}

-- ---- what leaves

-- the first frame of a tick leaves
abbrev pub FirstLeaves : Type 0
FirstLeaves = (fs : List Flight) (now : ℤ) (f : Leaving) (ls : List Leaving) → f.at ≡ now → now ≤ℤ end_of_time → leaving_from (f ∷ ls) fs now ≡ f ∷ leaving_from ls fs now

-- where no others leave at a tick, those of delay measurement do
abbrev pub MeasuredLeave : Type 0
MeasuredLeave =
    (fs : List Flight) (now : ℤ) (ls : List Leaving) → All (λ f. (now +ℤ pos 1) ≤ℤ f.at) ls → now ≤ℤ end_of_time
    → leaving_from ls fs now ≡ map leaving_flight (flights_then fs now) ++ leaving_from ls fs (now +ℤ pos 1)

-- where none leaves before a later tick, the same is left then
abbrev pub LeavingWaits : Type 0
LeavingWaits =
    (fs : List Flight) (now tick : ℤ) (ls : List Leaving) → All (λ f. tick ≤ℤ f.at) ls → now ≤ℤ tick → tick ≤ℤ (end_of_time +ℤ pos 1)
    → ((t : ℤ) → now ≤ℤ t → t <ℤ tick → flights_then fs t ≡ []) → leaving_from ls fs now ≡ leaving_from ls fs tick

-- all frames are shorter than 2 ^ 32 bytes, as an air takes them
abbrev pub AllAreShort : Type 0
AllAreShort = (d : Document) (side : Side) → IsReplayable d → All (λ (f : Leaving). length f.frame < 2 ^ 32) (all_leaving side d)

-- a copy of a frame of delay measurement lands after the tick at which it leaves
abbrev pub MeasuredLandLater : Type 0
MeasuredLandLater =
    (d : Document) (side : Side) (n : SentCounts) (f : Leaving) → IsReplayable d → f.class ≡ M
    → All (λ a. (f.at +ℤ pos 1) ≤ℤ a.at) (copies_in (delayed d side n f))

-- the radio unit's frames leave as they are handed over for all that lands at it
abbrev pub UplinkLeavesInTurn : Type 0
UplinkLeavesInTurn = (d : Document) → leaving_up d ≡ map leaving_answer (left_from d.config (antenna_for d) (landings_for Ru d) first_clock)

-- ---- what both units do

-- neither unit begins anything from one tick on and before another, and nothing lands
pub record IsQuietBetween (d : Document) (now tick : ℤ) : Type 0 where
  pub begins : (side : Side) (t : ℤ) → now ≤ℤ t → t <ℤ tick → begins_at d side t ≡ []
  pub calm : (side : Side) → IsCalm (landings_for side d) now tick

-- then none of the frames that a unit made leaves
abbrev pub FlightsWait : Type 0
FlightsWait =
    (d : Document) (side : Side) (now tick : ℤ) → IsReplayable d → first_clock ≤ℤ now → tick ≤ℤ (end_of_time +ℤ pos 1) → IsQuietBetween d now tick
    → (t : ℤ) → now ≤ℤ t → t <ℤ tick → flights_then ((exchanges d).sent side) t ≡ []
