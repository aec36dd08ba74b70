-- All that is sent to each unit in a document's replay, with the frames of delay measurement, what lands, and what both units measure
-- (this project's profile). Times are ticks.
use Rattle.std.specs.Prelude.{ℕ, zero, suc, ℤ, pos, ◌+ℤ◌, List, [], ◌++◌, filter, map}
use Rattle.std.specs.Int.{int_gap}
use Rattle.std.specs.Ordering.{int_eq}
use Rattle.air_source.specs.declared.events.Side.{Side}
use Rattle.air_source.specs.declared.events.Side.TheVariants.{Ru, Du}
use Rattle.delay_laws.specs.Ticks.{Begin, Flight, due}
use Rattle.document_traffic.specs.Settings.{begin_of, compensation_of}
use Rattle.document_traffic.specs.Landing.{landing_with, leaving_to}
use Rattle.document_traffic.specs.Sending.{Leaving, lines_of}
use Rattle.fh_document.specs.declared.delivered.TrafficClass.TheVariants.{M}
use Rattle.fh_document.specs.declared.document.Document.{Document}
use Rattle.replay_laws.specs.Moments.{end_of_time, landing_at}
use Rattle.replay_laws.specs.Traffic.{Traffic}
use Rattle.unit_model.specs.declared.results.DelayResult.{DelayResult}
use Rattle.fh_base.specs.Lists.{each_tick}
use Rattle.unit_model.specs.Meetings.{Arrival}
use Rattle.unit_model.specs.Radiated.{first_clock}
use Rattle.document_traffic.specs.Doings.{Doings, nothing, results_of, taken, with_begins, with_frames}
use Rattle.document_traffic.specs.Measured.{delay_frame, exchanges, flights_then}
use Rattle.plan_model.specs.Lines.{uplink_allocations}
use Rattle.air_source.specs.Units.{same_side}

-- ---- what leaves

-- a frame of delay measurement as it leaves
abbrev pub leaving_made : ℤ → List ℕ → Leaving
leaving_made at frame = record { at = at; class = M; frame = frame }

abbrev pub leaving_flight : Flight → Leaving
leaving_flight f = leaving_made f.at (delay_frame f.message)

-- what leaves at a tick: of these frames, and after them of those of delay measurement
abbrev pub leaving_then : List Leaving → List Flight → ℤ → List Leaving
leaving_then ls fs t = filter (λ f. int_eq f.at t) ls ++ map leaving_flight (flights_then fs t)

-- what leaves from a tick on, in the sent order
unfoldable pub leaving_from : List Leaving → List Flight → ℤ → List Leaving
leaving_from ls fs now = each_tick now (int_gap now (end_of_time +ℤ pos 1)) (leaving_then ls fs)

-- of the classes c and u these leave for a unit, and of class m all that both units make
abbrev pub leaving_with : Side → Document → List Leaving → ℤ → List Leaving
leaving_with side d ls now = leaving_from ls ((exchanges d).sent side) now

abbrev pub all_leaving : Side → Document → List Leaving
all_leaving side d = leaving_with side d (leaving_to side d) first_clock

-- ---- what lands

abbrev pub landings_for : Side → Document → List Arrival
landings_for side d = landing_with d side (all_leaving side d)

-- ---- what both units measure

-- the measurements that begin at a unit at a tick, in the order of the document
abbrev pub begins_at : Document → Side → ℤ → List Begin
begins_at d side t = filter (λ b. same_side side b.side) (due t (map begin_of d.measures))

-- what a unit has of it once they have begun, and once these frames were received too
abbrev pub begun : Document → Side → ℤ → Doings → Doings
begun d side t x = with_begins (compensation_of d side) x (begins_at d side t)

abbrev pub told_frames : Document → Side → ℤ → Doings → List Arrival → Doings
told_frames d side t x arrivals = with_frames (compensation_of d side) t (begun d side t x) arrivals

-- at the end of a tick, when the frames that it made are sent
unfoldable pub after_tick : Document → Side → ℤ → Doings → Doings
after_tick d side t x = taken [] (told_frames d side t x (landing_at (landings_for side d) t))

-- after so many ticks from the first clock on
unfoldable pub doings_in : Document → Side → ℕ → Doings
doings_in d side zero = nothing
doings_in d side (suc n) = after_tick d side (first_clock +ℤ pos n) (doings_in d side n)

-- at the start of a tick
abbrev pub doings_at : Document → Side → ℤ → Doings
doings_at d side t = doings_in d side (int_gap first_clock t)

-- when all that lands at a tick has been received, with the frames that it made in the tick
abbrev pub made_at : Document → Side → ℤ → Doings
made_at d side t = told_frames d side t (doings_at d side t) (landing_at (landings_for side d) t)

-- the results of the frames that land at a unit at a tick, frame by frame
abbrev pub results_at : Document → Side → ℤ → List (List DelayResult)
results_at d side t = results_of (compensation_of d side) t (begun d side t (doings_at d side t)) (landing_at (landings_for side d) t)

-- ---- both units

abbrev pub traffic_of : Document → Traffic
traffic_of d = record {
  at_ru = landings_for Ru d;
  planned = uplink_allocations (lines_of d);
  at_du = landings_for Du d;
  results = results_at d;
  counted = λ side. (doings_at d side (end_of_time +ℤ pos 1)).counted;
}
