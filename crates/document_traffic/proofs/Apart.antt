-- What lands at a unit, told with the frames of class m apart from those of the classes c and u: tick by tick of the sending time the
-- copies of what leaves then, in the sent order of the classes c and u, then of class m, and the injected frames after all of it.
use Rattle.std.specs.Prelude.{ℤ, ◌+ℤ◌, List, ◌++◌, filter, map}
use Rattle.std.specs.List.{flat_map}
use Rattle.std.specs.Ordering.{int_eq}
use Rattle.air_source.specs.declared.events.Side.{Side}
use Rattle.delay_laws.specs.Ticks.{Flight}
use Rattle.document_traffic.specs.Landing.{all_delayed, copies_among, injected_to}
use Rattle.document_traffic.specs.Sending.{Delayed}
use Rattle.fh_document.specs.declared.document.Document.{Document}
use Rattle.fh_base.specs.Lists.{each_tick}
use Rattle.unit_model.specs.Meetings.{Arrival}
use Rattle.unit_model.specs.Radiated.{first_clock}
use Rattle.document_traffic.specs.Measured.{delay_frame, exchanges, flights_then}
use Rattle.unit_model.specs.Times.{tick_count}

-- a copy of a frame of delay measurement, so many ticks after it left
abbrev pub flight_copy : Flight → ℤ → Arrival
flight_copy f ticks = record { at = f.at +ℤ ticks; frame = delay_frame f.message }

abbrev pub copies_flown : Flight → List Arrival
copies_flown f = map (flight_copy f) f.delays

-- those of these frames that leave at a tick
abbrev pub delayed_then : List Delayed → ℤ → List Delayed
delayed_then xs t = filter (λ x. int_eq x.frame.at t) xs

-- the copies of what leaves at a tick
abbrev pub sent_then : List Delayed → List Flight → ℤ → List Arrival
sent_then xs fs t = copies_among (delayed_then xs t) ++ flat_map copies_flown (flights_then fs t)

-- those of all that leaves
unfoldable pub all_sent : List Delayed → List Flight → List Arrival
all_sent xs fs = each_tick first_clock tick_count (sent_then xs fs)

-- all that lands at a unit
abbrev pub landings_apart : Side → Document → List Arrival
landings_apart side d = all_sent (all_delayed side d) ((exchanges d).sent side) ++ injected_to side d
