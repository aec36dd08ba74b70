-- What lands at a unit of the frames that are sent to it, and of those that a document injects there: the copies of what is sent to it, in
-- the order in which it is sent and then by copy, and after them the injected frames in the order of the document (this project's
-- profile). Times are ticks, and a list of what lands may have them in any order.
use Rattle.std.specs.Prelude.{ℕ, ℤ, pos, ◌+ℤ◌, ◌*ℤ◌, Bool, List, ◌++◌, filter, map}
use Rattle.std.specs.List.{flat_map}
use Rattle.std.specs.Ordering.{int_eq}
use Rattle.air_source.specs.Units.{is_down}
use Rattle.air_source.specs.declared.events.Side.{Side}
use Rattle.fh_document.specs.declared.document.Document.{Document}
use Rattle.fh_document.specs.declared.document.Injection.{Injection}
use Rattle.window_config.specs.Windows.{ticks_of_ns}
use Rattle.fh_base.specs.declared.nanoseconds.TheConstants.{NANOSECOND}
use Rattle.unit_model.specs.Claims.{same_way}
use Rattle.unit_model.specs.Meetings.{Arrival}
use Rattle.frame_ways.specs.Leaving.{Delayed, Leaving, delayed_behind, none_sent}

-- the arrival of a frame
abbrev pub arrival_at : ℤ → List ℕ → Arrival
arrival_at at frame = record { at = at; frame = frame }

-- of these, those that land at a tick, as they are listed
abbrev pub landing_at : List Arrival → ℤ → List Arrival
landing_at landings tick = filter (λ a. int_eq a.at tick) landings

-- ---- copies, and injected frames

-- a copy of a frame, so many nanoseconds after it left
abbrev pub copy_at : Leaving → ℤ → Arrival
copy_at f ns = record { at = f.at +ℤ ticks_of_ns ns; frame = f.frame }

abbrev pub copies_in : Delayed → List Arrival
copies_in x = map (copy_at x.frame) x.delays

abbrev pub copies_among : List Delayed → List Arrival
copies_among xs = flat_map copies_in xs

-- an injected frame
abbrev pub injected_at : Injection → Arrival
injected_at i = record { at = i.at *ℤ pos NANOSECOND; frame = i.frame }

-- it arrives at this unit
abbrev pub is_to : Side → Injection → Bool
is_to side i = same_way (is_down i.side) (is_down side)

abbrev pub injected_to : Side → Document → List Arrival
injected_to side d = map injected_at (filter (is_to side) d.injections)

-- ---- all that lands at a unit to which these frames are sent
abbrev pub landing_with : Document → Side → List Leaving → List Arrival
landing_with d side fs = copies_among (delayed_behind d side none_sent fs) ++ injected_to side d
