-- What a unit has, as one side of what both units heard tick by tick (`delay_laws`).
use Rattle.std.specs.Prelude.{◌≡◌, ℕ, ℤ, List, map}
use Rattle.air_source.specs.declared.events.Event.{Event}
use Rattle.air_source.specs.declared.events.Side.{Side}
use Rattle.delay_laws.specs.Known.{delay_event, known_while}
use Rattle.delay_laws.specs.Nodes.{Heard, told_to}
use Rattle.delay_laws.specs.Ticks.{Hearing, Setting, came_heard, told_all, told_one}
use Rattle.delay_measure.specs.After.{Told}
use Rattle.document_traffic.specs.Measured.{delay_frame, delay_messages}
use Rattle.document_traffic.specs.Doings.{Doings, told_in, with_frame}
use Rattle.unit_model.specs.declared.results.DelayResult.{DelayResult}
use Rattle.air_source.specs.Units.{other}

-- it was told what was told to this side, and the frames that were not taken are those of what this side sent at the tick
pub record IsSideOf (side : Side) (h : Hearing) (d : Doings) : Type 0 where
  pub told : d.told ≡ told_to side h.heard
  pub made : d.made ≡ map delay_frame (h.made side)

-- what is told to a side
abbrev pub heard_at : Side → Told → Heard
heard_at side one = record { side = side; told = one }

-- the messages of a frame that is received at a side
abbrev pub heard_of : Side → ℤ → List ℕ → List Heard
heard_of side t frame = map (came_heard side t) (delay_messages frame)

-- a delay of the frame that was told last, as it becomes known
abbrev pub known_as : Side → ℤ → DelayResult → Event
known_as side t r = delay_event side r.id t r.value

-- a unit that is told one thing more goes on with its side
abbrev pub OneIsTold : Type 0
OneIsTold =
    (w : Setting) (side : Side) (h : Hearing) (d : Doings) (one : Told)
    → IsSideOf side h d → IsSideOf side (told_one w h (heard_at side one)) (told_in (w.comps side) d one)

-- a unit that is told a frame goes on with its side, which is told each of its messages
abbrev pub SidesAreTold : Type 0
SidesAreTold =
    (w : Setting) (side : Side) (h : Hearing) (d : Doings) (t : ℤ) (frame : List ℕ)
    → IsSideOf side h d → IsSideOf side (told_all w h (heard_of side t frame)) (with_frame (w.comps side) t d frame)

-- the delays of the frame are what becomes known while its messages are told, in order
abbrev pub ResultsAreKnown : Type 0
ResultsAreKnown =
    (w : Setting) (side : Side) (h : Hearing) (d : Doings) (t : ℤ) (frame : List ℕ)
    → IsSideOf side h d → map (known_as side t) (with_frame (w.comps side) t d frame).results ≡ known_while w h (heard_of side t frame)

-- the other unit stays its side, whatever this one is told
abbrev pub OthersStay : Type 0
OthersStay =
    (w : Setting) (side : Side) (h : Hearing) (d : Doings) (ones : List Told)
    → IsSideOf (other side) h d → IsSideOf (other side) (told_all w h (map (heard_at side) ones)) d
