-- What holds of delays that are measured.
use Rattle.std.specs.Prelude.{◌≡◌, ℕ, ◌+◌, ◌<◌, ℤ, pos, ◌+ℤ◌, ◌≤ℤ◌, ◌<ℤ◌, List, [], ◌∷◌, ◌++◌, All, Some}
use Rattle.air_source.specs.declared.events.Side.{Side}
use Rattle.delay_measure.specs.After.{id_of, exchange_after}
use Rattle.delay_measure.specs.declared.edge.Compensation.{Compensation}
use Rattle.delay_laws.specs.Nodes.{Heard, delay_then, measured, node_of, time_of, told_to}
use Rattle.delay_laws.specs.Runs.{IsRun}
use Rattle.delay_laws.specs.Ticks.{Hearing, IsPure, IsQuiet, Setting, exchange_of, landing, state, told_all}
use Rattle.delay_laws.specs.Ends.{EndsBy, HasWholeTimes}
use Rattle.delay_measure.specs.Kept.{IsInRange}
use Rattle.delay_laws.specs.Delays.{HasDelay}
use Rattle.delay_laws.specs.Measured.{IsMeasured, IsMeasuredExactly}
use Rattle.delay_laws.specs.Known.{IsMeasuredEvent, known, known_while}
use Rattle.air_source.specs.Units.{other}

-- the exchange that each unit's meter has is that of what it was told
abbrev pub ExchangesAreTold : Type 0
ExchangesAreTold = (comps : Side → Compensation) (heard : List Heard) (side : Side) (id : ℕ)
    → (node_of side (measured comps id heard)).exchange ≡ exchange_after (comps side).sending (comps side).receiving (told_to side heard) id

-- where each message that was received was sent by the other unit, each delay that is measured is that of the one request of its id
abbrev pub DelaysAreOfRequests : Type 0
DelaysAreOfRequests = (comps : Side → Compensation) (earlier : List Heard) (one : Heard) (delay : ℤ) → ((side : Side) → IsInRange (comps side)) → IsRun comps (one ∷ earlier)
    → delay_then (comps one.side) (node_of one.side (measured comps (id_of one.told) earlier)).exchange one.told ≡ Some delay
    → (side : Side) × HasDelay (comps side) (comps (other side)) (node_of side (measured comps (id_of one.told) (one ∷ earlier))) (node_of (other side) (measured comps (id_of one.told) (one ∷ earlier))) delay

-- what both units are told tick by tick is such a run
abbrev pub TicksAreRuns : Type 0
TicksAreRuns = (w : Setting) → IsPure w → (first : ℤ) (n : ℕ) → IsRun w.comps (state w first n).heard

-- so each delay that is measured up to a tick is that of the one request of its id
abbrev pub TickDelaysAreOfRequests : Type 0
TickDelaysAreOfRequests = (w : Setting) → IsPure w → ((side : Side) → IsInRange (w.comps side)) → (first : ℤ) (n : ℕ) (later : List Heard) (one : Heard) (earlier : List Heard) (delay : ℤ)
    → (state w first n).heard ≡ later ++ (one ∷ earlier) → delay_then (w.comps one.side) (exchange_of w earlier one.side (id_of one.told)) one.told ≡ Some delay
    → IsMeasured w (state w first n) (id_of one.told) delay

-- so is each event of a delay
abbrev pub EventsAreMeasured : Type 0
EventsAreMeasured = (w : Setting) → IsPure w → ((side : Side) → IsInRange (w.comps side)) → (first : ℤ) (n : ℕ) → All (IsMeasuredEvent w (state w first n)) (known w (state w first n).heard)

-- what becomes known while more is told follows what was known before
abbrev pub KnownGrows : Type 0
KnownGrows = (w : Setting) (h : Hearing) (more : List Heard) → known w (told_all w h more).heard ≡ known w h.heard ++ known_while w h more

-- and exactly the time that a copy of it was on its way, where all times are whole nanoseconds and the two compensations that enter it
abbrev pub TickDelaysAreExact : Type 0
TickDelaysAreExact = (w : Setting) → IsPure w → ((side : Side) → IsInRange (w.comps side)) → HasWholeTimes w
    → (first : ℤ) (n : ℕ) (later : List Heard) (one : Heard) (earlier : List Heard) (delay : ℤ)
    → (state w first n).heard ≡ later ++ (one ∷ earlier) → delay_then (w.comps one.side) (exchange_of w earlier one.side (id_of one.told)) one.told ≡ Some delay
    → IsMeasuredExactly w (state w first n) (id_of one.told) delay

-- where each copy takes at least a tick, what lands at a tick is settled when it begins: nothing that is sent at it or later lands then
abbrev pub LandingIsSettled : Type 0
LandingIsSettled = (w : Setting) (side : Side) → ((k : ℕ) → All (λ d. pos 0 <ℤ d) (w.delays side k)) → (first : ℤ) (n m : ℕ)
    → landing ((state w first (n + m)).sent side) (first +ℤ pos n) ≡ landing ((state w first n).sent side) (first +ℤ pos n)

-- quiet ticks change nothing
abbrev pub QuietTicksChangeNothing : Type 0
QuietTicksChangeNothing = (w : Setting) (first : ℤ) (n m : ℕ) → ((k : ℕ) → k < m → IsQuiet w (state w first n) (first +ℤ pos (n + k))) → state w first (n + m) ≡ state w first n

-- where nothing begins or is received otherwise after a time, all is told by three delays later, whatever is received in other frames,
-- and nothing lands then: a Remote Request is answered by at most a request, this by one Response, and a Response by nothing
abbrev pub AllEnds : Type 0
AllEnds = (w : Setting) (last most : ℤ) → EndsBy w last most → (first : ℤ) (n : ℕ)
    → All (λ one. time_of one.told ≤ℤ (((last +ℤ most) +ℤ most) +ℤ most)) (state w first n).heard
    × ((side : Side) (t : ℤ) → (((last +ℤ most) +ℤ most) +ℤ most) <ℤ t → landing ((state w first n).sent side) t ≡ [])
