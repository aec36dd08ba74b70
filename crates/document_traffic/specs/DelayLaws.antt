-- What holds of delay measurement in a document that was read.
use Rattle.std.specs.Prelude.{◌≡◌, ℕ, ◌+◌, ℤ, pos, ◌+ℤ◌, ◌≤ℤ◌, ◌<ℤ◌, List, [], ◌∷◌, ◌++◌, All, Some}
use Rattle.air_source.specs.declared.events.Side.{Side}
use Rattle.delay_laws.specs.Known.{IsMeasuredEvent, known}
use Rattle.delay_laws.specs.Measured.{IsMeasured, IsMeasuredExactly}
use Rattle.delay_laws.specs.Nodes.{Heard, delay_then, time_of}
use Rattle.delay_laws.specs.Ticks.{exchange_of, landing, state}
use Rattle.delay_measure.specs.After.{id_of}
use Rattle.delay_measure.specs.declared.message.DelayMessage.{DelayMessage}
use Rattle.fh_document.specs.declared.document.Document.{Document}
use Rattle.fh_document.specs.Proper.{IsDocument}
use Rattle.window_config.specs.Windows.{ticks_of_ns}
use Rattle.document_traffic.specs.Settings.{compensation_of, no_others, setting_of}
use Rattle.fh_base.specs.declared.nanoseconds.TheConstants.{LAST_TIME}

-- each delay that is measured up to a tick is that of the one request of its id, and of a copy of its frame
abbrev pub DelaysAreOfRequests : Type 0
DelaysAreOfRequests = (d : Document) → IsDocument d → (first : ℤ) (n : ℕ) (later : List Heard) (one : Heard) (earlier : List Heard) (delay : ℤ)
    → (state (setting_of d no_others) first n).heard ≡ later ++ (one ∷ earlier)
    → delay_then (compensation_of d one.side) (exchange_of (setting_of d no_others) earlier one.side (id_of one.told)) one.told ≡ Some delay
    → IsMeasured (setting_of d no_others) (state (setting_of d no_others) first n) (id_of one.told) delay

-- so is each event of a delay
abbrev pub EventsAreMeasured : Type 0
EventsAreMeasured = (d : Document) → IsDocument d → (first : ℤ) (n : ℕ)
    → All (IsMeasuredEvent (setting_of d no_others) (state (setting_of d no_others) first n)) (known (setting_of d no_others) (state (setting_of d no_others) first n).heard)

-- and exactly the copy's time on the way, where both compensations that enter it are whole nanoseconds
abbrev pub DelaysAreExact : Type 0
DelaysAreExact = (d : Document) → IsDocument d → (first : ℤ) (n : ℕ) (later : List Heard) (one : Heard) (earlier : List Heard) (delay : ℤ)
    → (state (setting_of d no_others) first n).heard ≡ later ++ (one ∷ earlier)
    → delay_then (compensation_of d one.side) (exchange_of (setting_of d no_others) earlier one.side (id_of one.told)) one.told ≡ Some delay
    → IsMeasuredExactly (setting_of d no_others) (state (setting_of d no_others) first n) (id_of one.told) delay

-- whatever is received in other frames, nothing that is sent at a tick or later lands at it
abbrev pub LandingIsSettled : Type 0
LandingIsSettled = (d : Document) → IsDocument d → (others : Side → ℤ → List DelayMessage) (side : Side) (first : ℤ) (n m : ℕ)
    → landing ((state (setting_of d others) first (n + m)).sent side) (first +ℤ pos n) ≡ landing ((state (setting_of d others) first n).sent side) (first +ℤ pos n)

-- where no other frame is received after 1,000 s, all is told by 1,009 s, and nothing lands then
abbrev pub AllEnds : Type 0
AllEnds = (d : Document) → IsDocument d → (others : Side → ℤ → List DelayMessage)
    → ((side : Side) (t : ℤ) → ticks_of_ns (pos LAST_TIME) <ℤ t → others side t ≡ []) → (first : ℤ) (n : ℕ)
    → All (λ one. time_of one.told ≤ℤ ticks_of_ns (pos 1009000000000)) (state (setting_of d others) first n).heard
    × ((side : Side) (t : ℤ) → ticks_of_ns (pos 1009000000000) <ℤ t → landing ((state (setting_of d others) first n).sent side) t ≡ [])
