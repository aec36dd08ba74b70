-- What the delays are that a document's replay gives, where no injected frame has a message of delay measurement.
use Rattle.std.specs.Prelude.{◌≡◌, ℕ, ℤ, List, [], All}
use Rattle.air_source.specs.declared.events.Event.{Event}
use Rattle.air_source.specs.declared.events.Event.TheVariants.{Cell, Delay, Arrival, Count}
use Rattle.air_source.specs.declared.events.Side.{Side}
use Rattle.delay_laws.specs.Measured.{IsMeasured, IsMeasuredExactly}
use Rattle.document_traffic.specs.Settings.{no_others, setting_of}
use Rattle.document_traffic.specs.Laws.{IsReplayable}
use Rattle.fh_document.specs.declared.document.Document.{Document}
use Rattle.replay_laws.specs.Events.{events}
use Rattle.unit_model.specs.declared.results.DelayResult.{DelayResult}
use Rattle.document_traffic.specs.Measured.{delay_messages, exchanges}
use Rattle.document_traffic.specs.Replayed.{results_at, traffic_of}

abbrev pub InjectsNone : Document → Type 0
InjectsNone d = All (λ i. delay_messages i.frame ≡ []) d.injections

-- ---- a delay

-- it is that of the one request of its id, and of a copy of its frame
abbrev pub IsOfRequest : Document → ℕ → ℤ → Type 0
IsOfRequest d id delay = IsMeasured (setting_of d no_others) (exchanges d) id delay

-- and exactly the copy's time on its way, where the two compensations that enter it are whole nanoseconds: that of the request's sender
-- at sending and that of its receiver at receiving, whatever the other two are
abbrev pub IsTimeOfWay : Document → ℕ → ℤ → Type 0
IsTimeOfWay d id delay = IsMeasuredExactly (setting_of d no_others) (exchanges d) id delay

-- ---- all of them

-- so is each result of some frames
abbrev pub ResultsAre : (ℕ → ℤ → Type 0) → List (List DelayResult) → Type 0
ResultsAre P results = All (λ given. All (λ r. P r.id r.value) given) results

-- so is the delay of an event; other events say nothing of that
abbrev pub DelayIs : (ℕ → ℤ → Type 0) → Event → Type 0
DelayIs P (Cell cell) = Unit {0}
DelayIs P (Delay at side id delay) = P id delay
DelayIs P (Arrival side at frame) = Unit {0}
DelayIs P (Count side counter value) = Unit {0}

-- ---- laws

abbrev pub DelaysAreMeasured : Type 0
DelaysAreMeasured = (d : Document) → IsReplayable d → InjectsNone d → (side : Side) (t : ℤ) → ResultsAre (IsOfRequest d) (results_at d side t)

abbrev pub DelaysAreExact : Type 0
DelaysAreExact = (d : Document) → IsReplayable d → InjectsNone d → (side : Side) (t : ℤ) → ResultsAre (IsTimeOfWay d) (results_at d side t)

abbrev pub EventsAreMeasured : Type 0
EventsAreMeasured = (d : Document) → IsReplayable d → InjectsNone d → All (DelayIs (IsOfRequest d)) (events d.config (traffic_of d))

abbrev pub EventsAreExact : Type 0
EventsAreExact = (d : Document) → IsReplayable d → InjectsNone d → All (DelayIs (IsTimeOfWay d)) (events d.config (traffic_of d))
