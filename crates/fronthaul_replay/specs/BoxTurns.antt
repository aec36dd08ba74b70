-- The state of a radio unit as time passes, tick by tick (this project's profile).
use Rattle.std.specs.Prelude.{◌≡◌, ℤ, pos, ◌+ℤ◌, ◌-ℤ◌, ◌≤ℤ◌, List, [], ◌++◌, map}
use Rattle.air_source.specs.declared.events.Event.{Event}
use Rattle.air_source.specs.declared.events.Event.TheVariants.{Cell}
use Rattle.air_source.specs.declared.events.Side.TheVariants.{Ru as AtRu, Du as AtDu}
use Rattle.document_traffic.specs.Replayed.{landings_for, traffic_of}
use Rattle.fh_document.specs.declared.document.Document.{Document}
use Rattle.replay_laws.specs.Events.{arrivals_at, cells_reported_at, events_between}
use Rattle.unit_model.specs.Heard.{arrivals_heard, cells_heard}
use Rattle.replay_laws.specs.Moments.{arrivals_before, end_of_time}
use Rattle.ru_buffers.specs.Calls.{IsQuietTo, StandsFor, radio_clock}
use Rattle.ru_buffers.specs.declared.unit.Ru.{Ru}
use Rattle.unit_model.specs.Radiated.{first_clock}
use Rattle.unit_model.specs.Reports.{ru_reported}
use Rattle.unit_model.specs.Standing.{History}
use Rattle.uplink_laws.specs.Turns.{jobs_until}

-- ---- the events of a tick: the radio unit's, and then the distributed unit's

-- the events before a tick
abbrev pub events_before : Document → ℤ → List Event
events_before d now = events_between d.config (traffic_of d) first_clock now

-- the radio unit's cells, and the frames that land at it, each with the delays that it makes known
abbrev pub radio_events : Document → ℤ → List Event
radio_events d tick = map Cell (cells_reported_at AtRu d.config (traffic_of d) tick) ++ arrivals_at AtRu (traffic_of d) tick

-- the frames that land at the distributed unit, each with the delays that it makes known, and its cells
abbrev pub intake_events : Document → ℤ → List Event
intake_events d tick = arrivals_at AtDu (traffic_of d) tick ++ map Cell (cells_reported_at AtDu d.config (traffic_of d) tick)

-- ---- in step with what was heard

-- the radio unit stands for the arrivals at it that were heard, and has reported those of its cells that were
pub record IsRadioInStep (d : Document) (told : List Event) (u : Ru) : Type 0 where
  pub history : History
  pub stands : StandsFor d.config u history
  pub arrivals : history.arrivals ≡ arrivals_heard AtRu [] told
  pub reported : history.reported ≡ cells_heard AtRu told

-- ---- at the start of a tick

-- All that landed before it has arrived, all that was to be reported before it was, and each message whose symbol starts before it was given.
pub record IsRadioTurn (d : Document) (now : ℤ) (h : History) : Type 0 where
  pub begun : first_clock ≤ℤ now
  pub ended : now ≤ℤ (end_of_time +ℤ pos 1)
  pub arrivals : h.arrivals ≡ arrivals_before (landings_for AtRu d) now
  pub reported : h.reported ≡ ru_reported d.config (arrivals_before (landings_for AtRu d) now) (now -ℤ pos 1)
  pub quiet : IsQuietTo d.config h (now -ℤ pos 1)
  pub given : h.given ≡ jobs_until d.config (landings_for AtRu d) (now -ℤ pos 1)
  pub came : h.arrivals ≡ arrivals_heard AtRu [] (events_before d now)
  pub told : h.reported ≡ cells_heard AtRu (events_before d now)

pub record AtRadioTurn (d : Document) (now : ℤ) (u : Ru) : Type 0 where
  pub history : History
  pub stands : StandsFor d.config u history
  pub turn : IsRadioTurn d now history
  pub clock : (radio_clock u).0 ≤ℤ now

-- ---- once its cells of a tick were reported and all of the tick has landed: its messages of the tick are not given yet

pub record IsRadioLanded (d : Document) (tick : ℤ) (h : History) : Type 0 where
  pub begun : first_clock ≤ℤ tick
  pub ended : tick ≤ℤ end_of_time
  pub clock : h.clock ≡ tick
  pub arrivals : h.arrivals ≡ arrivals_before (landings_for AtRu d) (tick +ℤ pos 1)
  pub reported : h.reported ≡ ru_reported d.config (arrivals_before (landings_for AtRu d) (tick +ℤ pos 1)) tick
  pub given : h.given ≡ jobs_until d.config (landings_for AtRu d) (tick -ℤ pos 1)
  pub came : h.arrivals ≡ arrivals_heard AtRu [] (events_before d tick ++ radio_events d tick)
  pub told : h.reported ≡ cells_heard AtRu (events_before d tick ++ radio_events d tick)

pub record HasRadioLanded (d : Document) (tick : ℤ) (u : Ru) : Type 0 where
  pub history : History
  pub stands : StandsFor d.config u history
  pub landed : IsRadioLanded d tick history
