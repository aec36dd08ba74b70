-- The replay of a document: its events, and how both units relate to those that were heard (this project's profile).
use Rattle.std.specs.Prelude.{◌≡◌, ℤ, List, [], ◌∷◌, ◌++◌, ◌⊎◌}
use Rattle.air_source.specs.declared.events.Event.{Event}
use Rattle.air_source.specs.declared.events.Side.TheVariants.{Ru as AtRu, Du as AtDu}
use Rattle.document_traffic.specs.Landing.{jobs_for}
use Rattle.document_traffic.specs.Replayed.{landings_for, traffic_of}
use Rattle.du_intake.specs.Calls.{IntakeStandsFor}
use Rattle.du_intake.specs.Units.{intake_due_of as intake_due}
use Rattle.du_intake.specs.declared.unit.Intake.{Intake}
use Rattle.fh_document.specs.declared.document.Document.{Document}
use Rattle.fronthaul_replay.specs.IntakeTurns.{IsIntakeInStep, planned_for}
use Rattle.fronthaul_replay.specs.BoxTurns.{IsRadioInStep}
use Rattle.replay_laws.specs.Events.{events}
use Rattle.replay_laws.specs.Moments.{all_arrivals, end_of_time}
use Rattle.ru_buffers.specs.Calls.{IsQuietTo, StandsFor}
use Rattle.ru_buffers.specs.declared.unit.Ru.{Ru}
use Rattle.unit_model.specs.Reports.{du_reported, ru_reported}
use Rattle.unit_model.specs.Standing.{History}
pub use Rattle.document_traffic.specs.Laws.{IsReplayable}

-- all events of a document, in order
abbrev pub events_of : Document → List Event
events_of d = events d.config (traffic_of d)

-- ---- what was heard

-- both units are in step with them: each stands for the arrivals at it that were heard, and has reported those of its cells that were
pub record IsInStep (d : Document) (told : List Event) (u : Ru) (i : Intake) : Type 0 where
  pub radio : IsRadioInStep d told u
  pub intake : IsIntakeInStep d told i

-- ---- at the end

-- the radio unit stands for all that landed at it, with every cell reported and every message given: none is due up to any time
pub record IsRadioDone (d : Document) (u : Ru) : Type 0 where
  pub history : History
  pub stands : StandsFor d.config u history
  pub arrivals : history.arrivals ≡ all_arrivals (landings_for AtRu d)
  pub reported : history.reported ≡ ru_reported d.config (all_arrivals (landings_for AtRu d)) end_of_time
  pub given : history.given ≡ jobs_for d
  pub quiet : (to : ℤ) → IsQuietTo d.config history to

-- the intake stands for all that landed at the distributed unit, with every planned cell reported: none is due up to any time
pub record IsIntakeDone (d : Document) (u : Intake) : Type 0 where
  pub history : History
  pub stands : IntakeStandsFor d.config (planned_for d) u history
  pub arrivals : history.arrivals ≡ all_arrivals (landings_for AtDu d)
  pub reported : history.reported ≡ du_reported d.config (planned_for d) (all_arrivals (landings_for AtDu d)) end_of_time
  pub quiet : (to : ℤ) → intake_due d.config (planned_for d) history to ≡ []

pub record IsDone (d : Document) (u : Ru) (i : Intake) : Type 0 where
  pub radio : IsRadioDone d u
  pub intake : IsIntakeDone d i

-- ---- after a fault of the air

-- the air stopped in an event, and both units are in step with those before it
pub record StopsInStep {A : Type 0} (grew : A → List Event → A → Type 0) (stopped : A → Event → A → Type 0) (d : Document) (u : Ru) (i : Intake) (before after : A) : Type 0 where
  pub told : List Event
  pub event : Event
  pub rest : List Event
  pub is : events_of d ≡ told ++ event ∷ rest
  pub middle : A
  pub heard : grew before told middle
  pub stop : stopped middle event after
  pub step : IsInStep d told u i

-- the air heard the first of the events, and both units are in step with them
pub record RestsInStep {A : Type 0} (grew : A → List Event → A → Type 0) (d : Document) (u : Ru) (i : Intake) (before after : A) : Type 0 where
  pub told : List Event
  pub rest : List Event
  pub is : events_of d ≡ told ++ rest
  pub heard : grew before told after
  pub step : IsInStep d told u i

-- memory ran out in one of them, or between two
abbrev pub HaltsInStep : {A : Type 0} → (A → List Event → A → Type 0) → (A → Event → A → Type 0) → Document → Ru → Intake → A → A → Type 0
HaltsInStep grew stopped d u i before after = StopsInStep grew stopped d u i before after ⊎ RestsInStep grew d u i before after
