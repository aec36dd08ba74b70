-- The state of the distributed unit's intake as time passes, tick by tick (this project's profile).
use Rattle.std.specs.Prelude.{◌≡◌, ℤ, pos, ◌+ℤ◌, ◌-ℤ◌, ◌≤ℤ◌, List, [], ◌++◌}
use Rattle.air_source.specs.declared.events.Event.{Event}
use Rattle.air_source.specs.declared.events.Side.TheVariants.{Du as AtDu}
use Rattle.document_traffic.specs.Replayed.{landings_for, traffic_of}
use Rattle.du_intake.specs.Calls.{IntakeStandsFor, intake_clock}
use Rattle.du_intake.specs.Units.{intake_due_of}
use Rattle.du_intake.specs.declared.unit.Intake.{Intake}
use Rattle.fh_document.specs.declared.document.Document.{Document}
use Rattle.unit_model.specs.Heard.{arrivals_heard, cells_heard}
use Rattle.replay_laws.specs.Moments.{arrivals_before, end_of_time}
use Rattle.fronthaul_replay.specs.BoxTurns.{events_before, radio_events}
use Rattle.unit_model.specs.Radiated.{first_clock}
use Rattle.unit_model.specs.Reports.{du_reported}
use Rattle.unit_model.specs.Standing.{History}
use Rattle.unit_model.specs.declared.allocations.Allocation.{Allocation}

-- what the plan's uplink lines name
abbrev pub planned_for : Document → List Allocation
planned_for d = (traffic_of d).planned

-- the intake stands for the arrivals at the distributed unit that were heard, and has reported those of its cells that were
pub record IsIntakeInStep (d : Document) (told : List Event) (u : Intake) : Type 0 where
  pub history : History
  pub stands : IntakeStandsFor d.config (planned_for d) u history
  pub arrivals : history.arrivals ≡ arrivals_heard AtDu [] told
  pub reported : history.reported ≡ cells_heard AtDu told

-- at the start of a tick: all that landed before it has arrived, and all that was to be reported before it was
pub record IsIntakeTurn (d : Document) (now : ℤ) (h : History) : Type 0 where
  pub begun : first_clock ≤ℤ now
  pub ended : now ≤ℤ (end_of_time +ℤ pos 1)
  pub arrivals : h.arrivals ≡ arrivals_before (landings_for AtDu d) now
  pub reported : h.reported ≡ du_reported d.config (planned_for d) (arrivals_before (landings_for AtDu d) now) (now -ℤ pos 1)
  pub quiet : intake_due_of d.config (planned_for d) h (now -ℤ pos 1) ≡ []
  pub came : h.arrivals ≡ arrivals_heard AtDu [] (events_before d now)
  pub told : h.reported ≡ cells_heard AtDu (events_before d now)

pub record AtIntakeTurn (d : Document) (now : ℤ) (u : Intake) : Type 0 where
  pub history : History
  pub stands : IntakeStandsFor d.config (planned_for d) u history
  pub turn : IsIntakeTurn d now history
  pub clock : (intake_clock u).0 ≤ℤ now

-- what the air heard before the distributed unit's part of a moment
abbrev pub heard_before : Document → ℤ → List Event
heard_before d tick = events_before d tick ++ radio_events d tick
