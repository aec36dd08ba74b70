-- What a unit reports through the air of its reports is told to what listens to it.
use Rattle.std.proofs.Common.{ℤ, List, map, subst}
use Rattle.air_source.specs.declared.events.AirCell.{AirCell}
use Rattle.air_source.specs.declared.events.Event.{Event}
use Rattle.air_source.specs.declared.events.Event.TheVariants.{Cell}
use Rattle.du_intake.specs.Closing.{IntakeStopsAtDue}
use Rattle.du_intake.specs.declared.unit.Intake.{Intake}
use Rattle.ru_buffers.specs.Calls.{StopsAtDue}
use Rattle.ru_buffers.specs.declared.unit.Ru.{Ru}
use Rattle.unit_model.specs.Standing.{History}
use Rattle.unit_model.specs.declared.allocations.Allocation.{Allocation}
use Rattle.unit_moments.specs.Airs.{air_of}
use Rattle.unit_moments.specs.Heard.{HeardAnyhow, without_frames}
use Rattle.unit_moments.specs.HeardLaws.{cells_stay}
use Rattle.unit_moments.specs.declared.reports.Reports.{Reports}
use Rattle.window_config.specs.declared.config.Config.{Config}

module _ {A : Type 0} (grew : Config → List Event → A → List Event → A → Type 0) where
  -- what the air of the reports heard
  abbrev pub ReportsGrew : Reports A → List Event → Reports A → Type 0
  ReportsGrew a events b = HeardAnyhow grew (air_of a) (without_frames events) (air_of b)

  pub cells_heard : (a b : Reports A) (cells : List AirCell) → ReportsGrew a (map Cell cells) b → HeardAnyhow grew (air_of a) (map Cell cells) (air_of b)
  cells_heard a b cells heard = subst (λ (es : List Event). HeardAnyhow grew (air_of a) es (air_of b)) (cells_stay cells) heard

  module _ (stopped : A → Event → A → Type 0) where
    -- and where it stopped
    abbrev pub ReportsStopped : Reports A → Event → Reports A → Type 0
    ReportsStopped a event b = stopped (air_of a) event (air_of b)

    pub radio_stops : (c : Config) (h : History) (to : ℤ) (u : Ru) (a b : Reports A) → StopsAtDue ReportsGrew ReportsStopped c h to u a b
        → StopsAtDue (HeardAnyhow grew) stopped c h to u (air_of a) (air_of b)
    radio_stops c h to u a b s = record {
      told = s.told;
      cell = s.cell;
      rest = s.rest;
      is = s.is;
      stands = s.stands;
      middle = air_of s.middle;
      heard_is = cells_heard a s.middle s.told s.heard_is;
      stop = s.stop;
    }

    pub intake_stops : (c : Config) (planned : List Allocation) (h : History) (to : ℤ) (u : Intake) (a b : Reports A) → IntakeStopsAtDue ReportsGrew ReportsStopped c planned h to u a b
        → IntakeStopsAtDue (HeardAnyhow grew) stopped c planned h to u (air_of a) (air_of b)
    intake_stops c planned h to u a b s = record {
      told = s.told;
      cell = s.cell;
      rest = s.rest;
      is = s.is;
      stands = s.stands;
      middle = air_of s.middle;
      heard_is = cells_heard a s.middle s.told s.heard_is;
      stop = s.stop;
    }
