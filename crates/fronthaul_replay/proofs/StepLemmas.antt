-- Both units are in step with what an air heard.
use Rattle.std.proofs.Common.{◌≡◌, ℤ, List, ◌++◌, subst}
use Rattle.air_source.specs.declared.events.Event.{Event}
use Rattle.air_source.specs.declared.events.Side.TheVariants.{Du as AtDu}
use Rattle.du_intake.specs.declared.unit.Intake.{Intake}
use Rattle.fh_document.specs.declared.document.Document.{Document}
use Rattle.fronthaul_replay.specs.IntakeTurns.{AtIntakeTurn, IsIntakeInStep}
use Rattle.fronthaul_replay.proofs.BoxNext.{intake_front_stays, intake_turn_step}
use Rattle.fronthaul_replay.specs.BoxTurns.{IsRadioInStep, events_before, intake_events, radio_events}
use Rattle.fronthaul_replay.proofs.BoxSteps.{AreEventsOf, events_front, intake_own, step_stays, turn_step}
use Rattle.ru_buffers.specs.declared.unit.Ru.{Ru}
use Rattle.fronthaul_replay.specs.Replaying.{IsInStep}
use Rattle.fronthaul_replay.specs.Turns.{AtTurn}

abbrev pub InStep : Document → Ru → Intake → List Event → Type 0
InStep d u i told = IsInStep d told u i

-- at the start of a tick, with the events before it
pub turn_in_step : (d : Document) (now : ℤ) (u : Ru) (i : Intake) → AtTurn d now u i → IsInStep d (events_before d now) u i
turn_in_step d now u i a = record { radio = turn_step d now u a.radio; intake = intake_turn_step d now i a.intake }

-- and with some of the radio unit's events of the tick, where that unit is
pub radio_in_step : (d : Document) (tick : ℤ) (u : Ru) (i : Intake) (told rest : List Event) → AtIntakeTurn d tick i → radio_events d tick ≡ told ++ rest
    → IsRadioInStep d (events_before d tick ++ told) u → IsInStep d (events_before d tick ++ told) u i
radio_in_step d tick u i told rest turn is step = record {
  radio = step;
  intake = intake_front_stays d tick (events_before d tick) told rest i is (intake_turn_step d tick i turn);
}

-- and with some of the distributed unit's after all of those, where the intake is
pub intake_in_step : (d : Document) (tick : ℤ) (u : Ru) (i : Intake) (told rest : List Event) → IsRadioInStep d (events_before d tick ++ radio_events d tick) u
    → intake_events d tick ≡ told ++ rest → IsIntakeInStep d ((events_before d tick ++ radio_events d tick) ++ told) i
    → IsInStep d ((events_before d tick ++ radio_events d tick) ++ told) u i
intake_in_step d tick u i told rest radio is step = record {
  radio =
      step_stays d (events_before d tick ++ radio_events d tick) told u (events_front AtDu told rest (subst (AreEventsOf AtDu) is (intake_own d tick))) radio;
  intake = step;
}
