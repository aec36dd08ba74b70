-- A message that may take more parts (this project's means).
use Rattle.std.specs.Prelude.{ℕ, ◌+◌, ◌*◌, Bool, ◌&&◌, ◌==◌, min, if◌then◌else◌}
use Rattle.unit_model.specs.Claims.{same_slot}
use Rattle.unit_model.specs.Sweeps.{slot_at}
use Rattle.plan_model.specs.Sizes.{has_room, larger, of_one}
use Rattle.plan_model.specs.declared.departures.Departures.{Departures}
use Rattle.du_scheduler.specs.declared.parts.TimedPart.{TimedPart}
use Rattle.du_scheduler.specs.declared.open_messages.OpenMessage.{OpenMessage}

abbrev pub same_place : TimedPart → TimedPart → Bool
same_place a b = same_slot (slot_at a.frame a.subframe a.slot) (slot_at b.frame b.subframe b.slot) && (a.symbol == b.symbol)

abbrev pub alone : TimedPart → ℕ → OpenMessage
alone p wait = record { first = p; size = of_one p.size; wait = wait }

abbrev pub takes_more : ℕ → OpenMessage → TimedPart → Bool
takes_more pack m p = same_place m.first p && has_room pack m.size p.size

abbrev pub grown : OpenMessage → TimedPart → OpenMessage
grown m p = record { first = m.first; size = larger m.size p.size; wait = m.wait }

-- the next message waits for the frames of this one, where it is of its symbol
abbrev pub next_wait : Departures → ℕ → OpenMessage → TimedPart → ℕ
next_wait d frames m p = if same_place p m.first then min (m.wait + frames * d.gap) d.spread else 0

abbrev pub next_to : Departures → ℕ → OpenMessage → TimedPart → OpenMessage
next_to d frames m p = alone p (next_wait d frames m p)
