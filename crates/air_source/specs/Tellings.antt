-- The events that the tests tell.
use Rattle.std.specs.Prelude.{ℕ, ◌+◌, ◌*◌, Bool, not, if◌then◌else◌, List, [], ◌∷◌, Some, map, pos, ◌-ℤ◌}
use Rattle.bfp_codec.specs.declared.samples.Wide.{Wide}
use Rattle.fh_base.specs.declared.values.Slot.{Slot}
use Rattle.air_source.specs.Answers.{widened, block_of}
use Rattle.air_source.specs.declared.places.RePlace.{RePlace}
use Rattle.air_source.specs.declared.events.Side.TheVariants.{Ru}
use Rattle.air_source.specs.declared.events.Event.{Event}
use Rattle.air_source.specs.declared.events.Event.TheVariants.{Cell, Delay, Arrival, Count}

-- the cell at a PRB with the samples that a function answers there
abbrev pub cell_by : (RePlace → Wide) → Slot → ℕ → Event
cell_by answer slot prb = Cell (record { side = Ru; at = record { 0 = pos 0 }; id = 0; slot = slot; symbol = 0; prb = prb; section = 1; mask = 4095; block = Some (map widened (block_of answer 0 slot 0 prb)) })

-- an answer that reaches both ends of 16 bits
abbrev pub corner_at : RePlace → Wide
corner_at p = record { i = pos (p.prb * 120 + p.re) -ℤ pos 32768; q = pos 32767 -ℤ pos p.id }

-- the byte that denotes a kind of event
abbrev pub kind_of : Event → ℕ
kind_of (Cell c) = 99
kind_of (Delay at side id value) = 100
kind_of (Arrival side at frame) = 97
kind_of (Count side counter value) = 110

-- An air that writes a line for each event: its state says whether the number of events is odd.
abbrev pub line_next : Bool → Event → Bool
line_next odd event = not odd

abbrev pub line_gives : Bool → Event → List ℕ
line_gives odd event = kind_of event ∷ (if odd then 1 else 0) ∷ 10 ∷ []

abbrev pub line_ends : Bool → List ℕ
line_ends odd = (if odd then 1 else 0) ∷ []

-- the line that is owed, where there is one
abbrev pub bytes_owed : Bool → List ℕ → List ℕ
bytes_owed full line = if full then line else []
