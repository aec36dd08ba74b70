-- The documents of the units of a shared cell (this project's profile).
use Rattle.std.specs.Prelude.{ℕ, ℤ, pos, ◌+ℤ◌, ◌+◌, ◌*◌, ◌%◌, ◌^◌, Bool, true, false, if◌then◌else◌, map}
use Rattle.std.specs.Int.{int_min}
use Rattle.std.specs.Option.{option_map}
use Rattle.air_source.specs.declared.events.Side.{Side}
use Rattle.air_source.specs.declared.events.Side.TheVariants.{Ru, Du}
use Rattle.fh_document.specs.Proper.{IsDocument}
use Rattle.fh_document.specs.declared.config_lines.TheConstants.{MOST_TRANSIT}
use Rattle.fh_document.specs.declared.delivered.TrafficClass.{TrafficClass}
use Rattle.fh_document.specs.declared.delivered.TrafficClass.TheVariants.{C, U, M}
use Rattle.fh_document.specs.declared.delivered.Delivery.{Delivery}
use Rattle.fh_document.specs.declared.document.Document.{Document}
use Rattle.fh_document.specs.declared.document.Transits.{Transits}
use Rattle.air_source.specs.declared.tones.Tone.{Tone}

-- a time on the way that is longer by so many nanoseconds, three seconds at most
abbrev pub moved : ℕ → ℤ → ℤ
moved more ns = int_min (ns +ℤ pos more) (pos MOST_TRANSIT)

-- the frames that are longer on their way: those of the C-plane and the U-plane to the radio unit
abbrev pub moves : Side → TrafficClass → Bool
moves Ru C = true
moves Ru U = true
moves Ru M = false
moves Du class = false

-- what becomes of a frame at a unit: each copy is longer on its way, and a frame without copies is lost
abbrev pub moved_delivery : ℕ → Delivery → Delivery
moved_delivery more d = record { side = d.side; class = d.class; k = d.k; copies = if moves d.side d.class then map (moved more) d.copies else d.copies }

-- how long frames are on their way where no line says it of one frame: those that are lost are lost at each unit
abbrev pub unit_transits : ℕ → Transits → Transits
unit_transits more t = record { dl = option_map (moved more) t.dl; ul = t.ul; m = t.m }

-- the samples that a unit's antenna takes in
abbrev pub unit_tone : ℕ → Tone → Tone
unit_tone unit t = record { seed = (t.seed + unit) % 2 ^ 32; amplitude = t.amplitude }

-- the document of a unit, counted from 0, where each unit is `step` nanoseconds further away than the one before it
abbrev pub unit_of : Document → ℕ → ℕ → Document
unit_of d unit step = record {
  config = d.config;
  plan = d.plan;
  plan_lines = d.plan_lines;
  source = d.source;
  antenna = unit_tone unit d.antenna;
  comps = d.comps;
  transits = unit_transits (unit * step) d.transits;
  deliveries = map (moved_delivery (unit * step)) d.deliveries;
  injections = d.injections;
  measures = d.measures;
}

-- a document of the grammar stays one at every unit
abbrev pub UnitsAreDocuments : Type 0
UnitsAreDocuments = (d : Document) (unit step : ℕ) → IsDocument d → IsDocument (unit_of d unit step)
