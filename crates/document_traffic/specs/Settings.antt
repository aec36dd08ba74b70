-- What a document says of delay measurement (this project's profile).
use Rattle.std.specs.Prelude.{ℕ, ℤ, List, [], map}
use Rattle.air_source.specs.declared.events.Side.{Side}
use Rattle.air_source.specs.declared.events.Side.TheVariants.{Ru, Du}
use Rattle.delay_measure.specs.declared.edge.Compensation.{Compensation}
use Rattle.delay_laws.specs.Ticks.{Begin, Setting}
use Rattle.delay_measure.specs.declared.message.DelayMessage.{DelayMessage}
use Rattle.fh_document.specs.declared.delivered.TrafficClass.TheVariants.{M}
use Rattle.fh_document.specs.declared.document.Document.{Document}
use Rattle.fh_document.specs.declared.document.Measure.{Measure}
use Rattle.frame_ways.specs.Copies.{copies_of}
use Rattle.window_config.specs.Windows.{ticks_of_ns}

-- a unit's answers at its two edges
abbrev pub compensation_of : Document → Side → Compensation
compensation_of d Ru = record { sending = d.comps.ru_sending; receiving = d.comps.ru_receiving }
compensation_of d Du = record { sending = d.comps.du_sending; receiving = d.comps.du_receiving }

-- a measurement that is begun
abbrev pub begin_of : Measure → Begin
begin_of m = record { side = m.side; id = m.id; kind = m.kind; at = ticks_of_ns m.at }

-- how many ticks the copies of the k-th frame of delay measurement to a unit take
abbrev pub ways_of : Document → Side → ℕ → List ℤ
ways_of d side k = map ticks_of_ns (copies_of d side M k)

-- a document, where these messages of type 5 are received in its other frames
abbrev pub setting_of : Document → (Side → ℤ → List DelayMessage) → Setting
setting_of d others = record { comps = compensation_of d; begins = map begin_of d.measures; delays = ways_of d; others = others }

-- none does
abbrev pub no_others : Side → ℤ → List DelayMessage
no_others side t = []
