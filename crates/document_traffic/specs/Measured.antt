-- The frames of delay measurement, and what both units measure in a document's replay (eCPRI 2.0, section 3.2.4.6; this project's
-- profile). Times are ticks. What is sent of the classes c and u does not rest on delay measurement, and class m rests on what was
-- received before, so it is told tick by tick.
use Rattle.std.specs.Prelude.{ℤ, List, filter}
use Rattle.std.specs.List.{flat_map}
use Rattle.std.specs.Ordering.{int_eq}
use Rattle.air_source.specs.declared.events.Side.{Side}
use Rattle.delay_laws.specs.Ticks.{Flight, State, state}
use Rattle.delay_measure.specs.declared.message.DelayMessage.{DelayMessage}
unfoldable pub use Rattle.delay_model.specs.Frames.{delay_frame}
pub use Rattle.delay_model.specs.Frames.{delay_messages, delays_of, has_only_delays, header_fields, payload_fields, read_as}
use Rattle.document_traffic.specs.Settings.{setting_of}
use Rattle.document_traffic.specs.Landing.{injected_to}
use Rattle.fh_document.specs.declared.document.Document.{Document}
use Rattle.replay_laws.specs.Moments.{landing_at}
use Rattle.unit_model.specs.Radiated.{first_clock}
use Rattle.unit_model.specs.Times.{tick_count}

-- ---- what both units measure

-- the messages of delay measurement in the frames that the document injects to a unit at a tick
abbrev pub others_of : Document → Side → ℤ → List DelayMessage
others_of d side t = flat_map (λ a. delay_messages a.frame) (landing_at (injected_to side d) t)

-- all that both units were told of delay measurement, and all that was sent to each
abbrev pub exchanges : Document → State
exchanges d = state (setting_of d (others_of d)) first_clock tick_count

-- those of these frames that leave at a tick
abbrev pub flights_then : List Flight → ℤ → List Flight
flights_then fs t = filter (λ f. int_eq f.at t) fs
