-- The terms in which units are spoken of, for the crates above: times, messages, units, windows and counters.

-- times
pub use Rattle.fh_base.specs.declared.values.Slot.{Slot}
pub use Rattle.fh_base.specs.declared.values.Ticks.{Ticks}
pub use Rattle.fh_base.specs.declared.numerology.Numerology.{Numerology}
pub use Rattle.fh_base.specs.Numbering.{slots_of, symbols_of}
pub use Rattle.fh_base.specs.Air.{air_of}
-- messages
pub use Rattle.ecpri_frames.specs.declared.heads.Head.{Head}
pub use Rattle.ecpri_fragments.specs.declared.sequence.SeqField.{SeqField}
pub use Rattle.ecpri_fragments.specs.declared.place.TheConstants.{MESSAGE_BYTES}
pub use Rattle.ecpri_fragments.specs.Generations.{Fragment}
pub use Rattle.ecpri_fragments.specs.Pieces.{joined, piece_count}
pub use Rattle.cplane_sections.specs.declared.values.CHead.{CHead}
pub use Rattle.cplane_sections.specs.declared.values.CSection.{CSection}
pub use Rattle.uplane_sections.specs.declared.values.UHead.{UHead}
pub use Rattle.uplane_sections.specs.declared.values.USection.{USection}
pub use Rattle.uplane_sections.specs.declared.values.URefusal.{URefusal}
pub use Rattle.uplane_sections.specs.declared.steps.UFeed.{UFeed}
-- units
pub use Rattle.air_source.specs.declared.events.Side.{Side}
pub use Rattle.air_source.specs.declared.events.Side.TheVariants.{Ru, Du}
pub use Rattle.air_source.specs.declared.events.AirCell.{AirCell}
pub use Rattle.air_source.specs.Units.{is_down, other, same_side, way_text}
-- windows
pub use Rattle.window_config.specs.declared.config.Config.{Config}
pub use Rattle.window_config.specs.declared.delays.Delays.{Delays}
pub use Rattle.window_config.specs.declared.delays.Range.{Range}
pub use Rattle.window_config.specs.declared.endpoints.EndpointConfig.{EndpointConfig}
pub use Rattle.window_config.specs.declared.verdicts.Class.{Class}
pub use Rattle.window_config.specs.Configs.{IsConfig}
pub use Rattle.window_config.specs.Limits.{IsWithinLimits}
pub use Rattle.window_config.specs.Windows.{ticks_of_ns}
-- counters
pub use Rattle.fault_counters.specs.declared.kinds.Counter.{Counter}
