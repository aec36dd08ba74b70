-- How far a section is from the two ends of its window (this project's profile).
use Rattle.std.specs.Prelude.{ℤ, pos, ◌+ℤ◌, ◌-ℤ◌, []}
use Rattle.std.specs.Int.{int_div_euclid}
use Rattle.fh_base.specs.declared.nanoseconds.TheConstants.{NANOSECOND}
use Rattle.fh_base.specs.declared.values.Slot.{Slot}
use Rattle.air_source.specs.declared.events.Side.{Side}
use Rattle.air_source.specs.declared.events.Side.TheVariants.{Ru, Du}
use Rattle.window_config.specs.Windows.{command_window_of, data_window_of, ticks_of_ns}
use Rattle.window_config.specs.declared.delays.Delays.{Delays}
use Rattle.window_config.specs.declared.delays.Range.{Range}
use Rattle.unit_model.specs.Blocks.{data_slot, data_start}
use Rattle.unit_model.specs.Commands.{command_start}
use Rattle.unit_model.specs.declared.decoded.ControlSection.{ControlSection}
use Rattle.unit_model.specs.declared.decoded.UserSection.{UserSection}
use Rattle.unit_model.specs.Headings.{data_under}
use Rattle.unit_model.specs.declared.heading.DataHeading.{DataHeading}
use Rattle.explain_model.specs.declared.places.Timing.{Timing}

-- when a window opens and closes for a symbol that starts then, in ticks: before it at the radio unit, after it at the distributed unit
abbrev pub opens : Side → Range → ℤ → ℤ
opens Ru window start = start -ℤ ticks_of_ns window.max
opens Du window start = start +ℤ ticks_of_ns window.min

abbrev pub closes : Side → Range → ℤ → ℤ
closes Ru window start = start -ℤ ticks_of_ns window.min
closes Du window start = start +ℤ ticks_of_ns window.max

-- ticks as whole nanoseconds, rounded down
abbrev pub whole_ns : ℤ → ℤ
whole_ns ticks = int_div_euclid ticks (pos NANOSECOND)

-- of a message whose first and last parts arrived then
abbrev pub timing_by : Side → Range → ℤ → ℤ → ℤ → Timing
timing_by side window first last start = record {
  since = whole_ns (first -ℤ opens side window start);
  until = whole_ns (closes side window start -ℤ last);
}

-- a section of a command goes by the header's symbol
unfoldable pub control_timing : Delays → ControlSection → Timing
control_timing d s = timing_by Ru (command_window_of d s.head.down) s.at.0 s.at.0 (command_start s)

-- ---- a section of data goes by its own

abbrev pub window_at : Side → Delays → Range
window_at Ru d = data_window_of d
window_at Du d = d.ta4

-- a section without its samples has a slot and a start all the same
abbrev pub bare : DataHeading → UserSection
bare h = data_under h []

unfoldable pub heading_slot : DataHeading → Slot
heading_slot h = data_slot (bare h)

unfoldable pub data_timing : Side → Delays → DataHeading → Timing
data_timing side d h = timing_by side (window_at side d) h.first.0 h.last.0 (data_start (bare h))
