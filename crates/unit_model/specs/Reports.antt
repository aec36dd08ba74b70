-- What a list of arrivals, the newest first, leaves a unit (this project's profile).
use Rattle.std.specs.Prelude.{ℤ, List, ◌++◌}
use Rattle.air_source.specs.declared.events.AirCell.{AirCell}
use Rattle.air_source.specs.declared.events.Side.{Side}
use Rattle.air_source.specs.declared.events.Side.TheVariants.{Ru, Du}
use Rattle.fault_counters.specs.declared.kinds.Counter.{Counter}
use Rattle.window_config.specs.declared.config.Config.{Config}
use Rattle.window_config.specs.declared.delays.Delays.{Delays}
use Rattle.window_config.specs.Windows.{ticks_of_ns}
use Rattle.unit_model.specs.Blocks.{timely, data_verdicts}
use Rattle.unit_model.specs.Commands.{accepted, command_verdicts}
use Rattle.unit_model.specs.Counts.{messages_counted, frames_counted, commands_counted, data_counted}
use Rattle.unit_model.specs.Decoding.{data_sections}
use Rattle.unit_model.specs.Meetings.{Arrival, Meeting, meetings, commands}
use Rattle.unit_model.specs.Radiated.{Known, known_of, reported}
use Rattle.unit_model.specs.declared.allocations.Allocation.{Allocation}
use Rattle.unit_model.specs.declared.decoded.ControlSection.{ControlSection}
use Rattle.unit_model.specs.declared.decoded.UserSection.{UserSection}

-- how long a generation of fragments holds, in ticks
abbrev pub hold_of : Side → Delays → ℤ
hold_of Ru d = ticks_of_ns d.hold_dl
hold_of Du d = ticks_of_ns d.hold_ul

-- ---- the decoded sections of some arrivals, the newest first

abbrev pub met : Side → Config → List Arrival → List Meeting
met side c arrivals = meetings side c.endpoints arrivals

abbrev pub commands_of : Side → Config → List Arrival → List ControlSection
commands_of side c arrivals = commands (met side c arrivals)

abbrev pub data_of : Side → Config → List Arrival → List UserSection
data_of side c arrivals = data_sections side (hold_of side c.delays) (met side c arrivals)

-- ---- what they leave

abbrev pub accepted_of : Config → List Arrival → List Allocation
accepted_of c arrivals = accepted c.delays (commands_of Ru c arrivals)

abbrev pub timely_of : Side → Config → List Arrival → List UserSection
timely_of side c arrivals = timely side c.delays (data_of side c arrivals)

-- what the radio unit knows; the distributed unit knows the claims of its own plan
abbrev pub ru_known : Config → List Arrival → Known
ru_known c arrivals = known_of (accepted_of c arrivals) (timely_of Ru c arrivals)

abbrev pub du_known : Config → List Allocation → List Arrival → Known
du_known c planned arrivals = known_of planned (timely_of Du c arrivals)

-- ---- what is counted, and what is reported up to a time

abbrev pub arrivals_counted : Side → Config → List Arrival → List Counter
arrivals_counted side c arrivals =
    frames_counted arrivals ++ (messages_counted side (hold_of side c.delays) (met side c arrivals)
    ++ (commands_counted (command_verdicts c.delays (commands_of side c arrivals)) ++ data_counted (data_verdicts side c.delays (data_of side c arrivals))))

abbrev pub ru_reported : Config → List Arrival → ℤ → List AirCell
ru_reported c arrivals to = reported Ru c.delays c.endpoints (ru_known c arrivals) to

abbrev pub du_reported : Config → List Allocation → List Arrival → ℤ → List AirCell
du_reported c planned arrivals to = reported Du c.delays c.endpoints (du_known c planned arrivals) to
