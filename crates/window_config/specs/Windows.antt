-- The windows at the RU (O-RAN.WG4.CUS, delay management).
use Rattle.std.specs.Prelude.{ℤ, pos, ◌+ℤ◌, ◌*ℤ◌, Bool, if◌then◌else◌}
use Rattle.window_config.specs.declared.delays.Range.{Range}
use Rattle.window_config.specs.declared.delays.Delays.{Delays}
use Rattle.fh_base.specs.declared.nanoseconds.TheConstants.{NANOSECOND}

-- a nanosecond is 1536 ticks
abbrev pub ticks_of_ns : ℤ → ℤ
ticks_of_ns ns = ns *ℤ pos NANOSECOND

-- a downlink command is due earlier than its data by the advance (Tcp_adv_dl)
abbrev pub cp_dl_of : Range → ℤ → Range
cp_dl_of up advance = record { min = up.min +ℤ advance; max = up.max +ℤ advance }

-- T2a of data, and of commands, downlink or uplink
abbrev pub data_window_of : Delays → Range
data_window_of d = d.t2a_up

abbrev pub command_window_of : Delays → Bool → Range
command_window_of d down = if down then cp_dl_of d.t2a_up d.advance else d.t2a_cp_ul
