-- When frames leave (O-RAN.WG4.CUS, delay management: T1a of each stream of the distributed unit, Ta3 of uplink data; the gap
-- between frames is this project's profile). All in ticks.
use Rattle.std.specs.Prelude.{ℕ, ℤ, pos, neg_ℤ, ◌+◌, ◌*◌, ◌+ℤ◌, min}
use Rattle.std.specs.Int.{int_gap}
use Rattle.fh_base.specs.Air.{air_of}
use Rattle.window_config.specs.Windows.{ticks_of_ns, cp_dl_of}
use Rattle.window_config.specs.declared.config.Config.{Config}
use Rattle.window_config.specs.declared.delays.Delays.{Delays}
use Rattle.window_config.specs.declared.delays.Range.{Range}
use Rattle.plan_model.specs.Packs.{Numbered}
use Rattle.plan_model.specs.Streams.{Part}
use Rattle.plan_model.specs.declared.departures.Departures.{Departures}
use Rattle.plan_model.specs.declared.streams.Stream.{Stream}
use Rattle.plan_model.specs.declared.streams.Stream.TheVariants.{DownCommands, UpCommands, DownData, UpData}

-- when the i-th frame of a symbol with this start leaves, counted from 0: each a gap after the one before it, but none later than
-- the spread after the first
abbrev pub departure : Departures → ℤ → ℕ → ℤ
departure d start i = (start +ℤ d.from.0) +ℤ pos (min (i * d.gap) d.spread)

-- T1a and Ta3, in nanoseconds; a downlink command is sent earlier than data by the advance
abbrev pub sending_window : Delays → Stream → Range
sending_window d DownCommands = cp_dl_of d.t1a_up d.advance
sending_window d UpCommands = d.t1a_cp_ul
sending_window d DownData = d.t1a_up
sending_window d UpData = d.ta3

-- the distributed unit's frames leave from T1a's maximum before the symbol on, the radio unit's from Ta3's minimum after it
abbrev pub sending_from : Delays → Stream → ℤ
sending_from d DownCommands = neg_ℤ (ticks_of_ns (sending_window d DownCommands).max)
sending_from d UpCommands = neg_ℤ (ticks_of_ns (sending_window d UpCommands).max)
sending_from d DownData = neg_ℤ (ticks_of_ns (sending_window d DownData).max)
sending_from d UpData = ticks_of_ns (sending_window d UpData).min

abbrev pub width_of : Range → ℕ
width_of r = int_gap (ticks_of_ns r.min) (ticks_of_ns r.max)

abbrev pub departures_of : Config → Stream → Departures
departures_of c stream = record {
  from = record { 0 = sending_from c.delays stream };
  gap = int_gap (pos 0) (ticks_of_ns c.gap);
  spread = width_of (sending_window c.delays stream);
}

-- when the symbol of a part starts
abbrev pub start_of_part : Part → ℤ
start_of_part p = air_of p.planned.endpoint.numerology p.planned.line.slot p.symbol

-- when frame `sub` of a message leaves
abbrev pub sent_at : Config → Stream → Numbered Part → ℕ → ℤ
sent_at c stream n sub = departure (departures_of c stream) (start_of_part n.message.first) (n.before + sub)
