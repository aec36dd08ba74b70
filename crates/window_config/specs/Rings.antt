-- Which slots a unit has to hold, and how many places that takes.
use Rattle.std.specs.Prelude.{ℤ, pos, ◌+ℤ◌, ◌-ℤ◌, ◌≤ℤ◌, true, false}
use Rattle.std.specs.Int.{int_max, int_div_euclid}
use Rattle.fh_base.specs.declared.numerology.Numerology.{Numerology}
use Rattle.fh_base.specs.declared.values.Slot.{Slot}
use Rattle.fh_base.specs.Air.{air_of, least_slot_of, span_of}
use Rattle.window_config.specs.declared.delays.Delays.{Delays}
use Rattle.window_config.specs.declared.rings.Reach.{Reach}
use Rattle.window_config.specs.Windows.{ticks_of_ns, data_window_of, command_window_of}

-- the RU hears of a symbol no earlier than the greatest of its windows' maxima, and sends of it no later than Ta3
abbrev pub ru_reach_of : Delays → Reach
ru_reach_of d = record {
  before = int_max (int_max (data_window_of d).max (command_window_of d true).max) (command_window_of d false).max;
  after = d.ta3.max;
}

-- the DU hears of a symbol no earlier than its start, and no later than Ta4
abbrev pub du_reach_of : Delays → Reach
du_reach_of d = record { before = pos 0; after = d.ta4.max }

-- a slot is live from so long before its first symbol to so long after its span; the reach is in nanoseconds, the clock in ticks
pub record IsLive (n : Numerology) (before after clock : ℤ) (slot : Slot) : Type 0 where
  pub begun : (air_of n slot 0 -ℤ ticks_of_ns before) ≤ℤ clock
  pub lasting : clock ≤ℤ (air_of n slot 0 +ℤ pos (span_of n) +ℤ ticks_of_ns after)

-- one more than the shortest slots that fit whole into the time for which a slot is live
abbrev pub ring_slots_of : Numerology → ℤ → ℤ → ℤ
ring_slots_of n before after =
    int_div_euclid (ticks_of_ns before +ℤ pos (span_of n) +ℤ ticks_of_ns after) (pos (least_slot_of n)) +ℤ pos 1
