-- The lines of what a unit measured and counted.
use Rattle.std.specs.Prelude.{ℕ, ℤ, List, ◌++◌, codes, decimal}
use Rattle.std.specs.Fmt.{signed_decimal}
use Rattle.air_source.specs.declared.events.Side.{Side}
use Rattle.air_source.specs.declared.events.Side.TheVariants.{Ru, Du}
use Rattle.fault_counters.specs.Names.{name_of}
use Rattle.fault_counters.specs.declared.kinds.Counter.{Counter}

-- the name of a unit
abbrev pub side_text : Side → List ℕ
side_text Ru = codes "ru"
side_text Du = codes "du"

-- the line of a measured delay: the arrival that gave it in ticks, the unit, the measurement id and the delay
unfoldable pub delay_text : ℤ → Side → ℕ → ℤ → List ℕ
delay_text at side id value =
    codes "delay " ++ signed_decimal at ++ codes " " ++ side_text side ++ codes " " ++ decimal id ++ codes " " ++ signed_decimal value ++ codes "\n"

-- the line of a counter: the unit, the counter's name and its value, 0 too
unfoldable pub count_text : Side → Counter → ℕ → List ℕ
count_text side counter value = codes "count " ++ side_text side ++ codes " " ++ name_of counter ++ codes " " ++ decimal value ++ codes "\n"
