-- When a message is on time: its first part arrives at `first`, its last at `last`, its symbol starts at `s`, all in ticks. Both
-- ends of a window are inclusive (this project's profile).
use Rattle.std.specs.Prelude.{Bool, ℤ, ◌-ℤ◌, ◌≤ℤ◌, int_lt, if◌then◌else◌}
use Rattle.window_config.specs.declared.delays.Range.{Range}
use Rattle.window_config.specs.declared.verdicts.Class.{Class}
use Rattle.window_config.specs.declared.verdicts.Class.TheVariants.{OnTime, Late, Early}
use Rattle.window_config.specs.Windows.{ticks_of_ns}

-- late goes before early
abbrev pub classified : Bool → Bool → Class
classified is_late is_early = if is_late then Late else if is_early then Early else OnTime

-- at the RU, whose messages are before their symbol: late where the last part is received less than the minimum before it, early
-- where the first part is received more than the maximum before it
abbrev pub class_of : ℤ → ℤ → ℤ → Range → Class
class_of first last s window = classified (int_lt (s -ℤ last) (ticks_of_ns window.min)) (int_lt (ticks_of_ns window.max) (s -ℤ first))

-- at the DU, whose messages are after their symbol: late where the last part is received more than the maximum after it, early where
-- the first part is received less than the minimum after it
abbrev pub class_up_of : ℤ → ℤ → ℤ → Range → Class
class_up_of first last s window = classified (int_lt (ticks_of_ns window.max) (last -ℤ s)) (int_lt (first -ℤ s) (ticks_of_ns window.min))

-- what it is to be on time, at the RU and at the DU
pub record IsOnTime (first last s : ℤ) (window : Range) : Type 0 where
  pub soon_enough : ticks_of_ns window.min ≤ℤ (s -ℤ last)
  pub late_enough : (s -ℤ first) ≤ℤ ticks_of_ns window.max

pub record IsOnTimeUp (first last s : ℤ) (window : Range) : Type 0 where
  pub soon_enough : (last -ℤ s) ≤ℤ ticks_of_ns window.max
  pub late_enough : ticks_of_ns window.min ≤ℤ (first -ℤ s)
