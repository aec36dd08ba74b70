-- The axis of times, in nanoseconds before and after the start of the symbol.
use Rattle.std.specs.Prelude.{ℕ, ℤ, pos, ◌+◌, ◌*◌, ◌/◌, ◌-ℤ◌, List, ◌++◌, nat_le, if◌then◌else◌, codes, true}
use Rattle.std.specs.Fmt.{signed_decimal}
use Rattle.line_words.specs.Each.{each}
use Rattle.pictures.specs.Windows.{far_of, near_of, column_of}
use Rattle.pictures.specs.declared.windows.Windows.{Windows}
use Rattle.pictures.specs.Elements.{down_text, text_text}
use Rattle.pictures.specs.declared.texts.Anchor.TheVariants.{Middle}

abbrev pub place_of : Windows → ℤ → ℕ
place_of ws ns = 214 + column_of ws ns

-- from one line to the next
abbrev pub step_of : Windows → ℕ
step_of ws = if nat_le (far_of ws + near_of ws) 1300000 then 100000 else 500000

-- a line and its time
unfoldable pub tick_text : Windows → ℤ → List ℕ
tick_text ws ns = down_text (codes "slot") (place_of ws ns) 76 546 ++ text_text (place_of ws ns) 72 true Middle (signed_decimal ns)

-- how many lines are before the symbol, and after it
abbrev pub before_of : Windows → ℕ
before_of ws = far_of ws / step_of ws

abbrev pub after_of : Windows → ℕ
after_of ws = near_of ws / step_of ws

-- the lines at the multiples of the step, from the earliest on
abbrev pub time_of : Windows → ℕ → ℤ
time_of ws k = pos (k * step_of ws) -ℤ pos (before_of ws * step_of ws)

abbrev pub nth_tick : Windows → ℕ → List ℕ
nth_tick ws k = tick_text ws (time_of ws k)

unfoldable pub ticks_text : Windows → List ℕ
ticks_text ws = each (nth_tick ws) (before_of ws + after_of ws + 1)
