-- The subframes of a picture, and where times are in it. Times are in ticks from the start of frame 0; a frame has ten subframes.
use Rattle.std.specs.Prelude.{ℕ, ℤ, pos, ◌+◌, ◌*◌, ◌≤◌, ◌-ℤ◌, Bool, ◌&&◌, not, int_lt}
use Rattle.fh_base.specs.declared.symbols.TheConstants.{SUBFRAME}
use Rattle.pictures.specs.Scales.{or_zero, scaled}
use Rattle.pictures.specs.declared.spans.Span.{Span}

-- the words of the command are in their ranges
pub record IsSpan (s : Span) : Type 0 where
  pub frame : s.frame ≤ 99999
  pub subframe : s.subframe ≤ 9
  pub some : 1 ≤ s.count
  pub few : s.count ≤ 10

-- the start of the first subframe
abbrev pub begin_of : Span → ℕ
begin_of s = (10 * s.frame + s.subframe) * SUBFRAME

-- how long the subframes are together
abbrev pub length_of : Span → ℕ
length_of s = s.count * SUBFRAME

-- how long after the start a time is
abbrev pub past : Span → ℤ → ℕ
past s at = or_zero (at -ℤ pos (begin_of s))

-- 1,120 pixels from 118 on are all subframes; what is later is at their end
unfoldable pub x_after : Span → ℕ → ℕ
x_after s ticks = 118 + scaled ticks (length_of s) 1120

abbrev pub x_of : Span → ℤ → ℕ
x_of s at = x_after s (past s at)

-- the time lies in the subframes
abbrev pub is_in : Span → ℤ → Bool
is_in s at = not (int_lt at (pos (begin_of s))) && int_lt at (pos (begin_of s + length_of s))
