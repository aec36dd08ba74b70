-- The least time at which something is otherwise than before, as a search finds it.
use Rattle.std.specs.Prelude.{ℤ, ◌<ℤ◌, Option, Some, None, if◌then◌else◌, int_lt}
use Rattle.fh_base.specs.declared.values.Ticks.{Ticks}

pub record IsLeast (left : ℤ → Type 0) (t : ℤ) : Type 0 where
  pub before : (to : ℤ) → to <ℤ t → left to
  pub at : left t → ⊥

-- of a time, where there is one
abbrev pub IsLeastOf : (ℤ → Type 0) → Option Ticks → Type 0
IsLeastOf left None = (to : ℤ) → left to
IsLeastOf left (Some t) = IsLeast left t.0

-- the earlier one of two times
abbrev pub earlier_time : Option Ticks → Option Ticks → Option Ticks
earlier_time None b = b
earlier_time (Some a) None = Some a
earlier_time (Some a) (Some b) = if int_lt b.0 a.0 then Some b else Some a
