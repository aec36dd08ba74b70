-- The times within which all happens (this project's profile).
use Rattle.std.specs.Prelude.{ℕ, ℤ, pos, ◌+ℤ◌}
use Rattle.fh_base.specs.declared.nanoseconds.TheConstants.{END_OF_TIME}
use Rattle.std.specs.Int.{int_gap}
use Rattle.unit_model.specs.Radiated.{first_clock}

-- 1,100 s in ticks: frames are sent in the first 1,000 s, and what follows from one occurs within seconds
abbrev pub end_of_time : ℤ
end_of_time = pos END_OF_TIME

-- 1,099 s: what is told of frames that land by then is told by the end of time
abbrev pub last_landing : ℤ
last_landing = pos 1688064000000000

-- how many ticks are gone over, from the first clock on
abbrev pub tick_count : ℕ
tick_count = int_gap first_clock (end_of_time +ℤ pos 1)
