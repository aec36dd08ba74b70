-- Frames that land at a unit, as time passes: those of a tick, and all that were received before one (this project's profile).
use Rattle.std.specs.Prelude.{ℕ, zero, suc, ℤ, pos, ◌+ℤ◌, List, [], filter}
use Rattle.std.specs.Int.{int_gap}
use Rattle.std.specs.Ordering.{int_eq}
use Rattle.fh_base.specs.Lists.{onto}
use Rattle.unit_model.specs.Meetings.{Arrival}
use Rattle.unit_model.specs.Radiated.{first_clock}
pub use Rattle.unit_model.specs.Times.{end_of_time}

-- of these frames, listed in any order of their times, those that land at a tick, as they are listed
abbrev pub landing_at : List Arrival → ℤ → List Arrival
landing_at landings tick = filter (λ a. int_eq a.at tick) landings

-- those that land in the first n ticks from a unit's first clock on, the newest first
unfoldable pub arrivals_in : List Arrival → ℕ → List Arrival
arrivals_in landings zero = []
arrivals_in landings (suc n) = onto (arrivals_in landings n) (landing_at landings (first_clock +ℤ pos n))

-- those that land before a tick
abbrev pub arrivals_before : List Arrival → ℤ → List Arrival
arrivals_before landings tick = arrivals_in landings (int_gap first_clock tick)

-- all that land
abbrev pub all_arrivals : List Arrival → List Arrival
all_arrivals landings = arrivals_before landings (end_of_time +ℤ pos 1)
