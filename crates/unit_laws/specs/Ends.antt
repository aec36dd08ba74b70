-- All is told by the end of time.
use Rattle.std.specs.Prelude.{◌≡◌, ℤ, pos, ◌+ℤ◌, ◌≤ℤ◌, List, []}
use Rattle.window_config.specs.Limits.{IsWithinLimits}
use Rattle.window_config.specs.declared.config.Config.{Config}
use Rattle.unit_model.specs.Meetings.{Arrival}
use Rattle.unit_model.specs.Radiated.{symbol_report}
use Rattle.unit_model.specs.Reports.{accepted_of, ru_known, ru_reported}
use Rattle.unit_model.specs.Standing.{AreInTime}
use Rattle.unit_model.specs.Sweeps.{at_tick}
use Rattle.unit_model.specs.Times.{end_of_time, last_landing}
use Rattle.unit_model.specs.Uplink.{jobs, symbol_jobs}
use Rattle.unit_model.specs.Terms.{Ru}

-- where all arrivals were received by a time, no cell and no uplink message is told of a tick that is a second later
abbrev pub NoCellsLater : Type 0
NoCellsLater =
    (c : Config) (clock : ℤ) (arrivals : List Arrival) (tick : ℤ) → IsWithinLimits c.delays → AreInTime clock arrivals
    → (clock +ℤ pos 1536000000000) ≤ℤ tick → at_tick (symbol_report Ru (ru_known c arrivals)) c.endpoints tick ≡ []

abbrev pub NoJobsLater : Type 0
NoJobsLater =
    (c : Config) (clock : ℤ) (arrivals : List Arrival) (tick : ℤ) → IsWithinLimits c.delays → AreInTime clock arrivals
    → (clock +ℤ pos 1536000000000) ≤ℤ tick → at_tick (symbol_jobs (accepted_of c arrivals)) c.endpoints tick ≡ []

-- so what is reported up to the end of time is all that is ever reported, and what is sent up to it is all that is sent
abbrev pub CellsEnd : Type 0
CellsEnd =
    (c : Config) (arrivals : List Arrival) (to : ℤ) → IsWithinLimits c.delays → AreInTime last_landing arrivals → end_of_time ≤ℤ to
    → ru_reported c arrivals to ≡ ru_reported c arrivals end_of_time

abbrev pub JobsEnd : Type 0
JobsEnd =
    (c : Config) (arrivals : List Arrival) (to : ℤ) → IsWithinLimits c.delays → AreInTime last_landing arrivals → end_of_time ≤ℤ to
    → jobs c.endpoints (accepted_of c arrivals) to ≡ jobs c.endpoints (accepted_of c arrivals) end_of_time
