-- What the radio unit is to send can be sent as it is (this project's profile).
use Rattle.std.specs.Prelude.{ℤ, List, All}
use Rattle.window_config.specs.declared.config.Config.{Config}
use Rattle.unit_model.specs.Meetings.{Arrival}
use Rattle.unit_model.specs.Proper.{IsTime}
use Rattle.unit_model.specs.ProperJobs.{IsProperJob}
use Rattle.unit_model.specs.Reports.{accepted_of}
use Rattle.unit_model.specs.Standing.{AreInTime}
use Rattle.unit_model.specs.Uplink.{jobs}

-- each message up to a time is proper
abbrev pub JobsAreProper : Type 0
JobsAreProper =
    (c : Config) (clock : ℤ) (arrivals : List Arrival) (to : ℤ) → AreInTime clock arrivals → All (λ a. IsTime a.at) arrivals
    → All (IsProperJob c.endpoints to) (jobs c.endpoints (accepted_of c arrivals) to)
