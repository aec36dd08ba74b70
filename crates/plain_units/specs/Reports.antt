-- All that a unit answers to a list of arrivals, the newest first, up to a time (this project's profile).
use Rattle.std.specs.Prelude.{◌≡◌, ℤ, List, [], ◌++◌, reverse}
use Rattle.unit_model.specs.Terms.{Ru, Du, Config}
use Rattle.unit_model.specs.Blocks.{data_verdicts}
use Rattle.unit_model.specs.Commands.{command_verdicts}
use Rattle.unit_model.specs.Counts.{StandAt, cells_counted}
use Rattle.unit_model.specs.Meetings.{Arrival}
use Rattle.unit_model.specs.Uplink.{jobs}
use Rattle.unit_model.specs.declared.allocations.Allocation.{Allocation}
use Rattle.plain_units.specs.declared.report.Report.{Report}
use Rattle.unit_model.specs.Reports.{accepted_of, arrivals_counted, commands_of, data_of, du_reported, ru_reported}

pub record IsRuReport (c : Config) (arrivals : List Arrival) (to : ℤ) (r : Report) : Type 0 where
  pub commands : r.command_verdicts ≡ reverse (command_verdicts c.delays (commands_of Ru c arrivals))
  pub user : r.data_verdicts ≡ reverse (data_verdicts Ru c.delays (data_of Ru c arrivals))
  pub cells : r.cells ≡ ru_reported c arrivals to
  pub jobs : r.jobs ≡ jobs c.endpoints (accepted_of c arrivals) to
  pub counts : StandAt r.counters (arrivals_counted Ru c arrivals ++ cells_counted (ru_reported c arrivals to))

-- commands go to the radio unit alone, so the distributed unit has no verdict on one, and nothing to send for one
pub record IsDuReport (c : Config) (planned : List Allocation) (arrivals : List Arrival) (to : ℤ) (r : Report) : Type 0 where
  pub commands : r.command_verdicts ≡ []
  pub user : r.data_verdicts ≡ reverse (data_verdicts Du c.delays (data_of Du c arrivals))
  pub cells : r.cells ≡ du_reported c planned arrivals to
  pub jobs : r.jobs ≡ []
  pub counts : StandAt r.counters (arrivals_counted Du c arrivals ++ cells_counted (du_reported c planned arrivals to))
