-- The uplink messages that a radio unit has to send are those of the plan, whatever is repeated, reordered or delayed.
use Rattle.std.specs.Prelude.{◌≡◌, ℤ, List, filter, reverse, IsPermutation}
use Rattle.window_config.specs.Relations.{PassesCheck}
use Rattle.window_config.specs.declared.config.Config.{Config}
use Rattle.window_config.specs.declared.plan.PlanLine.{PlanLine}
use Rattle.unit_model.specs.Commands.{is_uplink as is_sent_up}
use Rattle.unit_model.specs.Meetings.{Arrival}
use Rattle.unit_model.specs.Reports.{accepted_of}
use Rattle.unit_model.specs.Uplink.{jobs}
use Rattle.plan_model.specs.Lines.{planned, uplink_allocations}
use Rattle.plan_model.specs.declared.lines.PlannedLine.{PlannedLine}
use Rattle.schedule_laws.specs.Commands.{allocations_of}
use Rattle.sent_frames.specs.Messages.{Source}
use Rattle.uplink_laws.specs.Sent.{IsSendable}
use Rattle.uplink_laws.specs.Premise.{CommandsArrive}

-- The uplink sections of types 1 and 3 that were accepted are what the uplink lines name, each once; and the jobs up to any time are
-- those of the lines, as equal lists, as if their commands had been accepted in the order of lines.
pub record AreJobsOfPlan (c : Config) (ps : List PlannedLine) (down : List Arrival) : Type 0 where
  pub accepted : IsPermutation (uplink_allocations ps) (filter is_sent_up (accepted_of c down))
  pub jobs_are : (to : ℤ) → jobs c.endpoints (accepted_of c down) to ≡ jobs c.endpoints (reverse (allocations_of ps)) to

abbrev pub JobsAreOfPlan : Type 0
JobsAreOfPlan =
    (c : Config) (lines : List PlanLine) (source : Source) (down : List Arrival) → IsSendable c lines source → PassesCheck c.delays
    → CommandsArrive c (planned c.endpoints lines) source down → AreJobsOfPlan c (planned c.endpoints lines) down
