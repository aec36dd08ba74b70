-- What a plan claims of the uplink (the fields are those of O-RAN.WG4.CUS, C-plane sections; the plan is this project's profile).
use Rattle.std.specs.Prelude.{◌≡◌, All, List}
use Rattle.window_config.specs.declared.config.Config.{Config}
use Rattle.window_config.specs.declared.plan.PlanLine.{PlanLine}
use Rattle.plan_model.specs.Lines.{planned}
use Rattle.plan_model.specs.Valid.{IsValid}
use Rattle.plan_model.specs.declared.lines.PlannedLine.{PlannedLine}
use Rattle.window_config.specs.Plans.{IsPlanLine}

-- the lines of a valid plan at their endpoints
pub record IsPlanOf (c : Config) (lines : List PlannedLine) : Type 0 where
  pub plan : List PlanLine
  pub ranges : All IsPlanLine plan
  pub valid : IsValid c plan
  pub is : lines ≡ planned c.endpoints plan
