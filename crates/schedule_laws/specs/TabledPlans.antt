-- A plan that can be sent (this project's profile).
use Rattle.std.specs.Prelude.{◌≡◌, ◌≤◌, List, length, All}
use Rattle.window_config.specs.Plans.{IsPlanLine}
use Rattle.window_config.specs.declared.config.Config.{Config}
use Rattle.window_config.specs.declared.plan.PlanLine.{PlanLine}
use Rattle.plan_model.specs.Lines.{planned}
use Rattle.plan_model.specs.Valid.{IsValid}
use Rattle.plan_model.specs.declared.lines.PlannedLine.{PlannedLine}
use Rattle.window_config.specs.declared.plan.TheConstants.{PLAN_LINES}

-- these are the lines of a valid plan, at their endpoints; it has no more than a document may have
pub record IsTabledPlan (c : Config) (ps : List PlannedLine) : Type 0 where
  pub lines : List PlanLine
  pub fit : All IsPlanLine lines
  pub valid : IsValid c lines
  pub few : length lines ≤ PLAN_LINES
  pub is : ps ≡ planned c.endpoints lines
