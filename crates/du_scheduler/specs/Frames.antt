-- A frame that is sent for a plan, as it can be written (this project's means).
use Rattle.std.specs.Prelude.{◌≡◌, ℕ, All, List, map}
use Rattle.window_config.specs.Configs.{IsConfig}
use Rattle.window_config.specs.Plans.{IsPlanLine}
use Rattle.window_config.specs.declared.config.Config.{Config}
use Rattle.window_config.specs.declared.plan.PlanLine.{PlanLine}
use Rattle.plan_model.specs.Lines.{planned}
use Rattle.plan_model.specs.Packs.{parts_of}
use Rattle.plan_model.specs.Sent.{SentFrame, sent}
use Rattle.plan_model.specs.Valid.{IsValid}
use Rattle.plan_model.specs.declared.lines.PlannedLine.{PlannedLine}
use Rattle.du_scheduler.specs.declared.turns.Turn.{Turn}
use Rattle.du_scheduler.specs.Runs.{turn_of}
use Rattle.du_scheduler.specs.Kept.{placed_line}
use Rattle.du_scheduler.specs.declared.kept.PlacedLine.{PlacedLine}
use Rattle.fh_base.specs.Members.{IsIn}

-- the turn of this frame, which is sent for the plan with these lines, where its message has these parts
pub record IsFrameOf (c : Config) (plan : List PlanLine) (f : SentFrame) (lines : List PlannedLine) (parts : List PlacedLine) (turn : Turn) (fragment : ℕ) : Type 0 where
  pub config : IsConfig c
  pub fit : All IsPlanLine plan
  pub valid : IsValid c plan
  pub lines_are : lines ≡ planned c.endpoints plan
  pub there : IsIn f (sent c (planned c.endpoints plan))
  pub turn_is : turn ≡ turn_of f
  pub parts_are : parts ≡ map placed_line (parts_of f.message)
  pub fragment_is : fragment ≡ c.fragment

pub record IsFrame (lines : List PlannedLine) (parts : List PlacedLine) (turn : Turn) (fragment : ℕ) : Type 0 where
  pub c : Config
  pub plan : List PlanLine
  pub f : SentFrame
  pub is : IsFrameOf c plan f lines parts turn fragment
