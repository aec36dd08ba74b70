-- When a plan is valid (this project's profile).
use Rattle.std.specs.Prelude.{◌≡◌, ℕ, List, Option, Some, None}
use Rattle.window_config.specs.declared.config.Config.{Config}
use Rattle.window_config.specs.declared.plan.PlanLine.{PlanLine}
use Rattle.fh_base.specs.Lists.{or_else}
use Rattle.plan_model.specs.Dense.{dense}
use Rattle.plan_model.specs.declared.dense.Dense.{Dense}
use Rattle.plan_model.specs.Lines.{planned}
use Rattle.plan_model.specs.Validity.{first_refused}
use Rattle.plan_model.specs.declared.refusals.PlanWhy.{PlanWhy}
use Rattle.plan_model.specs.declared.refusals.PlanWhy.TheVariants.{SequenceDense}

abbrev pub dense_refused : Option Dense → Option (ℕ × PlanWhy)
dense_refused None = None
dense_refused (Some d) = Some (d.line, SequenceDense)

-- the line that is named, by its place, and why: the first that fails a test of its own; where there is none, that of the first
-- dense message
abbrev pub plan_refusal : Config → List PlanLine → Option (ℕ × PlanWhy)
plan_refusal c lines = or_else (first_refused c.endpoints lines) (dense_refused (dense c (planned c.endpoints lines)))

abbrev pub IsValid : Config → List PlanLine → Type 0
IsValid c lines = plan_refusal c lines ≡ None
