-- Lines of a plan at their endpoints, in their ranges, and those up to the first that is not so placed (this project's means: the
-- other tests of a line need the lines before it).
use Rattle.std.specs.Prelude.{◌≡◌, false, List, ℕ, ◌+◌, if◌then◌else◌, [], ◌∷◌, Option, Some, None, Result, Ok, Err}
use Rattle.window_config.specs.Endpoints.{IsEndpoint}
use Rattle.window_config.specs.Plans.{IsPlanLine}
use Rattle.window_config.specs.declared.endpoints.EndpointConfig.{EndpointConfig}
use Rattle.unit_model.specs.Proper.{IsAt}
use Rattle.plan_model.specs.Validity.{is_out_of_range, refused_at}
use Rattle.plan_model.specs.declared.lines.PlannedLine.{PlannedLine}
use Rattle.window_config.specs.declared.plan.PlanLine.{PlanLine}
use Rattle.plan_model.specs.Lines.{planned_at}
use Rattle.plan_model.specs.declared.refusals.PlanWhy.{PlanWhy}
use Rattle.plan_model.specs.declared.refusals.PlanWhy.TheVariants.{UnknownEndpoint, Range}
use Rattle.fh_base.specs.Members.{IsIn}

-- a line at its endpoint, in its ranges
pub record IsPlaced (es : List EndpointConfig) (p : PlannedLine) : Type 0 where
  pub at : IsAt es p.ep p.endpoint
  pub ranges : IsPlanLine p.line
  pub inside : is_out_of_range p.endpoint p.line ≡ false

-- lines of one endpoint have it whole, and each is in its ranges
pub record ArePlaced (ps : List PlannedLine) : Type 0 where
  pub endpoint : (p : PlannedLine) → IsIn p ps → IsEndpoint p.endpoint
  pub same : (p q : PlannedLine) → IsIn p ps → IsIn q ps → p.ep ≡ q.ep → p.endpoint ≡ q.endpoint
  pub ranges : (p : PlannedLine) → IsIn p ps → IsPlanLine p.line
  pub inside : (p : PlannedLine) → IsIn p ps → is_out_of_range p.endpoint p.line ≡ false

-- the endpoint of lines with this index
abbrev pub HasEndpoint : List PlannedLine → ℕ → EndpointConfig → Type 0
HasEndpoint ps ep e = (p : PlannedLine) → IsIn p ps → p.ep ≡ ep → p.endpoint ≡ e

-- ---- up to the first that is refused by itself

-- why a line is refused by itself
abbrev pub why_alone : Option PlannedLine → Option PlanWhy
why_alone None = Some UnknownEndpoint
why_alone (Some p) = if is_out_of_range p.endpoint p.line then Some Range else None

-- the line at its endpoint, where it is not refused
abbrev pub placing : Option PlannedLine → Result PlannedLine PlanWhy
placing None = Err UnknownEndpoint
placing (Some p) = if is_out_of_range p.endpoint p.line then Err Range else Ok p

-- the lines before the first that is refused by itself, where this is the first of them
abbrev pub placed_on : Option PlannedLine → List PlannedLine → List PlannedLine
placed_on None later = []
placed_on (Some p) later = if is_out_of_range p.endpoint p.line then [] else p ∷ later

unfoldable pub placed_from : List EndpointConfig → ℕ → List PlanLine → List PlannedLine
placed_from es k [] = []
placed_from es k (line ∷ lines) = placed_on (planned_at es k line) (placed_from es (k + 1) lines)

-- and that one, with its reason
unfoldable pub stopped_from : List EndpointConfig → ℕ → List PlanLine → Option (ℕ × PlanWhy)
stopped_from es k [] = None
stopped_from es k (line ∷ lines) = refused_at k (why_alone (planned_at es k line)) (stopped_from es (k + 1) lines)
