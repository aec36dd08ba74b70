-- A valid plan with more idle lines after it, where no downlink line names a cell of their slots.
use Rattle.std.specs.Prelude.{◌≡◌, ℕ, ◌+◌, true, false, List, [], ◌∷◌, ◌++◌, length, Some}
use Rattle.window_config.specs.declared.config.Config.{Config}
use Rattle.window_config.specs.declared.endpoints.EndpointConfig.{EndpointConfig}
use Rattle.window_config.specs.declared.plan.PlanKind.TheVariants.{Idle}
use Rattle.window_config.specs.declared.plan.PlanLine.{PlanLine}
use Rattle.unit_model.specs.declared.allocations.Allocation.{Allocation}
use Rattle.plan_model.specs.Lines.{line_allocation, planned_at}
use Rattle.plan_model.specs.Valid.{IsValid}
use Rattle.plan_model.specs.Validity.{is_out_of_range, with_line}
use Rattle.plan_model.specs.declared.lines.PlannedLine.{PlannedLine}
use Rattle.fh_base.specs.Members.{IsIn}

-- an idle line may be line k after lines that name these: its endpoint is known, it is in range, and no downlink line before it
-- is of its endpoint and slot
pub record IsFree (es : List EndpointConfig) (earlier : List Allocation) (k : ℕ) (line : PlanLine) : Type 0 where
  pub p : PlannedLine
  pub found : planned_at es k line ≡ Some p
  pub idle : p.line.kind ≡ Idle
  pub inside : is_out_of_range p.endpoint p.line ≡ false
  pub free : (b : Allocation) → IsIn b earlier → b.down ≡ true → b.ep ≡ p.ep → b.slot ≡ p.line.slot → ⊥

abbrev pub AreFree : List EndpointConfig → List Allocation → ℕ → List PlanLine → Type 0
AreFree es earlier k [] = Unit {0}
AreFree es earlier k (line ∷ lines) = (h : IsFree es earlier k line) × AreFree es (line_allocation h.p ∷ earlier) (k + 1) lines

-- what lines name after others, the newest first
abbrev pub with_lines : List EndpointConfig → List Allocation → ℕ → List PlanLine → List Allocation
with_lines es earlier k [] = earlier
with_lines es earlier k (line ∷ lines) = with_lines es (with_line (planned_at es k line) earlier) (k + 1) lines

-- the plan with these lines after it is valid
abbrev pub IdleLinesAreValid : Type 0
IdleLinesAreValid =
    (c : Config) (lines idles : List PlanLine) → IsValid c lines → AreFree c.endpoints (with_lines c.endpoints [] 0 lines) (length lines) idles → IsValid c (lines ++ idles)
