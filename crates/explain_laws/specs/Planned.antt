-- Each element of a plan's `dl` line is in use in a cell that the radio unit reported, or is told as silent exactly once (this project's profile).
use Rattle.std.specs.Prelude.{◌≡◌, ℕ, ◌<◌, ◌==◌, ◌&&◌, Bool, true, List, [], ◌∷◌, ◌⊎◌, filter, slice_index}
use Rattle.air_source.specs.declared.events.Event.{Event}
use Rattle.air_source.specs.declared.events.Side.TheVariants.{Ru}
use Rattle.window_config.specs.declared.config.Config.{Config}
use Rattle.window_config.specs.declared.plan.PlanLine.{PlanLine}
use Rattle.unit_model.specs.Claims.{first_prb, in_mask, is_from, prb_count}
use Rattle.plan_model.specs.Lines.{line_allocation, planned}
use Rattle.plan_model.specs.declared.lines.PlannedLine.{PlannedLine}
use Rattle.explain_model.specs.Commanded.{command_reason}
use Rattle.explain_model.specs.SilentReasons.{kept}
use Rattle.explain_model.specs.Seen.{is_heard, seen}
use Rattle.explain_model.specs.Silent.{SilentPrb, SilentSymbol, is_dl, line_elements, silent_in, silent_symbol}
use Rattle.fh_base.specs.Members.{IsIn}

-- what is told of a symbol of a line
abbrev pub told_symbol : Config → List ℕ → List Event → PlannedLine → ℕ → SilentSymbol
told_symbol c numbers events p symbol = silent_symbol (kept c events).commanded (seen events) (slice_index numbers p.index) p symbol

-- it is of this symbol of the line with this place in the plan
abbrev pub is_symbol : ℕ → ℕ → SilentSymbol → Bool
is_symbol index symbol s = (s.planned.index == index) && (s.symbol == symbol)

-- one silent PRB, and no other of its number, has the element in its mask; and its reason is that of all its silent elements
pub record IsToldSilent (c : Config) (events : List Event) (p : PlannedLine) (symbol prb re : ℕ) (prbs : List SilentPrb) : Type 0 where
  pub it : SilentPrb
  pub only : filter (λ x. x.prb == prb) prbs ≡ it ∷ []
  pub has : in_mask it.mask re ≡ true
  pub reason : it.reason ≡ command_reason (kept c events).commanded (line_elements p symbol prb it.mask)

pub record PlanIsTold (c : Config) (plan : List PlanLine) (numbers : List ℕ) (events : List Event) : Type 0 where
  -- each symbol of a `dl` line is told of once
  pub symbols : (p : PlannedLine) (symbol : ℕ) → IsIn p (planned c.endpoints plan) → is_dl p.line.kind ≡ true → is_from p.line.symbol p.line.count symbol ≡ true
      → filter (is_symbol p.index symbol) (silent_in c plan numbers events) ≡ told_symbol c numbers events p symbol ∷ []
  -- there each element of the line is told, if no cell has it
  pub elements : (p : PlannedLine) (symbol prb re : ℕ) → is_from (first_prb (line_allocation p)) (prb_count (line_allocation p)) prb ≡ true → re < 12 → in_mask p.line.mask re ≡ true
      → (is_heard (seen events) Ru p.endpoint.id p.line.slot symbol prb re ≡ true) ⊎ IsToldSilent c events p symbol prb re (told_symbol c numbers events p symbol).prbs

abbrev pub PlansAreTold : Type 0
PlansAreTold = (c : Config) (plan : List PlanLine) (numbers : List ℕ) (events : List Event) → PlanIsTold c plan numbers events
