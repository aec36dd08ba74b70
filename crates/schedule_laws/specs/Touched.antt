-- Which slots the downlink lines of a plan touch (this project's profile).
use Rattle.std.specs.Prelude.{◌≡◌, ℕ, ◌<◌, Bool, true, ◌&&◌, ◌==◌, List}
use Rattle.fh_base.specs.declared.values.Slot.{Slot}
use Rattle.unit_model.specs.Claims.{cell_at, names, same_slot}
use Rattle.plan_model.specs.Lines.{is_down_kind, line_allocation}
use Rattle.plan_model.specs.declared.lines.PlannedLine.{PlannedLine}
use Rattle.fh_base.specs.Members.{IsIn}

-- a downlink line (`idle` lines are for the downlink too) of the endpoint with this index names an element of a cell in the slot
pub record NamesCell (ep : ℕ) (slot : Slot) (p : PlannedLine) : Type 0 where
  pub symbol : ℕ
  pub prb : ℕ
  pub re : ℕ
  pub element : re < 12
  pub named : names (line_allocation p) (cell_at ep true slot symbol prb) re ≡ true

-- one of the lines does
abbrev pub Touches : ℕ → Slot → List PlannedLine → Type 0
Touches ep slot ps = (p : PlannedLine) × IsIn p ps × NamesCell ep slot p

-- a downlink line of the endpoint and the slot: in a valid plan each names a cell
abbrev pub is_touching : ℕ → Slot → PlannedLine → Bool
is_touching ep slot p = (p.ep == ep) && (is_down_kind p.line.kind && same_slot p.line.slot slot)
