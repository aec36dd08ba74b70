-- How the report of the intake's cells goes on, cell by cell (this project's profile).
use Rattle.std.specs.Prelude.{◌≡◌, ℕ, ℤ, ◌-◌, ◌≤◌, ◌+ℤ◌, ◌<ℤ◌, ◌≤ℤ◌, List, [], ◌∷◌, ◌++◌, length, map, slice_get, Some}
use Rattle.air_source.specs.declared.events.AirCell.{AirCell}
use Rattle.air_source.specs.declared.events.Event.{Event}
use Rattle.air_source.specs.declared.events.Event.TheVariants.{Cell as Reported}
use Rattle.air_source.specs.declared.events.Side.TheVariants.{Du}
use Rattle.window_config.specs.declared.config.Config.{Config}
use Rattle.unit_model.specs.Radiated.{wait_of}
use Rattle.unit_model.specs.Standing.{History, heard}
use Rattle.unit_model.specs.declared.allocations.Allocation.{Allocation}
use Rattle.unit_model.specs.declared.symbol_start.SymbolStart.{SymbolStart}
use Rattle.du_intake.specs.Calls.{IntakeStandsFor, cursor_in, next_in}
use Rattle.du_intake.specs.Cursors.{HasStillLeft}
use Rattle.du_intake.specs.Rows.{IsRowOf}
use Rattle.du_intake.specs.Symbols.{IsListed, lines_in}
use Rattle.du_intake.specs.Units.{IntakeKeeps, intake_due_of}
use Rattle.du_intake.specs.declared.symbols.PlannedSymbol.{PlannedSymbol}
use Rattle.du_intake.specs.declared.unit.Intake.{Intake}
use Rattle.fh_base.specs.declared.carrier.TheConstants.{CARRIER_PRBS}

-- it stands for some history
pub record IntakeStandsForSome (u : Intake) : Type 0 where
  pub config : Config
  pub planned : List Allocation
  pub history : History
  pub stands : IntakeStandsFor config planned u history

-- an air stopped in a cell: the unit stands for those before it as reported, and the cell is the next to be reported
pub record IntakeStopsAtDue {A : Type 0} (grew : A → List Event → A → Type 0) (stopped : A → Event → A → Type 0) (c : Config) (planned : List Allocation) (h : History) (to : ℤ)
    (new : Intake) (before after : A) : Type 0 where
  pub told : List AirCell
  pub cell : AirCell
  pub rest : List AirCell
  pub is : intake_due_of c planned h to ≡ told ++ cell ∷ rest
  pub stands : IntakeStandsFor c planned new (heard h told)
  pub middle : A
  pub heard_is : grew before (map Reported told) middle
  pub stop : stopped middle (Reported cell) after

-- ---- within a report

-- it stands for a history, and its place is at any PRB of a symbol
pub record Closes (c : Config) (planned : List Allocation) (u : Intake) (h : History) : Type 0 where
  pub kept : IntakeKeeps c planned u.memory u.clock.0 (cursor_in u) h
  pub wait_is : u.wait.0 ≡ wait_of Du c.delays
  pub plan_is : IsListed c planned u.plan
  pub room_is : CARRIER_PRBS ≤ length u.row.items

pub record ClosesSome (u : Intake) : Type 0 where
  pub config : Config
  pub planned : List Allocation
  pub history : History
  pub closes : Closes config planned u history

-- the unit at a PRB of its symbol
abbrev pub at_prb : Intake → ℕ → Intake
at_prb u prb = record {
  memory = u.memory;
  clock = u.clock;
  plan = u.plan;
  row = u.row;
  place = record { symbol = u.place.symbol; prb = prb };
  wait = u.wait;
}

-- the row of claims is that of the unit's symbol
abbrev pub HasClaimed : Intake → Type 0
HasClaimed u = (s : PlannedSymbol) → slice_get u.plan.symbols.items u.place.symbol ≡ Some s → IsRowOf (lines_in u.plan.lines.items s) s.symbol u.row.items

-- all stays but what was counted and the PRB of the place
pub record StaysAt (old new : Intake) : Type 0 where
  pub endpoints : new.memory.endpoints.items ≡ old.memory.endpoints.items
  pub clock : new.clock ≡ old.clock
  pub plan : new.plan ≡ old.plan
  pub row : new.row.items ≡ old.row.items
  pub symbol : new.place.symbol ≡ old.place.symbol
  pub wait : new.wait ≡ old.wait

-- all stays but the row of claims
abbrev pub IsClaimedFrom : Intake → Intake → Type 0
IsClaimedFrom old new = new ≡ (let r : Intake = record { memory = old.memory; clock = old.clock; plan = old.plan; row = new.row; place = old.place; wait = old.wait } in r)

-- the first of what was due was heard, and the rest is due now
pub record IntakeGoesOn {A : Type 0} (grew : A → List Event → A → Type 0) (c : Config) (planned : List Allocation) (h : History) (to : ℤ) (new : Intake) (before after : A) : Type 0 where
  pub told : List AirCell
  pub is : intake_due_of c planned h to ≡ told ++ intake_due_of c planned (heard h told) to
  pub closes : Closes c planned new (heard h told)
  -- a cell is planned from the place on, where its moment was not reached
  pub left : (m : SymbolStart) → next_in new ≡ Some m → to <ℤ (m.start.0 +ℤ new.wait.0) → HasStillLeft planned new.place.prb m
  pub heard_is : grew before (map Reported told) after

-- the symbol of the next cell, whose moment is reached by a time
pub record IsNextDue (u : Intake) (to : ℤ) (m : SymbolStart) : Type 0 where
  pub next : next_in u ≡ Some m
  pub by : (m.start.0 +ℤ u.wait.0) ≤ℤ to

-- the moment of the next cell, if there is one, is after a time
abbrev pub ComesLater : Intake → ℤ → Type 0
ComesLater u to = (m : SymbolStart) → next_in u ≡ Some m → to <ℤ (m.start.0 +ℤ u.wait.0)

-- all that was due was heard, and nothing is due any more
pub record IntakeToldAll {A : Type 0} (grew : A → List Event → A → Type 0) (c : Config) (planned : List Allocation) (h : History) (to : ℤ) (new : Intake) (before after : A) : Type 0 where
  pub stands : IntakeStandsFor c planned new (heard h (intake_due_of c planned h to))
  pub over : intake_due_of c planned (heard h (intake_due_of c planned h to)) to ≡ []
  pub heard_is : grew before (map Reported (intake_due_of c planned h to)) after

-- so many symbols are left
abbrev pub symbols_left : Intake → ℕ
symbols_left u = length u.plan.symbols.items - u.place.symbol
