-- Commands, once each: whatever is repeated, reordered or delayed within the bounds.
use Rattle.std.specs.Prelude.{◌≡◌, ◌≢◌, ℕ, ◌<◌, List, ◌∷◌, ◌++◌, map}
use Rattle.air_source.specs.declared.events.Side.TheVariants.{Ru}
use Rattle.window_config.specs.declared.config.Config.{Config}
use Rattle.window_config.specs.declared.delays.Delays.{Delays}
use Rattle.window_config.specs.declared.plan.PlanLine.{PlanLine}
use Rattle.unit_model.specs.Claims.{claim_at}
use Rattle.unit_model.specs.Commands.{accepted, allocation_of as named_by, command_verdict}
use Rattle.unit_model.specs.Meetings.{Arrival}
use Rattle.unit_model.specs.Reports.{accepted_of, commands_of}
use Rattle.unit_model.specs.declared.allocations.Allocation.{Allocation}
use Rattle.unit_model.specs.declared.cells.Cell.{Cell}
use Rattle.unit_model.specs.declared.decoded.ControlSection.{ControlSection}
use Rattle.unit_model.specs.declared.verdicts.CommandVerdict.TheVariants.{Accepted, Repeat}
use Rattle.plan_model.specs.Lines.{line_allocation, planned}
use Rattle.plan_model.specs.declared.lines.PlannedLine.{PlannedLine}
use Rattle.schedule_laws.specs.Premise.{IsCommandFor, Texts, AllArrive}
use Rattle.fh_base.specs.Members.{IsIn}

-- what the lines of a plan name
abbrev pub allocations_of : List PlannedLine → List Allocation
allocations_of ps = map line_allocation ps

-- a command after these carries one line, and is the first that names what the line names, and Accepted, or a further one and Repeat
pub record IsAnsweredOnce (delays : Delays) (ps : List PlannedLine) (d : ControlSection) (earlier : List ControlSection) : Type 0 where
  pub line : PlannedLine
  pub planned_is : IsIn line ps
  pub carries : IsCommandFor line d
  pub names : named_by d ≡ line_allocation line
  pub first : ((x : ControlSection) → IsIn x earlier → named_by x ≢ line_allocation line) → command_verdict delays (accepted delays earlier) d ≡ Accepted
  pub further : (x : ControlSection) → IsIn x earlier → named_by x ≡ line_allocation line → command_verdict delays (accepted delays earlier) d ≡ Repeat

-- a command was received for this line
pub record IsCommanded (p : PlannedLine) (cs : List ControlSection) : Type 0 where
  pub command : ControlSection
  pub came : IsIn command cs
  pub carries : IsCommandFor p command
  pub names : named_by command ≡ line_allocation p

-- Of the commands that were received, the newest first, each is answered so; each line has one, and no two lines name the same; and what
-- is claimed is what the lines name, in each cell, also in those that no line names.
pub record AreCommandedOnce (c : Config) (ps : List PlannedLine) (arrivals : List Arrival) : Type 0 where
  pub answers : (later earlier : List ControlSection) (d : ControlSection) → commands_of Ru c arrivals ≡ later ++ d ∷ earlier → IsAnsweredOnce c.delays ps d earlier
  pub every : (p : PlannedLine) → IsIn p ps → IsCommanded p (commands_of Ru c arrivals)
  pub differ : (p q : PlannedLine) → IsIn p ps → IsIn q ps → line_allocation p ≡ line_allocation q → p ≡ q
  pub claims : (cell : Cell) (re : ℕ) → re < 12 → claim_at (accepted_of c arrivals) cell re ≡ claim_at (allocations_of ps) cell re

abbrev pub EachIsCommandedOnce : Type 0
EachIsCommandedOnce =
    (c : Config) (lines : List PlanLine) (text : Texts) (arrivals : List Arrival) → AllArrive c lines text arrivals
    → AreCommandedOnce c (planned c.endpoints lines) arrivals
