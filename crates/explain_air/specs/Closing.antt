-- What is told after the last event (this project's profile).
use Rattle.std.specs.Prelude.{◌≡◌, List, ◌++◌}
use Rattle.air_source.specs.declared.events.Event.{Event}
use Rattle.air_source.specs.declared.events.Side.TheVariants.{Ru, Du}
use Rattle.explain_air.specs.Notes.{AreNotes}
use Rattle.explain_air.specs.Plans.{NumberedLines}
use Rattle.explain_air.specs.declared.notes.Notes.{Notes}
use Rattle.explain_model.specs.Subjects.{Subject}
use Rattle.explain_model.specs.Cells.{event_lines}
use Rattle.explain_model.specs.Stories.{stories}
use Rattle.explain_model.specs.SilentReasons.{Kept as Records, kept}
use Rattle.explain_model.specs.Seen.{cell_runs}
use Rattle.explain_model.specs.declared.values.ExplainLine.{ExplainLine}
use Rattle.explain_model.specs.Silent.{silent_lines}
use Rattle.explain_model.specs.Unused.{unused_lines}
use Rattle.explain_records.specs.Stored.{SameBySymbol}
use Rattle.explain_units.specs.Units.{IsUnitAfter}
use Rattle.explain_units.specs.declared.units.UnitLines.{UnitLines}
use Rattle.explain_records.specs.Records.{HaveHeard}
use Rattle.explain_records.specs.declared.heard_records.HeardRecords.{HeardRecords}
use Rattle.plan_model.specs.Lines.{planned}
use Rattle.explain_model.specs.declared.runs.CellRun.{CellRun}
use Rattle.why_lines.specs.Sums.{AreSums}
use Rattle.window_config.specs.Configs.{IsConfig}
use Rattle.window_config.specs.declared.endpoints.EndpointConfig.{EndpointConfig}

-- the records, the runs of cells and the plan are those of these events
pub record AreOf (s : Subject) (events : List Event) (endpoints : List EndpointConfig) (ordered : Records) (cells : List CellRun) (plan : NumberedLines) : Type 0 where
  pub config : IsConfig s.config
  pub endpoints_are : endpoints ≡ s.config.endpoints
  pub records : SameBySymbol (kept s.config events) ordered
  pub runs : cells ≡ cell_runs s.config events
  pub planned_are : plan.planned ≡ planned s.config.endpoints s.plan
  pub numbers_are : plan.numbers ≡ s.numbers

-- the lines after those of missing cells
abbrev pub rest_of : Subject → List Event → List ExplainLine
rest_of s events = silent_lines s.config s.plan s.numbers events ++ unused_lines s.config events

-- and both units and the sums are those of them
pub record IsEnding (s : Subject) (events : List Event) (endpoints : List EndpointConfig) (ordered : Records) (cells : List CellRun) (plan : NumberedLines) (u d : UnitLines) (n : Notes) : Type 0 where
  pub of : AreOf s events endpoints ordered cells plan
  pub ru : IsUnitAfter Ru s.config events u
  pub du : IsUnitAfter Du s.config events d
  pub sums : AreSums s.config.endpoints (event_lines s.config events) n.sums

-- the same before the records are sorted
pub record IsLast (s : Subject) (events : List Event) (u d : UnitLines) (n : Notes) (r : HeardRecords) (plan : NumberedLines) : Type 0 where
  pub config : IsConfig s.config
  pub ru : IsUnitAfter Ru s.config events u
  pub du : IsUnitAfter Du s.config events d
  pub notes : AreNotes s.config.endpoints (event_lines s.config events) n
  pub records : HaveHeard s.config (stories s.config events) r
  pub planned_are : plan.planned ≡ planned s.config.endpoints s.plan
  pub numbers_are : plan.numbers ≡ s.numbers
