-- The lines of an explanation as events occur (this project's profile).
use Rattle.std.specs.Prelude.{◌≡◌, ℕ, Bool, true, false, List, [], ◌∷◌, ◌++◌, Option, if◌then◌else◌}
use Rattle.std.specs.List.{list_all, list_any}
use Rattle.air_source.specs.declared.events.Event.{Event}
use Rattle.air_source.specs.declared.events.Event.TheVariants as event
use Rattle.explain_model.specs.declared.values.ExplainLine.{ExplainLine}
use Rattle.explain_model.specs.declared.values.ExplainLine.TheVariants as line
use Rattle.explain_model.specs.Cells.{CellRun, Entry, Lines, Of, closed_lines, closing, entry_of, event_lines, open_run, run_lines}
use Rattle.explain_model.specs.Margins.{margin_lines}
use Rattle.explain_model.specs.Stories.{told, told_of}
use Rattle.explain_model.specs.Text.{Reasoned, count_lines, first_lines, sum_lines}
use Rattle.explain_model.specs.Sums.{reasoned}
use Rattle.window_config.specs.declared.config.Config.{Config}
use Rattle.window_config.specs.declared.plan.PlanLine.{PlanLine}

-- what a text is of beside the events: the configuration, the plan, and the numbers of its lines in the document
pub record Subject : Type 0 where
  pub config : Config
  pub plan : List PlanLine
  pub numbers : List ℕ

abbrev pub reasons_of : Subject → List Event → Reasoned
reasons_of s events = reasoned s.config s.plan s.numbers events

-- ---- the lines that an event adds to those that no further event changes

abbrev pub added_by : Option CellRun → Entry → List ExplainLine
added_by o (Lines ls) = run_lines o ++ ls
added_by o (Of a w) = closing o a w

abbrev pub added : Config → List Event → Event → List ExplainLine
added c events e = added_by (open_run c events) (entry_of c (told c events) (told_of c events e))

-- ---- the lines after the last event

-- those before the counters
abbrev pub reason_lines : Subject → List Event → List ExplainLine
reason_lines s events = (reasons_of s events).whys ++ (margin_lines s.config events ++ sum_lines s.config (reasons_of s events) events)

-- what is between the lines that no further event changes and the counters
abbrev pub ending : Subject → List Event → List ExplainLine
ending s events = run_lines (open_run s.config events) ++ reason_lines s events

-- ---- counters are last

abbrev pub is_count : Event → Bool
is_count (event.Count side counter value) = true
is_count _ = false

abbrev pub has_count : List Event → Bool
has_count events = list_any is_count events

abbrev pub are_counts : List Event → Bool
are_counts events = list_all is_count events

unfoldable pub counts_last : List Event → Bool
counts_last [] = true
counts_last (e ∷ es) = if is_count e then are_counts es else counts_last es

-- ---- the lines so far, without the first

-- before the counters the run of the last cells is open
abbrev pub open_lines : Subject → List Event → List ExplainLine
open_lines s events = first_lines s.config ++ closed_lines s.config events

abbrev pub counted_lines : Subject → List Event → List ExplainLine
counted_lines s events = first_lines s.config ++ (event_lines s.config events ++ (reason_lines s events ++ count_lines events))

-- these lines precede the last of all lines
pub record StandsBefore (lines all : List ExplainLine) : Type 0 where
  pub rest : List ExplainLine
  pub is : all ≡ lines ++ (rest ++ line.End ∷ [])
