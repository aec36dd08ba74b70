-- How the lines of an explanation grow.
use Rattle.std.specs.Prelude.{◌≡◌, ℕ, true, List, [], ◌∷◌, ◌++◌, false}
use Rattle.air_source.specs.declared.events.Event.{Event}
use Rattle.air_source.specs.declared.events.Event.TheVariants as event
use Rattle.air_source.specs.declared.events.Side.{Side}
use Rattle.explain_model.specs.Subjects.{StandsBefore, Subject, added, are_counts, counted_lines, ending, open_lines, reasons_of, has_count}
use Rattle.explain_model.specs.declared.values.ExplainLine.TheVariants as line
use Rattle.explain_model.specs.Text.{lines_of}
use Rattle.fault_counters.specs.declared.kinds.Counter.{Counter}

pub record LinesGrow : Type 0 where
  -- an event adds its lines after those that no further event changes
  pub one : (s : Subject) (events : List Event) (e : Event) → open_lines s (events ++ e ∷ []) ≡ open_lines s events ++ added s.config events e
  -- the first counter ends them, and each has its line
  pub first_count : (s : Subject) (events : List Event) (side : Side) (k : Counter) (value : ℕ) → has_count events ≡ false
      → counted_lines s (events ++ event.Count side k value ∷ []) ≡ (open_lines s events ++ ending s events) ++ line.Count side k value ∷ []
  pub next_count : (s : Subject) (events : List Event) (side : Side) (k : Counter) (value : ℕ)
      → counted_lines s (events ++ event.Count side k value ∷ []) ≡ counted_lines s events ++ line.Count side k value ∷ []
  -- they are the front of the complete text
  pub going_on : (s : Subject) (xs ys : List Event) → StandsBefore (open_lines s xs) (lines_of s.config (reasons_of s (xs ++ ys)) (xs ++ ys))
  pub counted : (s : Subject) (xs ys : List Event) → are_counts ys ≡ true → StandsBefore (counted_lines s xs) (lines_of s.config (reasons_of s (xs ++ ys)) (xs ++ ys))
