-- The lines of a plan, with their numbers in the document.
use Rattle.std.specs.Prelude.{◌<◌, ℕ, List, length}
use Rattle.std.specs.List.{AllByRecursion}
use Rattle.plan_model.specs.declared.lines.PlannedLine.{PlannedLine}
use Rattle.why_lines.specs.Silent.{IsSilentLine}

pub record NumberedLines : Type 0 where
  pub planned : List PlannedLine
  pub numbers : List ℕ

-- each line can be told as silent, and its place in the plan has a number
pub record AreNumbered (planned : List PlannedLine) (numbers : List ℕ) : Type 0 where
  pub lines : AllByRecursion IsSilentLine planned
  pub numbered : AllByRecursion (λ p. p.index < length numbers) planned
