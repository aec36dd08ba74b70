-- How far a sink took some lines.
use Rattle.std.specs.Prelude.{◌≡◌, List, ◌∷◌, ◌++◌}
use Rattle.explain_model.specs.declared.values.ExplainLine.{ExplainLine}

-- the sink took the lines before one of these, and stopped in that one
pub record StopsInLine {A : Type 0} (grew : A → List ExplainLine → A → Type 0) (stopped : A → ExplainLine → A → Type 0) (lines : List ExplainLine) (old new : A) : Type 0 where
  pub before : List ExplainLine
  pub line : ExplainLine
  pub after : List ExplainLine
  pub is : lines ≡ before ++ line ∷ after
  pub middle : A
  pub heard : grew old before middle
  pub stop : stopped middle line new

-- the sink took the first of these lines, and then no more: its caller may want memory too
pub record StopsBetween {A : Type 0} (grew : A → List ExplainLine → A → Type 0) (lines : List ExplainLine) (old new : A) : Type 0 where
  pub before : List ExplainLine
  pub after : List ExplainLine
  pub is : lines ≡ before ++ after
  pub heard : grew old before new

-- it did so, or it stopped in one of them
pub data StopsSome {A : Type 0} (grew : A → List ExplainLine → A → Type 0) (stopped : A → ExplainLine → A → Type 0) (lines : List ExplainLine) (old new : A) : Type 0 where
  Between : StopsBetween grew lines old new → StopsSome grew stopped lines old new
  Within : StopsInLine grew stopped lines old new → StopsSome grew stopped lines old new
