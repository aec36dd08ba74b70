-- The sums of lines are those of the cells of a replay and of its plan (this project's profile).
use Rattle.std.specs.Prelude.{◌≡◌, ℕ, Bool, true, false, List, [], ◌++◌, filter}
use Rattle.std.specs.List.{flat_map}
use Rattle.air_source.specs.declared.events.Event.{Event}
use Rattle.air_source.specs.declared.events.Side.{Side}
use Rattle.air_source.specs.declared.events.Side.TheVariants.{Ru, Du}
use Rattle.window_config.specs.declared.config.Config.{Config}
use Rattle.window_config.specs.declared.plan.PlanLine.{PlanLine}
use Rattle.explain_model.specs.declared.values.ExplainLine.{ExplainLine}
use Rattle.explain_model.specs.declared.values.ExplainLine.TheVariants as line
use Rattle.explain_model.specs.Cells.{event_lines}
use Rattle.explain_model.specs.Margins.{margin_lines}
use Rattle.explain_model.specs.Text.{count_lines, first_lines, sum_lines, sums_of}
use Rattle.explain_model.specs.Missing.{why_lines}
use Rattle.explain_model.specs.Silent.{silent_lines}
use Rattle.explain_model.specs.Sums.{reasoned}
use Rattle.why_lines.specs.Sums.{sum_text}

-- ---- the lines that count

abbrev pub is_cells : ExplainLine → Bool
is_cells (line.Cells run mask word) = true
is_cells _ = false

abbrev pub is_why_missing : ExplainLine → Bool
is_why_missing (line.WhyMissing run mask reason) = true
is_why_missing _ = false

abbrev pub is_why_silent : ExplainLine → Bool
is_why_silent (line.WhySilent run mask number reason) = true
is_why_silent _ = false

-- among these lines are those of the cells of the events, those that say why cells are missing and those that say why elements of the
-- plan are silent, each in their order; and no other lines of these three kinds
pub record HaveLines (c : Config) (plan : List PlanLine) (numbers : List ℕ) (events : List Event) (ls : List ExplainLine) : Type 0 where
  pub cells : filter is_cells ls ≡ filter is_cells (event_lines c events)
  pub missing : filter is_why_missing ls ≡ why_lines c events
  pub silent : filter is_why_silent ls ≡ silent_lines c plan numbers events

-- no line of these kinds
pub record HaveNone (ls : List ExplainLine) : Type 0 where
  pub cells : filter is_cells ls ≡ []
  pub missing : filter is_why_missing ls ≡ []
  pub silent : filter is_why_silent ls ≡ []

-- the lines of events and of reasons, between others
abbrev pub told_lines : Config → List PlanLine → List ℕ → List Event → List ExplainLine → List ExplainLine → List ExplainLine
told_lines c plan numbers events front back = front ++ (event_lines c events ++ ((reasoned c plan numbers events).whys ++ back))

-- ---- laws

pub record SumsAreOfLines : Type 0 where
  -- the sums of such lines, at each unit
  pub unit : (c : Config) (plan : List PlanLine) (numbers : List ℕ) (events : List Event) (ls : List ExplainLine) (side : Side) → HaveLines c plan numbers events ls
      → sum_text c.endpoints side ls ≡ flat_map (sums_of side (reasoned c plan numbers events) events) c.endpoints
  -- and of both
  pub both : (c : Config) (plan : List PlanLine) (numbers : List ℕ) (events : List Event) (ls : List ExplainLine) → HaveLines c plan numbers events ls
      → sum_text c.endpoints Ru ls ++ sum_text c.endpoints Du ls ≡ sum_lines c (reasoned c plan numbers events) events
  -- the lines of events and then those of reasons are such lines, whatever others are around them
  pub told : (c : Config) (plan : List PlanLine) (numbers : List ℕ) (events : List Event) (front back : List ExplainLine) → HaveNone front → HaveNone back
      → HaveLines c plan numbers events (told_lines c plan numbers events front back)
  -- others are those before the events, those of margins and those of counters
  pub first : (c : Config) → HaveNone (first_lines c)
  pub margins : (c : Config) (events : List Event) → HaveNone (margin_lines c events)
  pub counts : (events : List Event) → HaveNone (count_lines events)
