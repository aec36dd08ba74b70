-- The plan lines that are proposed for free slots: they leave a plan valid, and the grammar reads them (this project's profile).
use Rattle.std.specs.Prelude.{◌≡◌, ◌≢◌, ℕ, ◌<◌, ◌≤◌, ◌^◌, All, List, ◌++◌}
use Rattle.window_config.specs.Configs.{IsConfig}
use Rattle.window_config.specs.declared.config.Config.{Config}
use Rattle.window_config.specs.declared.endpoints.EndpointConfig.{EndpointConfig}
use Rattle.window_config.specs.declared.plan.PlanLine.{PlanLine}
use Rattle.air_source.specs.declared.events.AirCell.{AirCell}
use Rattle.plan_model.specs.Valid.{IsValid}
use Rattle.fh_document.specs.Lines.{line_of, reached}
use Rattle.fh_document.specs.PlanLines.{planned}
use Rattle.fh_document.specs.Steps.{Said}
use Rattle.fh_document.specs.Joined.{spaced}
use Rattle.fh_document.specs.LineWords.{plan_words}
use Rattle.idle_spans.specs.Tables.{AreFrames}
use Rattle.idle_text.specs.Proposed.{proposed}
use Rattle.fh_base.specs.Members.{IsIn}

-- a plan that is valid is so with the proposed lines after it
abbrev pub ProposedAreValid : Type 0
ProposedAreValid =
    (c : Config) (lines : List PlanLine) (first last : ℕ) (cells : List AirCell) (min : ℕ) → IsConfig c → IsValid c lines
    → IsValid c (lines ++ proposed c.endpoints first last cells min lines)

-- after line 1 of a document, where there is no line of a later kind, each is read as the line that it is
abbrev pub ProposedAreRead : Type 0
ProposedAreRead =
    (es : List EndpointConfig) (lines : List PlanLine) (first last : ℕ) (cells : List AirCell) (min : ℕ) → All (λ (e : EndpointConfig). e.id < 2 ^ 16) es → AreFrames first last
    → (r : Said) (n : ℕ) (line : PlanLine) → n ≢ 1 → reached r ≤ 2 → IsIn line (proposed es first last cells min lines) → line_of r n (spaced (plan_words line)) ≡ planned r n line
