-- What is kept of a document's plan.
use Rattle.std.proofs.Common.{◌≡◌, ◌<◌, ℕ, List, [], Result, Ok, Err, IfOk, length, refl, sym, ap, ◌∙◌, subst}
use Rattle.std.specs.List.{AllByRecursion}
use Rattle.explain_air.specs.Heard.{HasHeard}
use Rattle.explain_air.specs.Plans.{NumberedLines}
use Rattle.explain_air.specs.declared.kept.Kept.{Kept}
use Rattle.explain_model.specs.Subjects.{Subject}
use Rattle.document_texts.specs.Text.{subject_of}
use Rattle.fh_document.specs.declared.document.Document.{Document}
use Rattle.plan_model.specs.Lines.{planned}
use Rattle.plan_model.specs.declared.lines.PlannedLine.{PlannedLine}
use Rattle.why_lines.proofs.SilentTexts.{are_numbered}
use Rattle.window_config.specs.declared.endpoints.EndpointConfig.{EndpointConfig}
use Rattle.window_config.specs.declared.plan.PlanLine.{PlanLine}

-- its lines, by a list of the endpoints
pub lines_are : (es given : List EndpointConfig) (plan : List PlanLine) (ps : List PlannedLine) → given ≡ es → ps ≡ planned given plan → ps ≡ planned es plan
lines_are es given plan ps same is = is ∙ ap (λ (xs : List EndpointConfig). planned xs plan) same

-- each has a number
pub are_with_numbers : (es : List EndpointConfig) (plan : List PlanLine) (lines numbers : List ℕ) (ps : List PlannedLine) → ps ≡ planned es plan → numbers ≡ lines → length lines ≡ length plan
    → AllByRecursion (λ p. p.index < length numbers) ps
are_with_numbers es plan lines numbers ps is same long =
    subst (λ (xs : List PlannedLine). AllByRecursion (λ p. p.index < length numbers) xs) (sym is) (are_numbered es plan numbers (ap length same ∙ long))

-- what is kept of them is of the document before any event
pub kept_fresh : {E : Type 0} (d : Document) (lines : NumberedLines) (r : Result Kept E) → lines.planned ≡ planned d.config.endpoints d.plan → lines.numbers ≡ d.plan_lines
    → IfOk r (λ k. (s : Subject) → s.config ≡ d.config → lines.planned ≡ planned s.config.endpoints s.plan → lines.numbers ≡ s.numbers → HasHeard s [] k)
    → IfOk r (λ k. HasHeard (subject_of d) [] k)
kept_fresh d lines (Ok k) are numbers made = made (subject_of d) refl are numbers
kept_fresh d lines (Err e) are numbers made = tt
