-- The lines of an explanation are those before its last line, and that.
use Rattle.std.proofs.Common.{◌≡◌, false, List, [], ◌∷◌, ◌++◌, ap, ◌∙◌, append_assoc}
use Rattle.air_source.specs.declared.events.Event.{Event}
use Rattle.explain_model.proofs.Counts.{no_count_lines}
use Rattle.explain_model.specs.Subjects.{Subject, counted_lines, ending, has_count, open_lines, reasons_of}
use Rattle.explain_model.specs.declared.values.ExplainLine.{ExplainLine}
use Rattle.explain_model.specs.declared.values.ExplainLine.TheVariants as line
use Rattle.explain_model.proofs.GrowLemmas.{lines_go_on}
use Rattle.explain_model.specs.Cells.{closed_lines, entries, event_lines, open_run, run_lines}
use Rattle.explain_model.specs.Margins.{margin_lines}
use Rattle.explain_model.specs.Text.{count_lines, first_lines, lines_of, sum_lines}

module _ (first closed run whys margins sums counts last : List ExplainLine) where
  open_group : first ++ ((closed ++ run) ++ (whys ++ (margins ++ (sums ++ ([] ++ last))))) ≡ ((first ++ closed) ++ (run ++ (whys ++ (margins ++ sums)))) ++ last
  open_group = simp append_assoc

  closed_group : first ++ (closed ++ (whys ++ (margins ++ (sums ++ (counts ++ last))))) ≡ (first ++ (closed ++ ((whys ++ (margins ++ sums)) ++ counts))) ++ last
  closed_group = simp append_assoc

-- where a counter was given
pub closed_all : (s : Subject) (events : List Event) → lines_of s.config (reasons_of s events) events ≡ counted_lines s events ++ line.End ∷ []
closed_all s events =
    let r = reasons_of s events in
    closed_group (first_lines s.config) (event_lines s.config events) [] r.whys (margin_lines s.config events) (sum_lines s.config r events) (count_lines events) (line.End ∷ [])

-- where none was given
pub open_all : (s : Subject) (events : List Event) → has_count events ≡ false
    → lines_of s.config (reasons_of s events) events ≡ (open_lines s events ++ ending s events) ++ line.End ∷ []
open_all s events none =
    let c = s.config in
    let r = reasons_of s events in
    ap (λ (ls : List ExplainLine). first_lines c ++ (ls ++ (r.whys ++ (margin_lines c events ++ (sum_lines c r events ++ (count_lines events ++ line.End ∷ [])))))) (lines_go_on.all (entries c events))
    ∙ ap (λ (ls : List ExplainLine). first_lines c ++ ((closed_lines c events ++ run_lines (open_run c events)) ++ (r.whys ++ (margin_lines c events ++ (sum_lines c r events ++ (ls ++ line.End ∷ []))))))
    (no_count_lines events none)
    ∙ open_group (first_lines c) (closed_lines c events) (run_lines (open_run c events)) r.whys (margin_lines c events) (sum_lines c r events) [] (line.End ∷ [])
