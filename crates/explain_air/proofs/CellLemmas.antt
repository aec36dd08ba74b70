-- The runs that are noted of the lines of events are those of the events.
use Rattle.std.proofs.Common.{◌≡◌, List, [], ◌∷◌, ◌++◌, refl, sym, ap, ap₂, subst, ◌∙◌, append-nil}
use Rattle.std.specs.List.{AllByRecursion, flat_map}
use Rattle.std.proofs.lemmas.List.Concat.{flat_map-append}
use Rattle.air_source.specs.declared.events.Event.{Event}
use Rattle.explain_air.specs.Notes.{cells_in}
use Rattle.explain_model.specs.declared.values.ExplainLine.{ExplainLine}
use Rattle.explain_model.specs.declared.values.ExplainLine.TheVariants as line
use Rattle.explain_model.proofs.PieceLemmas as parts
use Rattle.explain_model.specs.Cells.{Entry, Lines, Of, entries, event_lines, lines_in, piece_lines, runs, runs_on}
use Rattle.explain_model.specs.Stories.{told}
use Rattle.explain_model.specs.Seen.{cell_runs, run_of}
use Rattle.explain_model.specs.declared.runs.CellRun.{CellRun}
use Rattle.why_lines.proofs.OtherLemmas.{IsPlain, IsPlainEntry, all_parts, entries_plain}
use Rattle.window_config.specs.declared.config.Config.{Config}

module _ (c : Config) where
  plain_line : (l : ExplainLine) → IsPlain l → cells_in c.endpoints l ≡ []
  plain_line (line.Head a) h = refl
  plain_line (line.Window a b) h = refl
  plain_line (line.Endpoint a) h = refl
  plain_line (line.Frame a b c d e) h = refl
  plain_line (line.Measure a b c) h = refl
  plain_line (line.Other a b c d) h = refl
  plain_line (line.Short a b c d) h = refl
  plain_line (line.Unknown a b) h = refl
  plain_line (line.Command a b) h = refl
  plain_line (line.Control a) h = refl
  plain_line (line.Fragment a b c) h = refl
  plain_line (line.Whole a) h = refl
  plain_line (line.Data a) h = refl
  plain_line (line.Delay a b c d) h = refl
  plain_line (line.Unused a b) h = refl
  plain_line (line.Margin a b c d) h = refl
  plain_line (line.ShownCells a b c) h = refl
  plain_line (line.MissingCells a b c d) h = refl
  plain_line (line.SilentPrbs a b c d) h = refl
  plain_line (line.Count a b c) h = refl
  plain_line line.End h = refl
  plain_line (line.Cells a b d) h = absurd h
  plain_line (line.WhyMissing a b d) h = absurd h
  plain_line (line.WhySilent a b d e) h = absurd h

  plain_cells : (ls : List ExplainLine) → AllByRecursion IsPlain ls → flat_map (cells_in c.endpoints) ls ≡ []
  plain_cells [] h = refl
  plain_cells (l ∷ ls) h = ap₂ (λ (a b : List CellRun). a ++ b) (plain_line l h.0) (plain_cells ls h.1)

  piece_cells : (p : List Entry) → AllByRecursion IsPlainEntry p → flat_map (cells_in c.endpoints) (piece_lines p) ≡ run_of c p
  piece_cells [] h = refl
  piece_cells (Lines ls ∷ rest) h = ap (flat_map (cells_in c.endpoints)) (append-nil ls) ∙ plain_cells ls h.0
  piece_cells (Of a w ∷ rest) h = refl

  pieces_cells : (ps : List (List Entry)) → AllByRecursion (AllByRecursion IsPlainEntry) ps → flat_map (cells_in c.endpoints) (flat_map piece_lines ps) ≡ flat_map (run_of c) ps
  pieces_cells [] h = refl
  pieces_cells (p ∷ ps) h =
      flat_map-append (cells_in c.endpoints) (piece_lines p) (flat_map piece_lines ps)
      ∙ ap₂ (λ (a b : List CellRun). a ++ b) (piece_cells p h.0) (pieces_cells ps h.1)

  pub cells_are_runs : (events : List Event) → flat_map (cells_in c.endpoints) (event_lines c events) ≡ cell_runs c events
  unfolding cell_runs lines_in
  cells_are_runs events =
      pieces_cells (runs c events)
      (all_parts IsPlainEntry (runs c events)
      (subst (AllByRecursion IsPlainEntry) (sym ((parts.runs Entry).pieces_are runs_on (entries c events)).all) (entries_plain c [] (told c events))))
