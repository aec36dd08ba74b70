-- What holds of the lines of each entry holds of all lines.
use Rattle.std.proofs.Common.{List, [], ◌∷◌, ◌++◌, length, sym, subst}
use Rattle.std.specs.Prelude.{⊤, Some}
use Rattle.std.specs.List.{AllByRecursion, flat_map}
use Rattle.ecpri_fragments.specs.Pieces.{joined}
use Rattle.air_source.specs.declared.events.Event.{Event}
use Rattle.window_config.specs.declared.config.Config.{Config}
use Rattle.explain_model.specs.declared.values.ExplainLine.{ExplainLine}
use Rattle.explain_model.specs.Cells.{CellRun, Entry, Lines, Of, entries, entries_after, entry_of, event_lines, lines_in, piece_lines, run_from, run_lines, runs_on}
use Rattle.explain_model.specs.Pieces.{pieces}
use Rattle.explain_model.specs.Stories.{Told, told_after, told_of}
use Rattle.explain_model.proofs.PieceLemmas.{are_pieces}
use Rattle.fh_base.proofs.MemberLemmas.{all_join as all_both}
use Rattle.fh_base.proofs.CommonLemmas.{all_left, all_right}

module _ (P : ExplainLine → Type 0) (of_runs : (r : CellRun) → AllByRecursion P (run_lines (Some r))) where
  abbrev pub Holds : Entry → Type 0
  Holds (Lines ls) = AllByRecursion P ls
  Holds (Of a w) = ⊤

  of_piece : (p : List Entry) → AllByRecursion Holds p → AllByRecursion P (piece_lines p)
  of_piece [] h = tt
  of_piece (Lines ls ∷ rest) h = all_both P ls [] h.0 tt
  of_piece (Of a w ∷ rest) h = of_runs (run_from a w (length (Of a w ∷ rest)))

  of_pieces : (ps : List (List Entry)) → AllByRecursion Holds (joined ps) → AllByRecursion P (flat_map piece_lines ps)
  of_pieces [] h = tt
  of_pieces (p ∷ ps) h = all_both P (piece_lines p) (flat_map piece_lines ps) (of_piece p (all_left Holds p (joined ps) h)) (of_pieces ps (all_right Holds p (joined ps) h))

  pub of_lines : (es : List Entry) → AllByRecursion Holds es → AllByRecursion P (lines_in es)
  unfolding lines_in
  of_lines es h = of_pieces (pieces runs_on es) (subst (AllByRecursion Holds) (sym (are_pieces runs_on es).all) h)

  module _ (c : Config) (of_each : (earlier : List Told) (before : List Event) (e : Event) → Holds (entry_of c earlier (told_of c before e))) where
    of_entries : (earlier : List Told) (before es : List Event) → AllByRecursion Holds (entries_after c earlier (told_after c before es))
    unfolding entries_after told_after
    of_entries earlier before [] = tt
    of_entries earlier before (e ∷ es) = (of_each earlier before e, of_entries (earlier ++ told_of c before e ∷ []) (before ++ e ∷ []) es)

    -- what holds of the lines of each event holds of all lines of events
    pub of_events : (events : List Event) → AllByRecursion P (event_lines c events)
    of_events events = of_lines (entries c events) (of_entries [] [] events)
