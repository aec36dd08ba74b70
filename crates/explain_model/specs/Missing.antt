-- The lines that say why cells are missing (this project's profile).
use Rattle.std.specs.Prelude.{ℕ, ◌+◌, ◌==◌, Bool, not, ◌&&◌, List, [], ◌∷◌, filter, map, length}
use Rattle.std.specs.List.{flat_map}
use Rattle.std.specs.Ordering.{int_eq}
use Rattle.air_source.specs.Units.{same_side}
use Rattle.air_source.specs.declared.events.Event.{Event}
use Rattle.window_config.specs.declared.config.Config.{Config}
use Rattle.unit_model.specs.Claims.{same_slot}
use Rattle.explain_model.specs.declared.places.PrbRun.{PrbRun}
use Rattle.explain_model.specs.declared.reasons.Reason.{Reason}
use Rattle.explain_model.specs.declared.values.ExplainLine.{ExplainLine}
use Rattle.explain_model.specs.declared.values.ExplainLine.TheVariants as line
use Rattle.explain_model.specs.Pieces.{pieces}
use Rattle.explain_model.specs.SilentReasons.{Kept, kept, missing_reason}
use Rattle.explain_model.specs.Same.{same_reason}
use Rattle.explain_model.specs.Seen.{Seen, seen, seen_key}

-- a cell without samples, and why
pub record MissingCell : Type 0 where
  pub cell : Seen
  pub reason : Reason

abbrev pub is_missing : Seen → Bool
is_missing s = not s.shown

abbrev pub missing_cell : Config → Kept → Seen → MissingCell
missing_cell c all s = record { cell = s; reason = missing_reason all (seen_key c s) s.prb }

-- those of these cells, in their order
unfoldable pub missing_cells : Config → Kept → List Seen → List MissingCell
missing_cells c all cells = map (missing_cell c all) (filter is_missing cells)

-- two cells are alike in all but their PRBs and samples
abbrev pub alike : Seen → Seen → Bool
alike a b =
    same_side a.side b.side && (int_eq a.at.0 b.at.0 && ((a.id == b.id) && (same_slot a.slot b.slot
    && ((a.symbol == b.symbol) && ((a.section == b.section) && (a.mask == b.mask))))))

-- the second goes on with a run of the first
abbrev pub goes_on_missing : MissingCell → MissingCell → Bool
goes_on_missing a b = alike a.cell b.cell && (same_reason a.reason b.reason && (a.cell.prb + 1 == b.cell.prb))

abbrev pub seen_run : Seen → ℕ → PrbRun
seen_run s count = record {
  side = s.side;
  at = s.at;
  place = record { id = s.id; slot = s.slot; symbol = s.symbol };
  prb = s.prb;
  num = count;
  section = s.section;
}

abbrev pub missing_line : List MissingCell → List ExplainLine
missing_line [] = []
missing_line (x ∷ xs) = line.WhyMissing (seen_run x.cell (length (x ∷ xs))) x.cell.mask x.reason ∷ []

-- a line for each run
unfoldable pub missing_lines : List MissingCell → List ExplainLine
missing_lines xs = flat_map missing_line (pieces goes_on_missing xs)

abbrev pub missing_of : Config → List Event → List MissingCell
missing_of c events = missing_cells c (kept c events) (seen events)

abbrev pub why_lines : Config → List Event → List ExplainLine
why_lines c events = missing_lines (missing_of c events)
