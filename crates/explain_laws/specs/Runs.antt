-- Runs of cells are maximal, and the text of the faults is the text of all lines without some (this project's profile).
use Rattle.std.specs.Prelude.{◌≡◌, true, false, List, ◌∷◌, filter}
use Rattle.std.specs.List.{flat_map}
use Rattle.air_source.specs.declared.events.Event.{Event}
use Rattle.window_config.specs.declared.config.Config.{Config}
use Rattle.explain_model.specs.Faults.{is_fault}
use Rattle.explain_model.specs.Lines.{lines_text}
use Rattle.explain_model.specs.declared.values.ExplainLine.TheVariants as line
use Rattle.explain_model.specs.Cells.{entries, event_lines, piece_lines, runs, runs_on}
use Rattle.explain_model.specs.Pieces.{ArePiecesOf}
use Rattle.explain_model.specs.Text.{Reasoned, explain_of, lines_of}

-- the lines of events are those of maximal pieces: each cell of a piece but the first is the next one of the cell before it, and the first
-- entry of a piece is not the next one of the last before it
pub record RunsAreMaximal (c : Config) (events : List Event) : Type 0 where
  pub pieces : ArePiecesOf runs_on (entries c events) (runs c events)
  pub lines : event_lines c events ≡ flat_map piece_lines (runs c events)

-- one list of lines makes both texts, and the lines before it differ
pub record FaultsAreOfAll (c : Config) (r : Reasoned) (events : List Event) : Type 0 where
  pub all : explain_of false c r events ≡ lines_text (line.Head false ∷ lines_of c r events)
  pub faults : explain_of true c r events ≡ lines_text (line.Head true ∷ filter is_fault (lines_of c r events))

pub record LinesAreKept : Type 0 where
  pub maximal : (c : Config) (events : List Event) → RunsAreMaximal c events
  pub kept : (c : Config) (r : Reasoned) (events : List Event) → FaultsAreOfAll c r events
