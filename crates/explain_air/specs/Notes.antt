-- What is noted of lines: the sums that they tell, and the runs of cells.
use Rattle.std.specs.Prelude.{◌≡◌, ℕ, List, [], ◌∷◌, ◌++◌}
use Rattle.std.specs.List.{flat_map}
use Rattle.explain_air.specs.declared.notes.Notes.{Notes}
use Rattle.explain_model.specs.declared.places.PrbRun.{PrbRun}
use Rattle.explain_model.specs.declared.values.CellWord.{CellWord}
use Rattle.explain_model.specs.declared.values.ExplainLine.{ExplainLine}
use Rattle.explain_model.specs.declared.values.ExplainLine.TheVariants as line
use Rattle.explain_model.specs.Seen.{ep_found, shows}
use Rattle.explain_model.specs.declared.runs.CellRun.{CellRun}
use Rattle.why_lines.specs.Sums.{AreSums}
use Rattle.unit_model.specs.Meetings.{find_endpoint}
use Rattle.window_config.specs.declared.endpoints.EndpointConfig.{EndpointConfig}

-- the cells of a line, as they are kept
abbrev pub run_of_line : List EndpointConfig → PrbRun → ℕ → CellWord → CellRun
run_of_line es run mask word = record {
  side = run.side;
  at = run.at;
  id = run.place.id;
  ep = ep_found (find_endpoint es run.place.id);
  slot = run.place.slot;
  symbol = run.place.symbol;
  prb = run.prb;
  count = run.num;
  section = run.section;
  mask = mask;
  shown = shows word;
}

abbrev pub cells_in : List EndpointConfig → ExplainLine → List CellRun
cells_in es (line.Cells run mask word) = run_of_line es run mask word ∷ []
cells_in es _ = []

-- what is noted of these lines
pub record AreNotes (es : List EndpointConfig) (lines : List ExplainLine) (n : Notes) : Type 0 where
  pub endpoints : n.endpoints.items ≡ es
  pub sums : AreSums es lines n.sums
  pub cells : n.cells ≡ flat_map (cells_in es) lines

-- these lines are noted after those that were
pub record HasNoted (old : Notes) (lines : List ExplainLine) (new : Notes) : Type 0 where
  pub endpoints : new.endpoints.items ≡ old.endpoints.items
  pub sums : (es : List EndpointConfig) (before : List ExplainLine) → AreSums es before old.sums → AreSums es (before ++ lines) new.sums
  pub cells : new.cells ≡ old.cells ++ flat_map (cells_in old.endpoints.items) lines
