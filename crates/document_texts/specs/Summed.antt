-- What is combined of the units of a shared cell, and what of units that nothing disturbs (this project's profile).
use Rattle.std.specs.Prelude.{◌≡◌, ℕ, zero, suc, ◌-◌, ◌<◌, List, [], ◌++◌, map}
use Rattle.std.specs.List.{AllByRecursion, range_with_len}
use Rattle.air_source.specs.declared.events.AirCell.{AirCell}
use Rattle.document_traffic.specs.Sending.{lines_of}
use Rattle.document_traffic.specs.Undisturbed.{IsUndisturbedBothWays, answers_for}
use Rattle.fh_document.specs.declared.document.Document.{Document}
use Rattle.shared_laws.specs.Layers.{first_layer, layered}
use Rattle.replay_laws.specs.Moments.{end_of_time}
use Rattle.shared_cell.specs.Combined.{combined}
use Rattle.document_texts.specs.Shared.{unit_cells, units_cells}
use Rattle.document_texts.specs.Units.{unit_of}
use Rattle.uplink_laws.specs.Cells.{taken_air}

-- the uplink cells of the plan with what compression leaves of the samples of a unit's antenna: none is missing
abbrev pub planned_cells : Document → ℕ → ℕ → List AirCell
planned_cells d step unit = taken_air d.config (answers_for (unit_of d unit step)) (lines_of d) end_of_time

-- those of the first n units, one unit after the other
unfoldable pub all_planned : Document → ℕ → ℕ → List AirCell
all_planned d step zero = []
all_planned d step (suc n) = all_planned d step n ++ planned_cells d step n

-- the uplink cells of the units after the first
abbrev pub further_cells : Document → ℕ → ℕ → List (List AirCell)
further_cells d step count = map (unit_cells d step) (range_with_len 1 (count - 1))

-- each unit takes in the plan's uplink cells with the samples of its own antenna, so the sums are those of these samples, and each
-- combined cell counts every unit
pub record IsSum (d : Document) (count step : ℕ) : Type 0 where
  pub planned : units_cells d step count ≡ all_planned d step count
  pub counted : AllByRecursion (λ m. m.units ≡ count) (combined (units_cells d step count))

-- the combined cells are the first unit's, in the order of its report, and on each the cells of the further units with its number are
-- added up; and where nothing disturbs any unit, they are the sums of all
pub record IsSummed (d : Document) (count step : ℕ) : Type 0 where
  pub layers : combined (units_cells d step count) ≡ layered (further_cells d step count) (first_layer (unit_cells d step 0))
  pub sum : ((unit : ℕ) → unit < count → IsUndisturbedBothWays (unit_of d unit step)) → IsSum d count step
