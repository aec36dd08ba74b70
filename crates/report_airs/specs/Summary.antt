-- The summary of the events of a replay, over the whole list of them (this project's profile).
use Rattle.std.specs.Prelude.{ℕ, ℤ, ◌&&◌, Bool, List, [], ◌∷◌, ◌++◌, codes, nat_lt, if◌then◌else◌}
use Rattle.std.specs.List.{flat_map}
use Rattle.circular_buffer.specs.Buffer.{keep_last}
use Rattle.air_source.specs.declared.events.AirCell.{AirCell}
use Rattle.air_source.specs.declared.events.Event.{Event}
use Rattle.air_source.specs.declared.events.Event.TheVariants.{Cell, Delay, Arrival, Count}
use Rattle.air_source.specs.declared.events.Side.{Side}
use Rattle.air_source.specs.declared.events.Side.TheVariants.{Ru, Du}
use Rattle.air_source.specs.UnitLines.{count_text}
use Rattle.report_airs.specs.Lines.{sum_line}
use Rattle.report_airs.specs.Places.{place_of, same_place}
use Rattle.report_airs.specs.Results.{delays_text}
use Rattle.report_airs.specs.Totals.{run_totals}
use Rattle.air_source.specs.Units.{same_side}

-- ---- the cells, and the runs that they are cut into

abbrev pub cell_in : Event → List AirCell
cell_in (Cell c) = c ∷ []
cell_in (Delay at side id value) = []
cell_in (Arrival side at frame) = []
cell_in (Count side counter value) = []

-- the cells among some events, in order
abbrev pub cells_in : List Event → List AirCell
cells_in events = flat_map cell_in events

-- a cell goes on the run of the cell before it where both are of one symbol and its PRB is greater
abbrev pub follows : AirCell → AirCell → Bool
follows before c = nat_lt before.prb c.prb && same_place (place_of before) (place_of c)

-- a cell before some runs: it goes before the first of them, or is a run of its own
abbrev pub joined : AirCell → List (List AirCell) → List (List AirCell)
joined c [] = (c ∷ []) ∷ []
joined c ([] ∷ runs) = (c ∷ []) ∷ runs
joined c ((d ∷ run) ∷ runs) = if follows c d then (c ∷ d ∷ run) ∷ runs else (c ∷ []) ∷ (d ∷ run) ∷ runs

-- the runs of some cells
unfoldable pub runs_of : List AirCell → List (List AirCell)
runs_of [] = []
runs_of (c ∷ cells) = joined c (runs_of cells)

-- the line of a run
abbrev pub run_text : List AirCell → List ℕ
run_text [] = []
run_text (c ∷ run) = sum_line (place_of c) (run_totals (c ∷ run))

-- the lines of the cells
abbrev pub cells_text : List AirCell → List ℕ
cells_text cells = flat_map run_text (runs_of cells)

-- ---- the results and the counters

abbrev pub result_in : Side → Event → List ℤ
result_in unit (Delay at side id value) = if same_side unit side then value ∷ [] else []
result_in unit (Cell c) = []
result_in unit (Arrival side at frame) = []
result_in unit (Count side counter value) = []

-- what a unit measured, in order
abbrev pub results_in : Side → List Event → List ℤ
results_in unit events = flat_map (result_in unit) events

-- the lines of delays, each of the last 16 results
abbrev pub measured_text : List Event → List ℕ
measured_text events = delays_text Du (keep_last 16 (results_in Du events)) ++ delays_text Ru (keep_last 16 (results_in Ru events))

abbrev pub count_in : Event → List ℕ
count_in (Count side counter value) = count_text side counter value
count_in (Cell c) = []
count_in (Delay at side id value) = []
count_in (Arrival side at frame) = []

-- the lines of the counters
abbrev pub counts_text : List Event → List ℕ
counts_text events = flat_map count_in events

-- ---- all of it

abbrev pub end_text : List ℕ
end_text = codes "end\n"

-- the summary of some events
unfoldable pub whole_summary : List Event → List ℕ
whole_summary events = cells_text (cells_in events) ++ measured_text events ++ counts_text events ++ end_text
