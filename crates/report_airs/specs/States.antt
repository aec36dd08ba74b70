-- The summary by a state, event by event, as an air writes it.
use Rattle.std.specs.Prelude.{ℕ, ℤ, ◌&&◌, Bool, true, false, List, [], ◌∷◌, ◌++◌, nat_lt, if◌then◌else◌, Option, Some, None}
use Rattle.circular_buffer.specs.Buffer.{keep_last}
use Rattle.air_source.specs.declared.events.AirCell.{AirCell}
use Rattle.air_source.specs.declared.events.Event.{Event}
use Rattle.air_source.specs.declared.events.Event.TheVariants.{Cell, Delay, Arrival, Count}
use Rattle.air_source.specs.declared.events.Side.{Side}
use Rattle.air_source.specs.declared.events.Side.TheVariants.{Ru, Du}
use Rattle.air_source.specs.UnitLines.{count_text}
use Rattle.report_airs.specs.Lines.{line_text}
use Rattle.report_airs.specs.OpenRuns.{OpenRun}
use Rattle.report_airs.specs.Places.{place_of, same_place}
use Rattle.report_airs.specs.Results.{delays_text}
use Rattle.report_airs.specs.Summary.{end_text}
use Rattle.report_airs.specs.SumStates.{SumState}
use Rattle.report_airs.specs.Totals.{cell_totals, plus}
use Rattle.report_airs.specs.declared.totals.Totals.{Totals}

-- ---- the run that may go on

-- the run of one cell
abbrev pub opened : AirCell → OpenRun
opened c = record { place = place_of c; prb = c.prb; totals = cell_totals c }

-- whether a cell goes on a run
abbrev pub goes_on_with : OpenRun → AirCell → Bool
goes_on_with r c = nat_lt r.prb c.prb && same_place r.place (place_of c)

-- the run with one more cell
abbrev pub grown : OpenRun → ℕ → Totals → OpenRun
grown r prb cell = record { place = r.place; prb = prb; totals = plus r.totals cell }

abbrev pub with_cell : OpenRun → AirCell → OpenRun
with_cell r c = grown r c.prb (cell_totals c)

-- the run that a cell ends, and the one that is open after it
abbrev pub run_ended : Option OpenRun → AirCell → Option OpenRun
run_ended None c = None
run_ended (Some r) c = if goes_on_with r c then None else Some r

abbrev pub run_after : Option OpenRun → AirCell → OpenRun
run_after None c = opened c
run_after (Some r) c = if goes_on_with r c then with_cell r c else opened c

abbrev pub run_line : Option OpenRun → List ℕ
run_line None = []
run_line (Some r) = line_text r

-- ---- the state

-- at first nothing was heard
abbrev pub sum_start : SumState
sum_start = record { run = None; du = []; ru = []; told = false }

abbrev pub ended_by : SumState → AirCell → Option OpenRun
ended_by s c = run_ended s.run c

abbrev pub after_cell : SumState → AirCell → SumState
after_cell s c = record { run = Some (run_after s.run c); du = s.du; ru = s.ru; told = s.told }

-- one more of the last 16 results
abbrev pub one_more : List ℤ → ℤ → List ℤ
one_more zs z = keep_last 16 (zs ++ z ∷ [])

abbrev pub after_delay : SumState → Side → ℤ → SumState
after_delay s Du z = record { run = s.run; du = one_more s.du z; ru = s.ru; told = s.told }
after_delay s Ru z = record { run = s.run; du = s.du; ru = one_more s.ru z; told = s.told }

-- the lines that are before the counters
abbrev pub delay_lines : SumState → List ℕ
delay_lines s = if s.told then [] else delays_text Du s.du ++ delays_text Ru s.ru

abbrev pub closing_text : SumState → List ℕ
closing_text s = run_line s.run ++ delay_lines s

-- they were written
abbrev pub after_closing : SumState → SumState
after_closing s = record { run = None; du = s.du; ru = s.ru; told = true }

-- ---- what an event does

abbrev pub sum_next : SumState → Event → SumState
sum_next s (Cell c) = after_cell s c
sum_next s (Delay at side id value) = after_delay s side value
sum_next s (Arrival side at frame) = s
sum_next s (Count side counter value) = after_closing s

abbrev pub sum_gives : SumState → Event → List ℕ
sum_gives s (Cell c) = run_line (ended_by s c)
sum_gives s (Delay at side id value) = []
sum_gives s (Arrival side at frame) = []
sum_gives s (Count side counter value) = closing_text s ++ count_text side counter value

-- what is after the last event
abbrev pub sum_ends : SumState → List ℕ
sum_ends s = closing_text s ++ end_text
