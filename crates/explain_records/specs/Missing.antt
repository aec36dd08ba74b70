-- Missing cells, run by run.
use Rattle.std.specs.Prelude.{◌<◌, ◌+◌, ◌^◌, ℕ, Bool, List, [], ◌∷◌, if◌then◌else◌}
use Rattle.std.specs.List.{flat_map}
use Rattle.fh_base.specs.Lists.{each}
use Rattle.explain_model.specs.declared.values.ExplainLine.{ExplainLine}
use Rattle.explain_model.specs.declared.values.ExplainLine.TheVariants as line
use Rattle.explain_model.specs.Missing.{MissingCell, goes_on_missing, seen_run}
use Rattle.explain_model.specs.SilentReasons.{Kept, missing_reason}
use Rattle.explain_model.specs.Seen.{seen_at}
use Rattle.explain_heard.specs.Runs.{run_lines}
use Rattle.explain_model.specs.Keys.{run_key}
use Rattle.explain_model.specs.declared.runs.CellRun.{CellRun}
use Rattle.explain_records.specs.declared.missing.MissingPrb.{MissingPrb}

-- ---- a cell

abbrev pub missing_cell_of : MissingPrb → MissingCell
missing_cell_of m = record { cell = seen_at m.run m.prb; reason = m.reason }

abbrev pub missing_related : MissingPrb → MissingPrb → Bool
missing_related a b = goes_on_missing (missing_cell_of a) (missing_cell_of b)

abbrev pub missing_run_line : MissingCell → ℕ → ExplainLine
missing_run_line x num = line.WhyMissing (seen_run x.cell num) x.cell.mask x.reason

abbrev pub missing_line_of : MissingPrb → ℕ → ExplainLine
missing_line_of m num = missing_run_line (missing_cell_of m) num

-- ---- runs

-- its PRBs are numbers of 16 bits, and none is the last of these
abbrev pub IsCellRun : CellRun → Type 0
IsCellRun r = r.prb + r.count < 2 ^ 16

abbrev pub missing_prb_at : Kept → CellRun → ℕ → List MissingPrb
missing_prb_at all r prb = record { run = r; prb = prb; reason = missing_reason all (run_key r) prb } ∷ []

-- the cells of a run
abbrev pub missing_prbs_by : Kept → CellRun → List MissingPrb
missing_prbs_by all r = each r.prb r.count (missing_prb_at all r)

-- those of a run without samples
abbrev pub missing_prbs_of : Kept → CellRun → List MissingPrb
missing_prbs_of all r = if r.shown then [] else missing_prbs_by all r

-- those of some runs, in their order
abbrev pub missing_prbs : Kept → List CellRun → List MissingPrb
missing_prbs all rs = flat_map (missing_prbs_of all) rs

-- their lines
abbrev pub missing_text : Kept → List CellRun → List ExplainLine
missing_text all rs = run_lines missing_related missing_line_of (missing_prbs all rs)
