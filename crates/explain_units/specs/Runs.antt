-- The run that is kept, as the one that the lines of events speak of.
use Rattle.explain_units.specs.declared.runs.OpenRun.{OpenRun}
use Rattle.explain_model.specs.Cells.{CellRun}

abbrev pub cells_of : OpenRun → CellRun
cells_of r = record { run = r.run; mask = r.mask; word = r.word }
