-- The run of cells that may go on.
use Rattle.std.specs.Prelude.{Option}
use Rattle.std.specs.Option.{option_map}
use Rattle.explain_air.specs.declared.runs.RunLines.{RunLines}
use Rattle.explain_units.specs.Runs.{cells_of}
use Rattle.explain_model.specs.Cells.{CellRun}

-- as the lines of events speak of it
abbrev pub open_of : RunLines → Option CellRun
open_of r = option_map cells_of r.run
