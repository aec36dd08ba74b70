-- One more run of cells.
use Rattle.std.specs.Prelude.{List, [], ◌∷◌, ◌++◌}
use Rattle.std.specs.List.{AllByRecursion}
use Rattle.explain_records.specs.Missing.{IsCellRun}
use Rattle.explain_model.specs.declared.runs.CellRun.{CellRun}

pub fits_more : (rs : List CellRun) (r : CellRun) → AllByRecursion IsCellRun rs → IsCellRun r → AllByRecursion IsCellRun (rs ++ r ∷ [])
fits_more [] r all fits = (fits, tt)
fits_more (x ∷ rs) r all fits = (all.0, fits_more rs r all.1 fits)
