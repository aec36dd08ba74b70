-- What an air remembers of the events of a summary.
use Rattle.std.specs.Prelude.{ℤ, Bool, List, Option}
use Rattle.report_airs.specs.OpenRuns.{OpenRun}

-- the run that may go on, the last results of each unit, and whether their lines were written
pub record SumState : Type 0 where
  pub run : Option OpenRun
  pub du : List ℤ
  pub ru : List ℤ
  pub told : Bool
