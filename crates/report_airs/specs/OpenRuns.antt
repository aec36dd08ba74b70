-- A run of cells that may go on, as an air remembers it.
use Rattle.std.specs.Prelude.{ℕ}
use Rattle.report_airs.specs.declared.places.SymbolPlace.{SymbolPlace}
use Rattle.report_airs.specs.declared.totals.Totals.{Totals}

-- the symbol, the PRB of the last cell, and what was added up
pub record OpenRun : Type 0 where
  pub place : SymbolPlace
  pub prb : ℕ
  pub totals : Totals
