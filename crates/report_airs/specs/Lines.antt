-- The line of a run of cells (this project's profile).
use Rattle.std.specs.Prelude.{ℕ, List, ◌++◌, codes}
use Rattle.air_source.specs.CellLines.{slot_text}
use Rattle.fh_base.specs.Words.{spaced_text, spaced_signed_text, hex4_text}
use Rattle.report_airs.specs.OpenRuns.{OpenRun}
use Rattle.report_airs.specs.declared.places.SymbolPlace.{SymbolPlace}
use Rattle.report_airs.specs.declared.totals.Totals.{Totals}
use Rattle.air_source.specs.Units.{way_text}

-- the direction, the symbol's start in ticks, the endpoint, and frame, subframe, slot and symbol
abbrev pub place_text : SymbolPlace → List ℕ
place_text p = way_text p.side ++ spaced_signed_text p.at.0 ++ codes " " ++ hex4_text p.id ++ slot_text p.slot ++ spaced_text p.symbol

-- the elements shown, the sums of their I and of their Q, and the missing cells
abbrev pub totals_text : Totals → List ℕ
totals_text t = spaced_text t.elements ++ spaced_signed_text t.i ++ spaced_signed_text t.q ++ spaced_text t.missing

unfoldable pub sum_line : SymbolPlace → Totals → List ℕ
sum_line place totals = codes "sum " ++ place_text place ++ totals_text totals ++ codes "\n"

-- the line of a run that may go on
abbrev pub line_text : OpenRun → List ℕ
line_text r = sum_line r.place r.totals
