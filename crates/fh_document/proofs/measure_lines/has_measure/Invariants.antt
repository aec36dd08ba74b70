use Rattle.std.proofs.Common.{◌≡◌, take, false}
use Rattle.fh_document.specs.MeasureLines.{has_measure}
use Rattle.fh_document.proofs.measure_lines.has_measure.Given as goal

abbrev pub invariant-loop-k : goal.invariant-loop-k
invariant-loop-k l = has_measure l.id (take l.k l.measures) ≡ false
