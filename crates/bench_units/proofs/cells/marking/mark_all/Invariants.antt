use Rattle.std.proofs.Common.{◌≡◌}
use Rattle.idle_spans.specs.Tables.{endpoints_of}
use Rattle.bench_units.proofs.cells.marking.mark_all.Given as goal

abbrev pub invariant-loop-k : goal.invariant-loop-k
invariant-loop-k l = endpoints_of l.spans ≡ endpoints_of l.fn.spans
