use Rattle.std.proofs.Common.{◌≡◌}
use Rattle.idle_spans.specs.Tables.{endpoints_of}
use Rattle.text_tests.proofs.spans.mark_all.Given as goal

abbrev pub invariant-loop-cell : goal.invariant-loop-cell
invariant-loop-cell l = record { endpoints : endpoints_of l.fn.spans ≡ endpoints_of l.spans }
