use Rattle.std.proofs.Common.{arith}
use Rattle.idle_spans.proofs.row.Row.span.Goals as goal

pub overflow_add-first : goal.overflow_add-first
overflow_add-first c = omega (arith, c.symbol.ensures.few)

pub overflow_cast-result : goal.overflow_cast-result
overflow_cast-result c = omega (arith, c.symbol.ensures.few)
