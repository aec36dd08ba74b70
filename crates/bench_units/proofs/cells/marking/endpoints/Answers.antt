use Rattle.std.proofs.Common.{arith}
use Rattle.idle_spans.proofs.NumberedLemmas.{numbered_are}
use Rattle.bench_units.proofs.cells.marking.endpoints.Goals as goal

pub returns-clause-endpoints : goal.returns-clause-endpoints
returns-clause-endpoints c = numbered_are c.loop-id.list c.loop-id.id c.loop-id.invariant.count (omega (arith, c.requires, c.loop-id.auto.id-end)) c.loop-id.invariant.each
