use Rattle.std.proofs.Common.{subst}
use Rattle.std.specs.Prelude.{None}
use Rattle.fh_base.proofs.Kept.{offsets_short}
use Rattle.ru_buffers.specs.Calls.{IsNextSymbol}
use Rattle.ru_buffers.proofs.CallLemmas.{cell_moment, no_cell}
use Rattle.ru_buffers.proofs.LoopLemmas.{first_next, first_of, standing}
use Rattle.ru_buffers.proofs.unit.Ru.next_cell.Goals as goal

pub returns-in-Some : goal.returns-in-Some
returns-in-Some c k h all =
    let u = c.args.self.now in
    let s = c.in-Some.first in
    let found = first_of u s all.symbol c.in-Some.is in
    cell_moment k u.memory u.clock.0 u.cursor h (standing k u h all) s (offsets_short s.endpoint.numerology) (first_next u.memory.cells u.clock.0 s found) found.was.left

pub returns-in-None : goal.returns-in-None
returns-in-None c k h all =
    let u = c.args.self.now in
    let found : IsNextSymbol u.memory.cells u.clock.0 None = subst (IsNextSymbol u.memory.cells u.clock.0) c.in-None.is all.symbol in
    no_cell k u.memory u.clock.0 u.cursor h (standing k u h all) (λ x symbol after left. found x (record { symbol = symbol; after = after; left = left }))
