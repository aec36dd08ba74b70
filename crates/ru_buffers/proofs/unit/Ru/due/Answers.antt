use Rattle.std.proofs.Common.{sym, subst}
use Rattle.std.specs.Prelude.{Option}
use Rattle.fh_base.specs.declared.values.Ticks.{Ticks}
use Rattle.ru_buffers.specs.Calls.{IsDue}
use Rattle.ru_buffers.proofs.CallLemmas.{due_is}
use Rattle.ru_buffers.proofs.unit.Ru.due.Goals as goal

pub returns : goal.returns
returns c k h all =
    subst (λ (t : Option Ticks). IsDue k h t) (sym c.earlier_of.ensures)
    (due_is k h c.next_cell.result c.next_message.result (c.next_cell.ensures k h all) (c.next_message.ensures k h all))
