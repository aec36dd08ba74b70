use Rattle.unit_model.specs.Standing.{nothing_yet}
use Rattle.ru_buffers.proofs.CallLemmas.{given_made, stands_made}
use Rattle.ru_buffers.proofs.LoopLemmas.{standing_with}
use Rattle.ru_buffers.proofs.unit.Ru.make.Goals as goal

pub returns-clause-stands : goal.returns-clause-stands
returns-clause-stands c =
    let own = c.in_ok-memory.ensures in
    standing_with c.args.config.now _ nothing_yet
    (stands_made c.args.config.now c.in_ok-memory.memory c.start-cursor.result own.holds own.unreported c.start-cursor.ensures) c.find_symbol-symbol.ensures c.find_message-message.ensures

pub returns-clause-given : goal.returns-clause-given
returns-clause-given c =
    let own = c.in_ok-memory.ensures in
    given_made c.args.config.now c.in_ok-memory.memory _ c.start-cursor.result
    (stands_made c.args.config.now c.in_ok-memory.memory c.start-cursor.result own.holds own.unreported c.start-cursor.ensures)
