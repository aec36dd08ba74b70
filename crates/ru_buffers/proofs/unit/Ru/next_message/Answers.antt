use Rattle.fh_base.proofs.Kept.{offsets_short}
use Rattle.ru_buffers.proofs.CallLemmas.{message_moment, no_message}
use Rattle.ru_buffers.proofs.LoopLemmas.{message_of, no_message_of, standing}
use Rattle.ru_buffers.proofs.unit.Ru.next_message.Goals as goal

pub returns-in-Some : goal.returns-in-Some
returns-in-Some c k h all =
    let u = c.args.self.now in
    let n = c.in-Some.next in
    message_moment k u.memory u.clock.0 u.cursor h (standing k u h all) n (offsets_short n.symbol.endpoint.numerology) (message_of u n all.message c.in-Some.is)

pub returns-in-None : goal.returns-in-None
returns-in-None c k h all =
    let u = c.args.self.now in
    no_message k u.memory u.clock.0 u.cursor h (standing k u h all) (no_message_of u all.message c.in-None.is)
