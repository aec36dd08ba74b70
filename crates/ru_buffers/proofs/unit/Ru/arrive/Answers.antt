use Rattle.air_source.specs.declared.events.Side.TheVariants.{Ru as AtRu}
use Rattle.ru_buffers.proofs.CallLemmas.{holds_now, holds_some, ready_settled, settled_is, stands_delivered}
use Rattle.ru_buffers.proofs.DeliverLemmas.{message_then, symbol_then}
use Rattle.ru_buffers.proofs.LoopLemmas.{standing, standing_next}
use Rattle.ru_buffers.proofs.unit.Ru.arrive.Goals as goal

pub arrive_told-arrival-requires-clause-unit : goal.arrive_told-arrival-requires-clause-unit
arrive_told-arrival-requires-clause-unit g c =
    let u = c.args.self.now in
    let some = c.requires.unit in
    holds_some some.config u.memory u.clock.0 u.cursor c.settled-self.result some.history (standing some.config u some.history some.stands) c.requires.given c.settled-self.ensures

pub returns-clause-stands : goal.returns-clause-stands
returns-clause-stands g c k h all =
    let u = c.args.self.now in
    let own = standing k u h all in
    let next = c.settled-self.result in
    let m = c.arrive_told-arrival.new.self in
    let frame = c.args.frame.now in
    let then = stands_delivered k u.memory u.clock.0 u.cursor next h own c.requires.given c.settled-self.ensures m frame
    (c.arrive_told-arrival.ensures.holds AtRu k) (c.arrive_told-arrival.ensures.reports AtRu k all.kept.holds.of) in
    let was = (settled_is k u.memory u.clock.0 u.cursor next h own c.requires.given c.settled-self.ensures).kept in
    let look = c.look.ensures in
    standing_next k c.look.new.self m u.clock next _ look.memory look.clock look.cursor then
    (symbol_then k u.memory m u.clock.0 next h frame was then.kept c.arrive_told-arrival.result.control c.arrive_told-arrival.ensures.control u.symbol c.look.new.self.symbol all.symbol
    look.symbol look.same_symbol)
    (message_then k u.memory m u.clock.0 u.cursor next h frame all.kept c.requires.given c.settled-self.ensures was then.kept c.arrive_told-arrival.result.control c.arrive_told-arrival.ensures.control u.message
    c.look.new.self.message all.message look.message look.same_message)

pub returns-clause-told : goal.returns-clause-told
returns-clause-told g c k h all =
    let u = c.args.self.now in
    c.arrive_told-arrival.ensures.told AtRu k h.arrivals _
    (holds_now k u.memory u.clock.0 u.cursor c.settled-self.result h (standing k u h all) c.requires.given c.settled-self.ensures)

pub returns-clause-times : goal.returns-clause-times
returns-clause-times g c k h all =
    let u = c.args.self.now in
    let next = c.arrive_told-arrival.ensures.holds AtRu k h.arrivals _
    (holds_now k u.memory u.clock.0 u.cursor c.settled-self.result h (standing k u h all) c.requires.given c.settled-self.ensures) in
    (next.config, next.came, next.times)

pub returns-clause-given : goal.returns-clause-given
returns-clause-given g c =
    let look = c.look.ensures in
    rw (look.memory, look.clock, look.cursor)
    (ready_settled c.arrive_told-arrival.new.self.cells c.args.self.now.clock.0 c.args.self.now.cursor c.settled-self.result c.settled-self.ensures)
