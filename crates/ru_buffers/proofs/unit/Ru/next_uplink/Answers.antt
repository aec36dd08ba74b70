use Rattle.std.proofs.Common.{refl}
use Rattle.fh_base.proofs.Kept.{offsets_short}
use Rattle.ru_buffers.specs.declared.unit.Ru.{Ru}
use Rattle.ru_buffers.proofs.CallLemmas.{gives, gives_proper, none_at_clock, none_by_clock, ready_where_quiet, still_ready}
use Rattle.ru_buffers.proofs.LoopLemmas.{message_of, no_message_of, standing, standing_with}
use Rattle.ru_buffers.proofs.unit.Ru.next_uplink.Goals as goal

pub returns-in-None-clause-none : goal.returns-in-None-clause-none
returns-in-None-clause-none c k h all =
    let u = c.args.self.now in
    none_at_clock k u.memory u.clock.0 u.cursor h (standing k u h all) (no_message_of u all.message c.in-None.is)

pub returns-then-not-starts_by-clause-none : goal.returns-then-not-starts_by-clause-none
returns-then-not-starts_by-clause-none c k h all =
    let u = c.args.self.now in
    none_by_clock k u.memory u.clock.0 u.cursor h (standing k u h all) c.in-Some.next (message_of u c.in-Some.next all.message c.in-Some.is)
    (c.if-not-starts_by.ensures.after refl)

pub returns-in-None-clause-ready : goal.returns-in-None-clause-ready
returns-in-None-clause-ready c k h all =
    let u = c.args.self.now in
    let own = standing k u h all in
    ready_where_quiet k u.memory u.clock.0 u.cursor h own
    (none_at_clock k u.memory u.clock.0 u.cursor h own (no_message_of u all.message c.in-None.is))

pub returns-then-not-starts_by-clause-ready : goal.returns-then-not-starts_by-clause-ready
returns-then-not-starts_by-clause-ready c k h all =
    let u = c.args.self.now in
    let own = standing k u h all in
    ready_where_quiet k u.memory u.clock.0 u.cursor h own
    (none_by_clock k u.memory u.clock.0 u.cursor h own c.in-Some.next (message_of u c.in-Some.next all.message c.in-Some.is)
    (c.if-not-starts_by.ensures.after refl))

pub returns-clause-proper : goal.returns-clause-proper
returns-clause-proper c k h all =
    let u = c.args.self.now in
    let own = standing k u h all in
    let n = c.in-Some.next in
    let found = message_of u n all.message c.in-Some.is in
    gives_proper k u.memory u.clock.0 u.cursor h own n.job _
    (gives k u.memory u.clock.0 u.cursor h own c.after-self.result n (offsets_short n.symbol.endpoint.numerology) found
    (c.if-not-starts_by.ensures.by refl) (c.after-self.ensures u.memory.cells found)).0

pub returns-clause-given : goal.returns-clause-given
returns-clause-given c k h all =
    let u = c.args.self.now in
    let n = c.in-Some.next in
    let found = message_of u n all.message c.in-Some.is in
    let is =
    gives k u.memory u.clock.0 u.cursor h (standing k u h all) c.after-self.result n (offsets_short n.symbol.endpoint.numerology) found (c.if-not-starts_by.ensures.by refl)
    (c.after-self.ensures u.memory.cells found) in
    let new : Ru = record { memory = u.memory; clock = u.clock; cursor = c.after-self.result; symbol = u.symbol; message = c.find_message-self.result } in
    record { first = is.0; stands = standing_with k new _ is.1 all.symbol c.find_message-self.ensures }

pub returns-clause-past : goal.returns-clause-past
returns-clause-past c k h all ready =
    let u = c.args.self.now in
    let n = c.in-Some.next in
    let found = message_of u n all.message c.in-Some.is in
    still_ready k u.memory u.clock.0 u.cursor h (standing k u h all) c.after-self.result n u.clock.0 (offsets_short n.symbol.endpoint.numerology) found (c.after-self.ensures u.memory.cells found) ready
