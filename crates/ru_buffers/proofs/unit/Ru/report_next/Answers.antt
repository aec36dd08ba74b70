use Rattle.std.proofs.Common.{[], refl, sym, append-nil}
use Rattle.std.proofs.lemmas.Result.{err_from_is_err_and}
use Rattle.fh_base.proofs.Kept.{offsets_short}
use Rattle.unit_memory.specs.declared.memory.UnitMemory.{UnitMemory}
use Rattle.ru_buffers.proofs.LoopLemmas.{first_next, first_of, goes_to, over_later, over_none, stops_at}
use Rattle.ru_buffers.proofs.OrderLemmas.{rest_after}
use Rattle.ru_buffers.proofs.unit.Ru.report_next.Goals as goal

pub returns-in-None-clause-told : goal.returns-in-None-clause-told
returns-in-None-clause-told g c k h all = over_none c.args.self.now c.args.air.now c.args.to.0 k h all c.in-None.is

pub returns-then-not-starts_by-clause-told : goal.returns-then-not-starts_by-clause-told
returns-then-not-starts_by-clause-told g c k h all =
    over_later c.args.self.now c.args.air.now c.args.to.0 k h c.in-Some.first all c.in-Some.is (c.if-not-starts_by.ensures.after refl)

pub report-told-requires : goal.report-told-requires
report-told-requires g c = (first_of c.args.self.now c.in-Some.first c.requires.next c.in-Some.is).was.symbol

pub returns-clause-told : goal.returns-clause-told
returns-clause-told g c k h all =
    let u = c.args.self.now in
    let s = c.in-Some.first in
    let told = c.in_ok-told.ensures in
    let m : UnitMemory = record { endpoints = u.memory.endpoints; cells = c.report-told.new.cells; assembly = u.memory.assembly; counters = c.report-told.new.counters } in
    goes_to g.A.Air.grew u m c.find_symbol-self.result c.args.air.now c.report-told.new.air c.args.to.0 k h s c.find_symbol-self.ensures all (offsets_short s.endpoint.numerology)
    (first_next u.memory.cells u.clock.0 s (first_of u s c.requires.next c.in-Some.is)) (c.if-not-starts_by.ensures.by refl)
    (record { more = []; left = sym (append-nil _); reports = told.reports; counts = told.counts; endpoints = refl; assembly = refl }) told.heard

pub returns-clause-order : goal.returns-clause-order
returns-clause-order g c =
    let u = c.args.self.now in
    let s = c.in-Some.first in
    let found = first_of u s c.requires.next c.in-Some.is in
    record {
      was = found.was;
      by = c.if-not-starts_by.ensures.by refl;
      rest = rest_after u.clock.0 s u.memory.cells c.report-told.new.cells (first_next u.memory.cells u.clock.0 s found) c.in_ok-told.ensures.reports;
    }

pub returns-in_err-told-clause-stop : goal.returns-in_err-told-clause-stop
returns-in_err-told-clause-stop g c k h all =
    let u = c.args.self.now in
    let s = c.in-Some.first in
    let exit = err_from_is_err_and c.from_residual.result c.from_residual.ensures.1 in
    let m : UnitMemory = record { endpoints = u.memory.endpoints; cells = c.report-told.new.cells; assembly = u.memory.assembly; counters = c.report-told.new.counters } in
    rw (exit.1, exit.2)
    (stops_at g.A.Air.grew (g.A.Air.stopped c.in_err-told.field-0.0) u m c.find_symbol-self.result c.args.air.now c.report-told.new.air c.args.to.0 k h s c.find_symbol-self.ensures all
    (offsets_short s.endpoint.numerology) (first_next u.memory.cells u.clock.0 s (first_of u s c.requires.next c.in-Some.is)) (c.if-not-starts_by.ensures.by refl)
    c.in_err-told.ensures.stop refl refl)
