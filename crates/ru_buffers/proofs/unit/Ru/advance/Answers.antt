use Rattle.std.proofs.Common.{ℤ, ◌≤ℤ◌, ◌∙◌, ap, subst, sym}
use Rattle.std.specs.Prelude.{pos, ◌-ℤ◌}
use Rattle.std.proofs.lemmas.Result.{err_from_is_err_and}
use Rattle.fh_base.proofs.CommonLemmas.{on_err}
use Rattle.fh_base.specs.declared.values.Ticks.{Ticks}
use Rattle.unit_model.specs.Standing.{heard}
use Rattle.ru_buffers.specs.Reporting.{due_of}
use Rattle.ru_buffers.proofs.CallLemmas.{ready_known, ready_settled, stands_later}
use Rattle.ru_buffers.proofs.LoopLemmas.{standing, standing_with, stands_settled_unit}
use Rattle.ru_buffers.proofs.NextLemmas.{symbol_later}
use Rattle.ru_buffers.proofs.unit.Ru.advance.Goals as goal

pub returns-clause-heard : goal.returns-clause-heard
returns-clause-heard g c k h all =
    let u = c.args.self.now in
    (c.in_ok-report_until.ensures.told k h (stands_settled_unit k u c.settled-self.result h all c.requires.given c.settled-self.ensures)).heard_is

pub returns-clause-stands : goal.returns-clause-stands
returns-clause-stands g c k h all =
    let u = c.args.self.now in
    let told = c.in_ok-report_until.ensures.told k h (stands_settled_unit k u c.settled-self.result h all c.requires.given c.settled-self.ensures) in
    let new = c.report_until.new.self in
    let same = ap (λ (t : Ticks). t.0) c.report_until.ensures.clock in
    standing_with k _ _
    (stands_later k new.memory new.clock.0 u.clock.0 new.cursor (heard h (due_of k h c.args.to.0)) c.args.to.0 (standing k new (heard h (due_of k h c.args.to.0)) told.stands) same
    c.requires.time c.requires.order told.over)
    (symbol_later new.memory.cells new.clock.0 c.args.to.0 new.symbol (subst (λ (t : ℤ). t ≤ℤ c.args.to.0) (sym same) c.requires.order) told.later told.stands.symbol)
    told.stands.message

pub returns-clause-past : goal.returns-clause-past
returns-clause-past g c k h all none =
    let u = c.args.self.now in
    let told = c.in_ok-report_until.ensures.told k h (stands_settled_unit k u c.settled-self.result h all c.requires.given c.settled-self.ensures) in
    told.stands.kept.left (c.args.to.0 -ℤ pos 1) ∙ none

pub returns-in_err-report_until-clause-stop : goal.returns-in_err-report_until-clause-stop
returns-in_err-report_until-clause-stop g c k h all =
    let u = c.args.self.now in
    let exit = err_from_is_err_and c.from_residual.result c.from_residual.ensures.1 in
    rw (exit.1, exit.2) (c.in_err-report_until.ensures.stop k h (stands_settled_unit k u c.settled-self.result h all c.requires.given c.settled-self.ensures))

pub returns-in_err-report_until-clause-given : goal.returns-in_err-report_until-clause-given
returns-in_err-report_until-clause-given g c =
    let u = c.args.self.now in
    let new = c.report_until.new.self in
    on_err c.from_residual.result _
    (ready_known u.memory.cells new.memory.cells c.settled-self.result new.cursor new.clock u.clock c.report_until.ensures.known c.report_until.ensures.endpoints
    c.report_until.ensures.cursor c.report_until.ensures.clock (ready_settled u.memory.cells u.clock.0 u.cursor c.settled-self.result c.settled-self.ensures))

pub report_until-requires-clause-next : goal.report_until-requires-clause-next
report_until-requires-clause-next g c = c.requires.unit.stands.symbol
