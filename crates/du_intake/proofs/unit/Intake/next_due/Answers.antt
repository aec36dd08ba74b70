use Rattle.std.proofs.Common.{◌≡◌, List, Some, ap, refl, sym, ◌∙◌}
use Rattle.window_config.specs.declared.endpoints.EndpointConfig.{EndpointConfig}
use Rattle.du_intake.specs.Calls.{next_in}
use Rattle.du_intake.specs.Symbols.{symbol_at}
use Rattle.du_intake.proofs.LoopLemmas.{comes_later, moment_is, next_due_is}
use Rattle.du_intake.proofs.unit.Intake.next_due.Goals as goal

pub returns-then-is_before-clause-none : goal.returns-then-is_before-clause-none
returns-then-is_before-clause-none c =
    let u = c.args.self.now in
    let is : next_in u ≡ Some c.in-Some.next = sym (c.in-Some.ensures ∙ ap (λ (es : List EndpointConfig). symbol_at es u.plan u.place.symbol) c.deref.ensures.value) in
    comes_later u c.in-Some.next c.args.to.0 c.moment_of.result.0 is (moment_is u c.in-Some.next c.moment_of.result.0 c.requires.unit is c.moment_of.ensures)
    (c.if-is_before.ensures.before refl)

pub returns-clause-some : goal.returns-clause-some
returns-clause-some c =
    let u = c.args.self.now in
    let is : next_in u ≡ Some c.in-Some.next = sym (c.in-Some.ensures ∙ ap (λ (es : List EndpointConfig). symbol_at es u.plan u.place.symbol) c.deref.ensures.value) in
    next_due_is u c.in-Some.next c.args.to.0 c.moment_of.result.0 is (moment_is u c.in-Some.next c.moment_of.result.0 c.requires.unit is c.moment_of.ensures)
    (c.if-is_before.ensures.after refl)
