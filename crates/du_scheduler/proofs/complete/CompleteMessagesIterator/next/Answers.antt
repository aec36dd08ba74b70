-- Part by part.
use Rattle.std.proofs.Common.{◌≡◌, ◌∷◌, rules, length, ap, sym, subst, ◌∙◌, arith}
use Rattle.du_scheduler.specs.Ranges.{IsOpenMessage}
use Rattle.du_scheduler.specs.OpenMessages.{next_to}
use Rattle.du_scheduler.specs.Walks.{complete_from}
use Rattle.du_scheduler.specs.declared.open_messages.OpenMessage.{OpenMessage}
use Rattle.du_scheduler.proofs.StepLemmas.{at_end, goes_on, grown_open, is_complete}
use Rattle.du_scheduler.proofs.complete.CompleteMessagesIterator.next.Goals as goal

pub returns-then-not-takes-clause-steps : goal.returns-then-not-takes-clause-steps
returns-then-not-takes-clause-steps c =
    let l = c.loop-part.self.limits.now in
    let m = c.loop-part.message in
    let rest_is : c.loop-part.self.rest.now ≡ c.in-Some.part.now ∷ c.in-Some.rest.now = search rules in
    c.loop-part.invariant.left ∙ ap (complete_from l m) rest_is
    ∙ is_complete l m c.in-Some.part.now c.in-Some.rest.now (sym c.takes.ensures ∙ c.if-not-takes.true)
    ∙ ap (λ (n : OpenMessage). m ∷ complete_from l n c.in-Some.rest.now)
    (sym (c.next_to.ensures.value ∙ ap (λ n. next_to l.departures n m c.in-Some.part.now) c.frames_of-frames.ensures.value))

pub returns-then-not-takes-clause-goes : goal.returns-then-not-takes-clause-goes
returns-then-not-takes-clause-goes c = record { on = λ f. (tt, tt, omega (arith, ap length (returns-then-not-takes-clause-steps c))); keeps = tt; rests = λ f. tt }

pub loop-part-preserved : goal.loop-part-preserved
loop-part-preserved c =
    let l = c.loop-part.self.limits.now in
    let m = c.loop-part.message in
    let rest_is : c.loop-part.self.rest.now ≡ c.in-Some.part.now ∷ c.in-Some.rest.now = search rules in
    let taken = sym c.takes.ensures ∙ c.if-not-takes.false in
    record {
      is_open = subst (IsOpenMessage l) (sym c.grown-message.ensures) (grown_open l m c.in-Some.part.now c.loop-part.self.cut c.loop-part.invariant.is_open taken);
      left = c.loop-part.invariant.left ∙ ap (complete_from l m) rest_is ∙ goes_on l m c.in-Some.part.now c.in-Some.rest.now taken
          ∙ ap (λ (n : OpenMessage). complete_from l n c.in-Some.rest.now) (sym c.grown-message.ensures);
    }

pub returns-clause-steps : goal.returns-clause-steps
returns-clause-steps c =
    c.loop-part.invariant.left ∙ at_end c.loop-part.self.limits.now c.loop-part.message c.loop-part.self.rest.now (rw c.in_default.is at c.split_first.ensures.cases)

pub returns-clause-goes : goal.returns-clause-goes
returns-clause-goes c = record { on = λ f. (tt, tt, omega (arith, ap length (returns-clause-steps c))); keeps = tt; rests = λ f. tt }
