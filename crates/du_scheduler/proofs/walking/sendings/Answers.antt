-- Message by message.
use Rattle.std.proofs.Common.{All, List, [], ◌∷◌, ◌++◌, map, ap, ap₂, sym, subst, ◌∙◌}
use Rattle.std.specs.List.{AllByRecursion}
use Rattle.std.proofs.lemmas.List.Elements.{All-append, All-cons, All-nil}
use Rattle.plan_model.specs.Dense.{IsSending}
use Rattle.plan_model.specs.declared.dense.Sending.{Sending}
use Rattle.du_scheduler.proofs.StepLemmas.{are_complete}
use Rattle.du_scheduler.specs.Walks.{left_of}
use Rattle.du_scheduler.specs.Ranges.{IsOpenMessage}
use Rattle.du_scheduler.specs.declared.open_messages.OpenMessage.{OpenMessage}
use Rattle.du_scheduler.specs.PlanWalks.{sending_from}
use Rattle.du_scheduler.proofs.WalkingLemmas.{walk_more}
use Rattle.du_scheduler.proofs.walking.sendings.Goals as goal

pub loop-message-init : goal.loop-message-init
loop-message-init c =
    let l = c.args.limits.now in
    let left_is = ap left_of c.into_iter-message-iterator.ensures.into_iter_gives ∙ c.of-message-items.ensures in
    record {
      walks = ap₂ (λ (xs : List Sending) (ms : List OpenMessage). xs ++ map (sending_from l) ms) c.new-sent.ensures.items left_is;
      are_open = subst (AllByRecursion (IsOpenMessage l)) (sym left_is) (are_complete l c.args.parts.now c.requires.limits c.requires.parts).0;
      small = subst (All IsSending) (sym c.new-sent.ensures.items) (All-nil IsSending);
    }

pub loop-message-preserved : goal.loop-message-preserved
loop-message-preserved c =
    let l = c.args.limits.now in
    let old = c.loop-message.sent.items in
    let s = c.sending_from.result in
    record {
      walks = walk_more (sending_from l) c.in-Some.message (left_of c.loop-message.message-iterator) (left_of c.next.new.self) old c.push.new.self.items _ s c.loop-message.invariant.walks
          c.in-Some.ensures.steps c.sending_from.ensures.value c.in_ok-push.ensures.items;
      are_open = (subst (AllByRecursion (IsOpenMessage l)) c.in-Some.ensures.steps c.loop-message.invariant.are_open).1;
      small = subst (All IsSending) (sym c.in_ok-push.ensures.items)
          (All-append IsSending old (s ∷ []) c.loop-message.invariant.small (All-cons IsSending s [] c.sending_from.ensures.small (All-nil IsSending)));
    }
