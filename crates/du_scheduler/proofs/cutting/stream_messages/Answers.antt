-- Message by message.
use Rattle.std.proofs.Common.{◌≡◌, rules, List, length, ap, ap₂, ◌∙◌}
use Rattle.du_scheduler.specs.declared.parts.TimedPart.{TimedPart}
use Rattle.du_scheduler.specs.Walks.{begins, left_of, run_from, walked}
use Rattle.du_scheduler.specs.declared.limits.Limits.{Limits}
use Rattle.du_scheduler.proofs.CutLemmas.{make_begins, parts_make_runs}
use Rattle.du_scheduler.proofs.StepLemmas.{begins_end, runs_end, so_far_more, so_far_start}
use Rattle.du_scheduler.proofs.cutting.stream_messages.Goals as goal

pub loop-message-init : goal.loop-message-init
loop-message-init c =
    so_far_start c.args.limits.now c.args.parts.now c.in_ok-messages.messages.runs.items c.in_ok-messages.messages.begins.items (left_of c.into_iter-message-iterator.result) c.requires.limits c.requires.parts
    c.in_ok-messages.ensures.runs c.in_ok-messages.ensures.begins (ap left_of c.into_iter-message-iterator.ensures.into_iter_gives ∙ c.of-message-items.ensures)

pub loop-message-preserved : goal.loop-message-preserved
loop-message-preserved c =
    let number : c.len-number.result ≡ length c.loop-message.messages.runs.items = search rules in
    so_far_more c.args.limits.now c.args.parts.now c.loop-message.messages.runs.items c.push.new.self.items c.loop-message.messages.begins.items c.push-in-loop-message.new.self.items c.loop-message.begin
    c.in-Some.message (left_of c.loop-message.message-iterator) (left_of c.next.new.self) c.run_from.result c.loop-message.invariant c.in-Some.ensures.steps
    (c.run_from.ensures ∙ ap (λ n. run_from c.args.limits.now n c.in-Some.message) number) c.in_ok-push.ensures.items c.in_ok-push-2.ensures.items

pub returns-clause-walked : goal.returns-clause-walked
returns-clause-walked c = runs_end _ _ _ _ _ _ c.loop-message.invariant c.in-None.ensures.steps.0

pub returns-clause-runs : goal.returns-clause-runs
returns-clause-runs c config lines stream ep e limits_is parts_is =
    returns-clause-walked c ∙ ap₂ (λ (l : Limits) (ps : List TimedPart). walked l ps) limits_is parts_is ∙ parts_make_runs config lines stream ep e

pub returns-clause-begun : goal.returns-clause-begun
returns-clause-begun c = begins_end _ _ _ _ _ _ c.loop-message.invariant c.in-None.ensures.steps.0

pub returns-clause-begins : goal.returns-clause-begins
returns-clause-begins c config lines stream ep e limits_is parts_is =
    returns-clause-begun c ∙ ap₂ (λ (l : Limits) (ps : List TimedPart). begins l ps) limits_is parts_is ∙ make_begins config lines stream ep e
