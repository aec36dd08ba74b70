use Rattle.std.proofs.Common.{◌≡◌, ◌++◌, ap, ◌∙◌, refl}
use Rattle.ecpri_frames.specs.Left.{left_of, message_of}
use Rattle.capture_show.specs.Messages.{message_lines, messages_lines}
use Rattle.capture_show.proofs.Telling.{so_far_none, so_far_more, so_far_stopped}
use Rattle.capture_show.proofs.capture_lines.tell_messages.Goals as goal
use Rattle.fh_base.proofs.OwedTelling.{anyhow}

pub loop-m-init : goal.loop-m-init
loop-m-init g c =
    let left = ap left_of c.into_iter-m-iterator.ensures.into_iter_gives ∙ c.messages-m-items.ensures.messages in
    record { so_far = so_far_none _ _ _ (ap messages_lines left); still = refl }

pub loop-m-preserved : goal.loop-m-preserved
loop-m-preserved g c =
    let rest = left_of c.next.new.self in
    let left : messages_lines (left_of c.loop-m.m-iterator) ≡ message_lines (message_of c.in-Some.m) ++ messages_lines rest
    = ap messages_lines c.in-Some.ensures.steps.0 in
    record {
      so_far = so_far_more _ _ _ _ _ (messages_lines rest) _ left c.loop-m.invariant.so_far c.in_ok-tell_message.ensures.told;
      still = c.in_ok-tell_message.ensures.cause ∙ c.loop-m.invariant.still;
    }

pub returns-in_err-tell_message-clause-part : goal.returns-in_err-tell_message-clause-part
returns-in_err-tell_message-clause-part g c =
    let rest = left_of c.next.new.self in
    let left : messages_lines (left_of c.loop-m.m-iterator) ≡ message_lines (message_of c.in-Some.m) ++ messages_lines rest
    = ap messages_lines c.in-Some.ensures.steps.0 in
    anyhow c.from_residual.result (so_far_stopped _ _ _ _ _ (messages_lines rest) _ left c.loop-m.invariant.so_far c.in_err-tell_message.ensures.part)
