use Rattle.std.proofs.Common.{length, ap, ◌∙◌}
use Rattle.std.proofs.lemmas.Iterator.Consumers.{YieldsList-from_shown, count_from_yields_List}
use Rattle.ecpri_frames.specs.Left.{GivesMessage, left_of, message_of}
use Rattle.calling_examples.proofs.frames.message_count.Goals as goal

pub returns-in-None-clause-count : goal.returns-in-None-clause-count
returns-in-None-clause-count c =
    let all = YieldsList-from_shown GivesMessage message_of left_of (λ s t h. ap length h.0.0) (λ s x t h. h.0) c.messages-messages.result in
    count_from_yields_List c.messages-messages.result c.count.result c.count.ensures.ran all ∙ ap length c.messages-messages.ensures.messages
