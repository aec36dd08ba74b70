-- The first entry has the earliest time.
use Rattle.std.proofs.Common.{◌∙◌, List, Some, ap, subst}
use Rattle.air_source.specs.declared.links.LinkFrame.{LinkFrame}
use Rattle.frame_ways.specs.SendQueues.{IsNextTime, first_time}
use Rattle.frame_ways.proofs.SendQueueLemmas.{next_time_is}
use Rattle.frame_ways.proofs.TurnLemmas.{first_is, frames, none_earlier}
use Rattle.frame_ways.proofs.send_queue.SendQueue.next_time.Goals as goal

pub returns-in-Some-clause-time : goal.returns-in-Some-clause-time
returns-in-Some-clause-time c =
    first_is c.in-Some.turn.now c.in-Some.field-0-1.now c.self.inside.waiting.entries c.in-Some.ensures.first ∙ ap (λ (q : List LinkFrame). first_time q) c.self.view_is

pub returns-in-Some-clause-next : goal.returns-in-Some-clause-next
returns-in-Some-clause-next c =
    let turn = c.in-Some.turn.now in
    let es = c.self.inside.waiting.entries in
    subst (λ q. IsNextTime q (Some turn.at)) c.self.view_is
    (next_time_is (frames es) (Some turn.at) (first_is turn c.in-Some.field-0-1.now es c.in-Some.ensures.first) (none_earlier turn es c.in-Some.ensures.all_from))
