-- The insertion by turns is `queued` on the frames.
use Rattle.std.proofs.Common.{◌+◌, ◌∙◌, ℕ, List, ap, subst, sym}
use Rattle.air_source.specs.declared.links.LinkFrame.{LinkFrame}
use Rattle.frame_ways.specs.SendQueues.{queued}
use Rattle.frame_ways.specs.Waiting.{AreAmong}
use Rattle.frame_ways.proofs.TurnLemmas.{among_put, frames, frames_put}
use Rattle.frame_ways.proofs.send_queue.SendQueue.put.Goals as goal

pub invariant_of-self : goal.invariant_of-self
invariant_of-self c =
    let n = c.self.inside.handed in
    let es = c.self.inside.waiting.entries in
    subst (λ (m : ℕ). AreAmong m c.insert.new.self.entries) (sym c.in-Some.ensures.1)
    (subst (AreAmong (n + 1)) (sym c.in-Ok.ensures.entries) (among_put n c.args.frame es c.self.invariant))

pub returns-in-Ok-clause-ok : goal.returns-in-Ok-clause-ok
returns-in-Ok-clause-ok c =
    let n = c.self.inside.handed in
    let es = c.self.inside.waiting.entries in
    ap frames c.in-Ok.ensures.entries ∙ frames_put n c.args.frame es c.self.invariant ∙ ap (λ (q : List LinkFrame). queued c.args.frame q) c.self.view_is
