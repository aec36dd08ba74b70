use Rattle.std.proofs.Common.{rules, List, None, Some, ap, sym, ◌∙◌}
use Rattle.air_source.specs.declared.links.LinkFrame.{LinkFrame}
use Rattle.frame_ways.specs.SendQueues.{Took, first_time}
use Rattle.frame_ways.proofs.SendQueueLemmas.{gives}
use Rattle.frame_ways.proofs.TurnLemmas.{frames, none_first}
use Rattle.frame_ways.proofs.send_queue.SendQueue.take_at.Goals as goal
use Rattle.frame_ways.proofs.send_queue.SendQueue.take_at.Goals.{in-None, in-Some}

pub returns-then-ne-clause-gives : goal.returns-then-ne-clause-gives
returns-then-ne-clause-gives c n handed gone l =
    let took : Took c.args.tick None c.args.self.now c.args.self.now = search rules in gives n c.args.tick handed gone None c.args.self.now c.args.self.now took l

pub returns-clause-gives : goal.returns-clause-gives
returns-clause-gives c n handed gone l =
    let left = frames c.pop_first.new.self.entries in
    elim c.match-pop_first.branch [
      | in-None w ↦
          let empty = none_first c.args.tick c.self.inside.waiting.entries (λ h. let some = w.in-None.ensures.variant.1 h in absurd (cc some)) in
          let took : Took c.args.tick None c.args.self.now left =
          (ap frames w.in-None.ensures.unchanged ∙ c.self.view_is, λ e. empty (sym e ∙ sym (ap (λ (q : List LinkFrame). first_time q) c.self.view_is))) in
          rw w.result-is (gives n c.args.tick handed gone None c.args.self.now left took l)
      | in-Some w ↦
          let f : LinkFrame = record { at = w.in-Some.turn.at; ep = w.in-Some.turn.ep; frame = w.in-Some.frame } in
          let took : Took c.args.tick (Some f) c.args.self.now left = search rules in
          rw w.result-is (gives n c.args.tick handed gone (Some f) c.args.self.now left took l)
    ]
