use Rattle.std.proofs.Common.{◌+◌, drop, arith, length-drop}
use Rattle.ecpri_frames.proofs.Walking.{fed_refusal, refused_is}
use Rattle.ecpri_frames.proofs.whole.Messages.refusal.Goals as goal

pub returns-in-Refused : goal.returns-in-Refused
returns-in-Refused c =
    let frame = c.args.self.now.frame.now in
    refused_is c.feed-step.new.self c.feed-step.result.used c.in-Refused.refusal (drop (c.loop-at.at + c.feed-step.result.used) frame) _
    (rw c.in-Refused.is at c.feed-step.ensures.answers)
    (fed_refusal c.loop-at.pdu c.feed-step.new.self frame c.loop-at.at c.feed-step.result.used c.feed-step.result.what c.loop-at.invariant.refusal c.feed-step.ensures.tells)

pub loop-at-preserved : goal.loop-at-preserved
loop-at-preserved c =
    let frame = c.args.self.now.frame.now in
    record {
      within = omega (arith, length-drop c.loop-at.at frame);
      used = omega arith;
      refusal = fed_refusal c.loop-at.pdu c.feed-step.new.self frame c.loop-at.at c.feed-step.result.used c.feed-step.result.what c.loop-at.invariant.refusal c.feed-step.ensures.tells;
    }
