use Rattle.std.proofs.Common.{◌≡◌, ◌-◌, ◌≤◌, length, drop}
use Rattle.ecpri_frames.specs.Messages.{pdu as pdu_of}
use Rattle.ecpri_frames.specs.States.{used_by, tells}
use Rattle.ecpri_frames.proofs.whole.Messages.refusal.Given as goal

abbrev pub invariant-loop-at : goal.invariant-loop-at
invariant-loop-at l = record {
  within : l.at ≤ length l.self.frame.now;
  used : used_by l.pdu ≡ l.at;
  refusal : (tells l.pdu (drop l.at l.self.frame.now)).refusal ≡ (pdu_of l.self.frame.now).refusal;
}

abbrev pub decreases-loop-at : goal.decreases-loop-at
decreases-loop-at l = length l.self.frame.now - l.at
