use Rattle.std.proofs.Common.{◌≡◌, ◌+◌, ◌-◌, ◌≤◌, length, drop, IfSome}
use Rattle.ecpri_frames.specs.Gathering.{gathered}
use Rattle.ecpri_frames.specs.Left.{left_of}
use Rattle.ecpri_frames.specs.States.{tells}
use Rattle.ecpri_frames.proofs.Walking.{held_of}
use Rattle.ecpri_frames.proofs.whole.MessagesIterator.next.Given as goal

abbrev pub invariant-loop-self : goal.invariant-loop-self
invariant-loop-self l = record {
  frame : l.self.frame.now ≡ l.fn.self.frame.now;
  held : IfSome l.held (λ p. p.0 + 4 ≤ l.self.at);
  left : left_of l.fn.self ≡ gathered (held_of l.held) (tells l.self.pdu (drop l.self.at l.self.frame.now)).items;
}

abbrev pub decreases-loop-self : goal.decreases-loop-self
decreases-loop-self l = length l.self.frame.now - l.self.at
