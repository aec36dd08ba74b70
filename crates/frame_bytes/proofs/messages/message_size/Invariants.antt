use Rattle.std.proofs.Common.{◌≡◌, ◌≤◌, ◌*◌, ◌+◌, take}
use Rattle.frame_bytes.specs.Messages.{sections_size}
use Rattle.frame_bytes.proofs.messages.message_size.Given as goal

abbrev pub invariant-loop-section : goal.invariant-loop-section
invariant-loop-section l = (l.size ≡ 4 + sections_size l.carrier (take l.section-index l.sections)) × (l.size ≤ 4 + l.section-index * 4194304)
