use Rattle.std.proofs.Common.{◌≡◌, length}
use Rattle.pcap_frames.specs.Interfaces.{described}
use Rattle.pcap_frames.proofs.interfaces.described.Given as goal

abbrev pub invariant-loop-choice : goal.invariant-loop-choice
invariant-loop-choice l = record { so_far : described l.little 0 l.fn.interface l.options ≡ described l.little 0 l.interface l.rest }

abbrev pub decreases-loop-choice : goal.decreases-loop-choice
decreases-loop-choice l = length l.rest
