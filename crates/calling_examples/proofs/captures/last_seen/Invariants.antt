use Rattle.std.proofs.Common.{◌≡◌, None, map}
use Rattle.std.specs.List.{last_or}
use Rattle.pcap_frames.specs.Frames.{Timed}
use Rattle.pcap_frames.specs.Left.{left_of}
use Rattle.calling_examples.proofs.captures.last_seen.Given as goal

-- after the last time so far, the last of those that are left is the last of all
abbrev pub invariant-loop-frame : goal.invariant-loop-frame
invariant-loop-frame l =
    last_or l.last (map (λ (t : Timed). t.at) (left_of l.frame-iterator)) ≡ last_or None (map (λ (t : Timed). t.at) (left_of l.initial.frame-iterator))
