use Rattle.std.proofs.Common.{◌-◌, ◌≤◌, length}
use Rattle.pcap_frames.specs.Packets.{opened_as}
use Rattle.pcap_frames.specs.Passes.{Passes, reading_now}
use Rattle.pcap_frames.proofs.checking.check_parts.Given as goal

abbrev pub invariant-loop-place : goal.invariant-loop-place
invariant-loop-place l = record {
  within : l.place ≤ length l.bytes;
  begins : l.sections.begin ≤ length l.sections.interfaces.items;
  so_far : Passes l.whose l.start l.bytes (opened_as l.fn.opening) l.place l.first (reading_now l.sections) l.sections.interfaces.items;
}

abbrev pub decreases-loop-place : goal.decreases-loop-place
decreases-loop-place l = length l.bytes - l.place
