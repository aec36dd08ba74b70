use Rattle.std.proofs.Common.{◌≡◌, length}
use Rattle.pcap_frames.specs.Wanted.{wanted_from}
use Rattle.pcap_frames.specs.Walks.{left_in, IsWalk}
use Rattle.pcap_frames.proofs.seeking.find.Given as goal

abbrev pub invariant-loop-step : goal.invariant-loop-step
invariant-loop-step l = record {
  walk : IsWalk l.left;
  so_far : wanted_from l.whose (left_in l.walk) ≡ wanted_from l.whose (left_in l.left);
}

abbrev pub decreases-loop-step : goal.decreases-loop-step
decreases-loop-step l = length l.left.rest.now
