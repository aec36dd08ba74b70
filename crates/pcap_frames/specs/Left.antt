-- What an iterator over frames has left.
use Rattle.std.specs.Prelude.{List, map}
use Rattle.pcap_frames.specs.declared.iterating.Frames.{Frames}
use Rattle.pcap_frames.specs.Wanted.{wanted_from}
use Rattle.pcap_frames.specs.Frames.{Timed, timed_as}
use Rattle.pcap_frames.specs.Walks.{left_in}

-- the frames that are wanted of the parts that are left
abbrev pub left_of : Frames → List Timed
left_of it = map (timed_as it.first it.start) (wanted_from it.whose (left_in it.walk))
