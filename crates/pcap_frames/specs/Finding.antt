-- From one frame that is wanted to the next.
use Rattle.std.specs.Prelude.{◌≡◌, [], ◌∷◌, Option, Some, None}
use Rattle.pcap_frames.specs.declared.finding.Found.{Found}
use Rattle.pcap_frames.specs.declared.values.Whose.{Whose}
use Rattle.pcap_frames.specs.declared.walks.Walk.{Walk}
use Rattle.pcap_frames.specs.Packets.{wanted_as}
use Rattle.pcap_frames.specs.Wanted.{wanted_from}
use Rattle.pcap_frames.specs.Walks.{left_in, IsWalk}

-- the first frame that is wanted, and what is left after it, or none
abbrev pub Finds : Whose → Walk → Option Found → Type 0
Finds whose w None = wanted_from whose (left_in w) ≡ []
Finds whose w (Some found) = (wanted_from whose (left_in w) ≡ wanted_as found.wanted ∷ wanted_from whose (left_in found.behind)) × IsWalk found.behind
