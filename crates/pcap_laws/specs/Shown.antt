-- The packets of a capture file, whatever frames are wanted.
use Rattle.std.specs.Prelude.{ℕ, List, [], ◌∷◌, ◌++◌, Result, Ok, Err}
use Rattle.std.specs.List.{AllByRecursion}
use Rattle.pcap_frames.specs.declared.refusals.PcapRefusal.{PcapRefusal}
use Rattle.pcap_frames.specs.declared.refusals.PcapWhy.{PcapWhy}
use Rattle.pcap_frames.specs.Parts.{Opened, opened, parts_of}
use Rattle.pcap_frames.specs.Blocks.{Block, Held, begins, adds, shows, nothing}
use Rattle.pcap_frames.specs.PcapngPackets.{Seen}

-- the packet that a part shows
abbrev pub shown : Held → List Seen
shown (begins little) = []
shown (adds i) = []
shown (shows seen) = seen ∷ []
shown nothing = []

abbrev pub shown_at : Result Block PcapWhy → List Seen
shown_at (Ok b) = shown b.held
shown_at (Err why) = []

-- the packets of some parts, in their order
unfoldable pub packets_in : List (Result Block PcapWhy) → List Seen
packets_in [] = []
packets_in (part ∷ rest) = shown_at part ++ packets_in rest

-- those of a file
abbrev pub packets_by : Result Opened PcapRefusal → List ℕ → List Seen
packets_by (Ok o) bytes = packets_in (parts_of o bytes)
packets_by (Err refusal) bytes = []

abbrev pub packets_of : List ℕ → List Seen
packets_of bytes = packets_by (opened bytes) bytes

-- a part that is not refused
abbrev pub IsPart : Result Block PcapWhy → Type 0
IsPart (Ok b) = Unit {0}
IsPart (Err why) = ⊥

-- a file whose head is not refused and none of whose parts is, whatever its frames are
abbrev pub IsFileBy : Result Opened PcapRefusal → List ℕ → Type 0
IsFileBy (Ok o) bytes = AllByRecursion IsPart (parts_of o bytes)
IsFileBy (Err refusal) bytes = ⊥

abbrev pub IsFile : List ℕ → Type 0
IsFile bytes = IsFileBy (opened bytes) bytes
