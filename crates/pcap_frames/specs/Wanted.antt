-- The eCPRI frames of a file that are wanted, and the units that they go to (this project's profile).
use Rattle.std.specs.Prelude.{ℕ, if◌then◌else◌, List, [], ◌∷◌, Option, Some, None, Result, Ok, Err}
use Rattle.air_source.specs.declared.events.Side.{Side}
use Rattle.air_source.specs.declared.events.Side.TheVariants.{Ru, Du}
use Rattle.pcap_frames.specs.declared.refusals.PcapRefusal.{PcapRefusal}
use Rattle.pcap_frames.specs.declared.refusals.PcapWhy.{PcapWhy}
use Rattle.pcap_frames.specs.declared.values.Whose.{Whose}
use Rattle.pcap_frames.specs.declared.values.Whose.TheVariants.{All, Port}
use Rattle.pcap_frames.specs.Ethernet.{stands_at, ecpri_in}
use Rattle.pcap_frames.specs.Parts.{Opened, opened, parts_of}
use Rattle.pcap_frames.specs.Blocks.{Block, Held, begins, adds, shows, nothing}
use Rattle.pcap_frames.specs.PcapngPackets.{Seen}

-- a frame that is wanted: the unit that it goes to, and when its packet was seen
pub record Wanted : Type 0 where
  pub side : Side
  pub time : ℕ
  pub frame : List ℕ

-- the unit that a packet goes to: the first six bytes of an Ethernet frame are its destination, the next its source (IEEE 802.3)
abbrev pub side_of : Whose → List ℕ → Option Side
side_of (All side) packet = Some side
side_of (Port address) packet = if stands_at packet 0 address then Some Ru else (if stands_at packet 6 address then Some Du else None)

-- a frame that a packet has, where it goes to a unit
abbrev pub wanted_by : Option Side → Option (List ℕ) → ℕ → Option Wanted
wanted_by (Some side) (Some frame) time = Some (record { side = side; time = time; frame = frame })
wanted_by (Some side) None time = None
wanted_by None frame time = None

abbrev pub wanted_in : Whose → Seen → Option Wanted
wanted_in whose seen = wanted_by (side_of whose seen.packet) (ecpri_in seen.packet) seen.time

-- the frame of a part
abbrev pub wanted_of : Whose → Held → Option Wanted
wanted_of whose (begins little) = None
wanted_of whose (adds i) = None
wanted_of whose (shows seen) = wanted_in whose seen
wanted_of whose nothing = None

abbrev pub wanted_at : Whose → Result Block PcapWhy → Option Wanted
wanted_at whose (Ok b) = wanted_of whose b.held
wanted_at whose (Err w) = None

-- one more, where there is one
abbrev pub one_before : Option Wanted → List Wanted → List Wanted
one_before None later = later
one_before (Some w) later = w ∷ later

-- the frames of some parts
unfoldable pub wanted_from : Whose → List (Result Block PcapWhy) → List Wanted
wanted_from whose [] = []
wanted_from whose (part ∷ rest) = one_before (wanted_at whose part) (wanted_from whose rest)

-- those of a file
abbrev pub wanted_through : Whose → Result Opened PcapRefusal → List ℕ → List Wanted
wanted_through whose (Ok o) bytes = wanted_from whose (parts_of o bytes)
wanted_through whose (Err refusal) bytes = []

abbrev pub wanted_frames : Whose → List ℕ → List Wanted
wanted_frames whose bytes = wanted_through whose (opened bytes) bytes

-- the time of the first, 0 where there is none
abbrev pub first_time : List Wanted → ℕ
first_time [] = 0
first_time (w ∷ rest) = w.time
