-- What is tested of a file, part by part.
use Rattle.std.specs.Prelude.{ℕ, ◌+◌, ◌-◌, nat_lt, nat_le, if◌then◌else◌, Bool, ◌&&◌, List, [], ◌∷◌, length, Option, Some, None, Result, Ok, Err}
use Rattle.pcap_frames.specs.declared.refusals.PcapRefusal.{PcapRefusal}
use Rattle.pcap_frames.specs.declared.refusals.PcapWhy.{PcapWhy}
use Rattle.pcap_frames.specs.declared.refusals.PcapWhy.TheVariants.{LongFrame, TimeRange}
use Rattle.pcap_frames.specs.declared.values.Whose.{Whose}
use Rattle.pcap_frames.specs.Parts.{Opened, opened, parts_of}
use Rattle.pcap_frames.specs.Wanted.{Wanted, wanted_of, wanted_from, first_time}
use Rattle.pcap_frames.specs.Blocks.{Block}
use Rattle.fh_base.specs.declared.nanoseconds.TheConstants.{LAST_TIME}
use Rattle.fh_base.specs.declared.source.TheConstants.{FRAME_LIMIT}

-- a time within 0 to 10^12 ns, START counted from the first frame that is wanted
abbrev pub in_range : ℕ → ℕ → ℕ → Bool
in_range first start time = nat_le first (start + time) && nat_le (start + time - first) LAST_TIME

-- the fault of a frame that is wanted
abbrev pub frame_fault : ℕ → ℕ → Wanted → Option PcapWhy
frame_fault first start w =
    if nat_lt FRAME_LIMIT (length w.frame) then Some LongFrame
    else (if in_range first start w.time then None else Some TimeRange)

-- the fault of what a part may hold of a wanted frame; what is skipped has none
abbrev pub fault_of : ℕ → ℕ → Option Wanted → Option PcapWhy
fault_of first start None = None
fault_of first start (Some w) = frame_fault first start w

-- the fault of a part: its own, and then that of its frame
abbrev pub fault_at : Whose → ℕ → ℕ → Result Block PcapWhy → Option PcapWhy
fault_at whose first start (Err why) = Some why
fault_at whose first start (Ok b) = fault_of first start (wanted_of whose b.held)

-- the refusal of a part at a place, or what is found after it
abbrev pub passed_by : Option PcapWhy → ℕ → Result (Unit {0}) PcapRefusal → Result (Unit {0}) PcapRefusal
passed_by None place behind = behind
passed_by (Some why) place behind = Err (record { place = place; why = why })

abbrev pub size_of : Result Block PcapWhy → ℕ
size_of (Ok b) = b.size
size_of (Err why) = 0

-- the first refusal of the parts from a place on
unfoldable pub tested : Whose → ℕ → ℕ → ℕ → List (Result Block PcapWhy) → Result (Unit {0}) PcapRefusal
tested whose first start place [] = Ok tt
tested whose first start place (part ∷ rest) = passed_by (fault_at whose first start part) place (tested whose first start (place + size_of part) rest)

-- the tests of a file: of the head of a classic file, and then of the parts
abbrev pub checked_by : Whose → ℕ → List ℕ → Result Opened PcapRefusal → Result (Unit {0}) PcapRefusal
checked_by whose start bytes (Err refusal) = Err refusal
checked_by whose start bytes (Ok o) = tested whose (first_time (wanted_from whose (parts_of o bytes))) start o.place (parts_of o bytes)

abbrev pub checked : Whose → List ℕ → ℕ → Result (Unit {0}) PcapRefusal
checked whose bytes start = checked_by whose start bytes (opened bytes)
