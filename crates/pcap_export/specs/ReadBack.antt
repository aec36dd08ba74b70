-- What is written is read back.
use Rattle.std.specs.Prelude.{◌≡◌, ◌≤◌, ◌*◌, ◌^◌, ℕ, pos, List, [], ◌∷◌, length, map, Ok}
use Rattle.std.specs.List.{AllByRecursion}
use Rattle.capture_records.specs.Records.{Arrived}
use Rattle.air_source.specs.declared.events.Side.{Side}
use Rattle.air_source.specs.declared.events.Side.TheVariants.{Ru}
use Rattle.pcap_frames.specs.declared.values.Whose.{Whose}
use Rattle.pcap_frames.specs.declared.values.Whose.TheVariants.{All, Port}
use Rattle.pcap_frames.specs.Checked.{checked}
use Rattle.pcap_frames.specs.Frames.{Timed, frames_of}
use Rattle.pcap_export.specs.Packets.{address_of, ns_of}
use Rattle.fh_base.specs.declared.source.TheConstants.{FRAME_LIMIT}
use Rattle.fh_base.specs.declared.nanoseconds.TheConstants.{NANOSECOND}

-- an arrival from 0 to 1,000 s with a frame of at most 9,216 bytes
pub record IsUsual (a : Arrived) : Type 0 where
  pub ticks : ℕ
  pub is : a.at.0 ≡ pos ticks
  pub low : ticks ≤ NANOSECOND * 10 ^ 12
  pub short : length a.frame ≤ FRAME_LIMIT

abbrev pub AreUsual : List Arrived → Type 0
AreUsual landed = AllByRecursion IsUsual landed

-- how a file may be read: each frame as one to this unit, or each by the address of the radio unit
abbrev pub IsReading : Whose → Type 0
IsReading (All side) = Unit {0}
IsReading (Port address) = address ≡ address_of Ru

-- the unit to which a frame to a unit goes, as it is read
abbrev pub side_by : Whose → Side → Side
side_by (All side) own = side
side_by (Port address) own = own

-- the frame of an arrival at its nanosecond
abbrev pub timed_at : Whose → Arrived → Timed
timed_at whose a = record { side = side_by whose a.side; at = pos (ns_of a); frame = a.frame }

-- the nanosecond of the first, 0 where there is none
abbrev pub start_of : List Arrived → ℕ
start_of [] = 0
start_of (a ∷ rest) = ns_of a

-- a file that is accepted, with the start of its first frame, and in which these arrivals are found, in order
pub record IsReadBack (whose : Whose) (file : List ℕ) (landed : List Arrived) : Type 0 where
  pub accepted : checked whose file (start_of landed) ≡ Ok tt
  pub frames : frames_of whose file (start_of landed) ≡ map (timed_at whose) landed
