-- Frames as a classic pcap file of nanoseconds, highest byte first (this project's profile).
use Rattle.std.specs.Prelude.{ℕ, ℤ, pos, negsuc, ◌+◌, ◌/◌, ◌%◌, ◌^◌, if◌then◌else◌, List, [], ◌∷◌, ◌++◌, length, Option, Some, None, unwrap_or}
use Rattle.std.specs.List.{flat_map, filter}
use Rattle.std.specs.Int.{w32, to_be_bytes}
use Rattle.air_source.specs.declared.events.Side.{Side}
use Rattle.air_source.specs.declared.events.Side.TheVariants.{Ru, Du}
use Rattle.capture_records.specs.Records.{Arrived}
use Rattle.pcap_export.specs.declared.ways.Ways.{Ways}
use Rattle.pcap_export.specs.Ways.{is_wanted}
use Rattle.air_source.specs.Units.{other}
use Rattle.fh_base.specs.declared.nanoseconds.TheConstants.{NANOSECOND}

-- the head of the file: the magic of nanoseconds, version 2.4, two numbers that are 0, records of at most 262,144 bytes, Ethernet
abbrev pub file_head : List ℕ
file_head =
    0xa1 ∷ 0xb2 ∷ 0x3c ∷ 0x4d ∷ 0 ∷ 2 ∷ 0 ∷ 4 ∷ 0 ∷ 0 ∷ 0 ∷ 0 ∷ 0 ∷ 0 ∷ 0 ∷ 0 ∷ 0 ∷ 4 ∷ 0 ∷ 0 ∷ 0 ∷ 0 ∷ 0 ∷ 1 ∷ []

-- the address of a unit: locally administered, of one station (IEEE 802)
abbrev pub address_of : Side → List ℕ
address_of Ru = 2 ∷ 0 ∷ 0 ∷ 0 ∷ 0 ∷ 1 ∷ []
address_of Du = 2 ∷ 0 ∷ 0 ∷ 0 ∷ 0 ∷ 2 ∷ []

-- the Ethernet header of a frame to a unit: destination, source, and the EtherType of eCPRI (IEEE 802.3)
abbrev pub ethernet_head : Side → List ℕ
ethernet_head side = address_of side ++ (address_of (other side) ++ 0xae ∷ 0xfe ∷ [])

-- a time in whole nanoseconds, rounded down, where it is not before 0; a tick is 1/1536 ns
abbrev pub nanoseconds_of : ℤ → Option ℕ
nanoseconds_of (pos ticks) = Some (ticks / NANOSECOND)
nanoseconds_of (negsuc n) = None

-- the nanosecond of an arrival
abbrev pub ns_of : Arrived → ℕ
ns_of a = unwrap_or (nanoseconds_of a.at.0) 0

-- what is before a packet: seconds, nanoseconds, and twice how many bytes it has
abbrev pub record_head : ℕ → ℕ → List ℕ
record_head ns kept = to_be_bytes w32 (ns / 10 ^ 9) ++ (to_be_bytes w32 (ns % 10 ^ 9) ++ (to_be_bytes w32 kept ++ to_be_bytes w32 kept))

-- the record of an arrival
abbrev pub packet_bytes : Arrived → List ℕ
packet_bytes a = record_head (ns_of a) (14 + length a.frame) ++ (ethernet_head a.side ++ a.frame)

-- the arrivals that are written
abbrev pub wanted : Ways → List Arrived → List Arrived
wanted ways landed = filter (λ a. is_wanted ways a.side) landed

-- their records
abbrev pub packets_bytes : Ways → List Arrived → List ℕ
packets_bytes ways landed = flat_map packet_bytes (wanted ways landed)

-- the record of an arrival, where it is written
abbrev pub wanted_bytes : Ways → Arrived → List ℕ
wanted_bytes ways a = if is_wanted ways a.side then packet_bytes a else []

-- the file
abbrev pub pcap_bytes : Ways → List Arrived → List ℕ
pcap_bytes ways landed = file_head ++ packets_bytes ways landed
