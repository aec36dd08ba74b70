-- The classic pcap file of nanoseconds that has some packets (the format of libpcap, version 2.4).
use Rattle.std.specs.Prelude.{ℕ, ◌-◌, ◌/◌, ◌%◌, ◌^◌, if◌then◌else◌, Bool, List, ◌++◌, length}
use Rattle.std.specs.Int.{w16, w32, to_be_bytes, to_le_bytes}
use Rattle.std.specs.List.{flat_map}
use Rattle.pcap_frames.specs.PcapngPackets.{Seen}

-- a packet, and how many bytes it had before it was cut, as its record says: any number
pub record Recording : Type 0 where
  pub seen : Seen
  pub original : ℕ

-- a number of 16 bits, and one of 32, lowest byte first or highest
abbrev pub short_bytes : Bool → ℕ → List ℕ
short_bytes little n = if little then to_le_bytes w16 n else to_be_bytes w16 n

abbrev pub word_bytes : Bool → ℕ → List ℕ
word_bytes little n = if little then to_le_bytes w32 n else to_be_bytes w32 n

-- the head: the magic of nanoseconds, version 2.4, two numbers that are 0, a limit of lengths, and the link type of Ethernet
abbrev pub classic_head : Bool → ℕ → List ℕ
classic_head little limit =
    word_bytes little 0xa1b23c4d
    ++ (short_bytes little 2 ++ (short_bytes little 4 ++ (word_bytes little 0 ++ (word_bytes little 0 ++ (word_bytes little limit ++ word_bytes little 1)))))

-- what is before a packet: seconds, less by a number, nanoseconds, how many bytes follow, and how many there were
abbrev pub record_head : Bool → ℕ → Recording → List ℕ
record_head little base r =
    word_bytes little (r.seen.time / 10 ^ 9 - base)
    ++ (word_bytes little (r.seen.time % 10 ^ 9) ++ (word_bytes little (length r.seen.packet) ++ word_bytes little r.original))

abbrev pub record_bytes : Bool → ℕ → Recording → List ℕ
record_bytes little base r = record_head little base r ++ r.seen.packet

-- the file of some packets, in their order, whose times are less by a number of seconds
abbrev pub classic_of : Bool → ℕ → ℕ → List Recording → List ℕ
classic_of little limit base rs = classic_head little limit ++ flat_map (record_bytes little base) rs
