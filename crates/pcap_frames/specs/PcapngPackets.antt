-- A packet's block (pcapng, the enhanced form): interface, time, kept length, original length, and the bytes that were kept.
use Rattle.std.specs.Prelude.{ℕ, ◌+◌, ◌-◌, ◌*◌, ◌^◌, nat_lt, nat_eq, if◌then◌else◌, Bool, List, length, take, drop, slice_get, Option, Some, None, Result, Ok, Err}
use Rattle.pcap_frames.specs.declared.pcapng_refusals.BlockWhy.{BlockWhy}
use Rattle.pcap_frames.specs.declared.pcapng_refusals.BlockWhy.TheVariants.{Cut, NoInterface, LinkType}
use Rattle.pcap_frames.specs.declared.pcapng_values.Interface.{Interface}
use Rattle.pcap_frames.specs.Numbers.{number, padded}
use Rattle.pcap_frames.specs.Times.{time_of}

-- a packet: when it was seen, and the bytes of it that were kept
pub record Seen : Type 0 where
  pub time : ℕ
  pub packet : List ℕ

-- its time in units of its interface: the high 32 bits, and the low
abbrev pub count_of : Bool → List ℕ → ℕ
count_of little body = number little 4 (drop 4 body) * 2 ^ 32 + number little 4 (drop 8 body)

-- the packet of an interface, where there is this interface
abbrev pub packet_by : Bool → Option Interface → List ℕ → Result Seen BlockWhy
packet_by little None body = Err NoInterface
packet_by little (Some i) body =
    if nat_lt (length body - 20) (padded (number little 4 (drop 12 body))) then Err Cut
    else (if nat_eq i.link 1 then Ok (record { time = time_of i (count_of little body); packet = take (number little 4 (drop 12 body)) (drop 20 body) })
    else Err LinkType)

-- the packet that a body holds, in a section that has these interfaces
abbrev pub packet_of : Bool → List Interface → List ℕ → Result Seen BlockWhy
packet_of little interfaces body = packet_by little (slice_get interfaces (number little 4 body)) body
