-- A capture file, pcapng or classic, and the classic file of nanoseconds that has its packets.
use Rattle.std.specs.Prelude.{◌≡◌, ◌≤◌, ◌<◌, ℕ, ◌+◌, ◌-◌, ◌*◌, ◌/◌, ◌^◌, Bool, List, map, All, Option, Some, None, Result, Ok, Err}
use Rattle.pcap_frames.specs.declared.refusals.PcapRefusal.{PcapRefusal}
use Rattle.pcap_frames.specs.declared.refusals.PcapWhy.{PcapWhy}
use Rattle.pcap_frames.specs.declared.values.Whose.{Whose}
use Rattle.pcap_frames.specs.Checked.{checked}
use Rattle.pcap_frames.specs.Frames.{frames_of}
use Rattle.pcap_frames.specs.PcapngPackets.{Seen}
use Rattle.pcap_laws.specs.Classic.{Recording, classic_of}
use Rattle.pcap_laws.specs.Shown.{packets_of, IsFile}

-- a packet whose seconds, less by a number, have a place in 32 bits
pub record HasPlace (base : ℕ) (seen : Seen) : Type 0 where
  pub low : base * 10 ^ 9 ≤ seen.time
  pub high : seen.time < (base + 2 ^ 32) * 10 ^ 9

-- a packet that was seen at a time or later, but within 2 ^ 32 - 1 seconds
pub record IsWithin (first : ℕ) (seen : Seen) : Type 0 where
  pub low : first ≤ seen.time
  pub high : seen.time < first + (2 ^ 32 - 1) * 10 ^ 9

-- a packet whose time counts from so many seconds later
abbrev pub later_by : ℕ → Seen → Seen
later_by base seen = record { time = seen.time - base * 10 ^ 9; packet = seen.packet }

-- the reason of a refusal, without its place
abbrev pub reason_of : Result (Unit {0}) PcapRefusal → Option PcapWhy
reason_of (Ok accepted) = None
reason_of (Err refusal) = Some refusal.why

-- two files that give the same: their frames with their ways and times, and why they are refused, whatever is wanted and whenever it starts.
-- The other has the packets of the first, with times that count from so many seconds later
pub record GivesTheSame (base : ℕ) (bytes other : List ℕ) : Type 0 where
  pub file : IsFile other
  pub packets : packets_of other ≡ map (later_by base) (packets_of bytes)
  pub refused : (whose : Whose) (start : ℕ) → reason_of (checked whose other start) ≡ reason_of (checked whose bytes start)
  pub frames : (whose : Whose) (start : ℕ) → frames_of whose other start ≡ frames_of whose bytes start

pub record ClassicGivesTheSame : Type 0 where
  -- the classic file of a file's packets, in either order of bytes, with any limit and any original lengths
  pub same : (little : Bool) (limit base : ℕ) (rs : List Recording) (bytes : List ℕ) → All (λ b. b < 256) bytes → IsFile bytes → map (λ r. r.seen) rs ≡ packets_of bytes
      → All (HasPlace base) (packets_of bytes) → GivesTheSame base bytes (classic_of little limit base rs)
  -- a file that is accepted, for any frames and any start, has no part that is refused
  pub accepted : (whose : Whose) (bytes : List ℕ) (start : ℕ) → checked whose bytes start ≡ Ok tt → IsFile bytes
  -- there is such a number of seconds where the times of all packets lie close enough
  pub placed : (first : ℕ) (packets : List Seen) → All (IsWithin first) packets → All (HasPlace (first / 10 ^ 9)) packets
