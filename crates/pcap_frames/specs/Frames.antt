-- The eCPRI frames of a file that are wanted, in the file's order, each with its time.
use Rattle.std.specs.Prelude.{◌≡◌, ◌≤◌, length, ℕ, ℤ, pos, ◌+◌, ◌-◌, Bool, List, map, is_none}
use Rattle.std.specs.List.{AllByRecursion, list_all}
use Rattle.air_source.specs.declared.events.Side.{Side}
use Rattle.pcap_frames.specs.declared.values.PcapFrame.{PcapFrame}
use Rattle.pcap_frames.specs.declared.values.Whose.{Whose}
use Rattle.pcap_frames.specs.Wanted.{Wanted, wanted_frames, first_time}
use Rattle.pcap_frames.specs.Checked.{frame_fault}
use Rattle.fh_base.specs.declared.nanoseconds.TheConstants.{LAST_TIME}
use Rattle.fh_base.specs.declared.source.TheConstants.{FRAME_LIMIT}

-- a frame, the unit that it goes to, and when it was seen, in nanoseconds
pub record Timed : Type 0 where
  pub side : Side
  pub at : ℤ
  pub frame : List ℕ

-- what the iterator gives, as such
abbrev pub timed_of : PcapFrame → Timed
timed_of f = record { side = f.side; at = f.at; frame = f.frame.now }

-- a frame that is wanted: its time is that of its packet less the first's, and the start
abbrev pub timed_as : ℕ → ℕ → Wanted → Timed
timed_as first start w = record { side = w.side; at = pos (start + w.time - first); frame = w.frame }

-- the frames of a file that are wanted
abbrev pub frames_of : Whose → List ℕ → ℕ → List Timed
frames_of whose bytes start = map (timed_as (first_time (wanted_frames whose bytes)) start) (wanted_frames whose bytes)

-- frames that have no fault
abbrev pub all_fine : ℕ → ℕ → List Wanted → Bool
all_fine first start ws = list_all (λ w. is_none (frame_fault first start w)) ws

-- a frame that a file may have: its time lies from 0 to 10^12 ns, and it has at most 9,216 bytes
pub record IsShown (t : Timed) : Type 0 where
  pub ns : ℕ
  pub is : t.at ≡ pos ns
  pub low : ns ≤ LAST_TIME
  pub short : length t.frame ≤ FRAME_LIMIT

abbrev pub AreShown : List Timed → Type 0
AreShown ts = AllByRecursion IsShown ts
