-- A pass over the parts of a file.
use Rattle.std.specs.Prelude.{◌≡◌, ℕ, List, drop, ◌++◌, Option, Some, None, Result, Ok, Err}
use Rattle.pcap_frames.specs.declared.refusals.PcapWhy.{PcapWhy}
use Rattle.pcap_frames.specs.declared.sections.Sections.{Sections}
use Rattle.pcap_frames.specs.declared.values.Whose.{Whose}
use Rattle.pcap_frames.specs.Parts.{Reading, Opened, parts_from, parts_of, interfaces_in}
use Rattle.pcap_frames.specs.Packets.{reading_as}
use Rattle.pcap_frames.specs.Wanted.{Wanted, wanted_from, first_time}
use Rattle.pcap_frames.specs.Checked.{frame_fault, tested}
use Rattle.pcap_frames.specs.declared.pcapng_values.Interface.{Interface}

-- the first time, where one was found, or else this
abbrev pub first_or : Option ℕ → ℕ → ℕ
first_or None later = later
first_or (Some first) later = first

-- a fault, or the first time after a frame
abbrev pub found_or : Option PcapWhy → ℕ → Result (Option ℕ) PcapWhy
found_or None first = Ok (Some first)
found_or (Some why) first = Err why

-- the first time after what a part may have of a wanted frame, or its fault
abbrev pub found_by : ℕ → Option ℕ → Option Wanted → Result (Option ℕ) PcapWhy
found_by start first None = Ok first
found_by start first (Some w) = found_or (frame_fault (first_or first w.time) start w) (first_or first w.time)

-- the interfaces of the last section, and how what is left is read
abbrev pub interfaces_now : Sections → List Interface
interfaces_now s = drop s.begin s.interfaces.items

abbrev pub reading_now : Sections → Reading
reading_now s = reading_as s.layout (interfaces_now s)

-- from a place on parts are left that decide the rest: the first time, the tests and the interfaces
pub record Passes (whose : Whose) (start : ℕ) (bytes : List ℕ) (o : Opened) (place : ℕ) (found : Option ℕ) (reading : Reading) (table : List Interface) : Type 0 where
  pub first : first_time (wanted_from whose (parts_of o bytes)) ≡ first_or found (first_time (wanted_from whose (parts_from reading 0 (drop place bytes))))
  pub tests : tested whose (first_time (wanted_from whose (parts_of o bytes))) start o.place (parts_of o bytes)
      ≡ tested whose (first_time (wanted_from whose (parts_of o bytes))) start place (parts_from reading 0 (drop place bytes))
  pub interfaces : interfaces_in (parts_of o bytes) ≡ table ++ interfaces_in (parts_from reading 0 (drop place bytes))
