-- A file as a list of its parts: the records of a classic file, or the blocks of a pcapng file.
use Rattle.std.specs.Prelude.{ℕ, zero, suc, ◌-◌, if◌then◌else◌, Bool, false, List, [], ◌∷◌, ◌++◌, length, drop, Option, Some, None, Result, Ok, Err}
use Rattle.pcap_frames.specs.declared.refusals.PcapRefusal.{PcapRefusal}
use Rattle.pcap_frames.specs.declared.refusals.PcapWhy.{PcapWhy}
use Rattle.pcap_frames.specs.declared.refusals.PcapWhy.TheVariants.{Cut}
use Rattle.pcap_frames.specs.declared.values.Format.{Format}
use Rattle.pcap_frames.specs.Files.{Recorded, record_size, record_of, time_of, head_of}
use Rattle.pcap_frames.specs.Refusals.{why_of}
use Rattle.pcap_frames.specs.declared.pcapng_refusals.BlockWhy.{BlockWhy}
use Rattle.pcap_frames.specs.declared.pcapng_values.Interface.{Interface}
use Rattle.pcap_frames.specs.Blocks.{Block, Held, begins, adds, shows, nothing, is_section, block_of}

-- how what is left of a file is read: the order of bytes of a classic file and its unit of time, or the order of bytes of a section
-- and the interfaces that it has so far
pub data Reading : Type 0 where
  records : Format → Reading
  blocks : Bool → List Interface → Reading

-- a record, as a part that shows a packet
abbrev pub recorded : Format → Option Recorded → Result Block PcapWhy
recorded format None = Err Cut
recorded format (Some r) = Ok (record { size = record_size (length r.packet); held = shows (record { time = time_of format.nanos r; packet = r.packet }) })

-- a block, as a part
abbrev pub blocked : Result Block BlockWhy → Result Block PcapWhy
blocked (Ok b) = Ok b
blocked (Err w) = Err (why_of w)

-- the part that the bytes begin with
abbrev pub part_of : Reading → List ℕ → Result Block PcapWhy
part_of (records format) bytes = recorded format (record_of format.little bytes)
part_of (blocks little interfaces) bytes = blocked (block_of little interfaces bytes)

-- a section's next interface
abbrev pub with_interface : Interface → Reading → Reading
with_interface i (records format) = records format
with_interface i (blocks little interfaces) = blocks little (interfaces ++ i ∷ [])

-- how the parts after one are read: a section has an order of its own and no interfaces at first
abbrev pub after : Reading → Held → Reading
after r (begins little) = blocks little []
after r (adds i) = with_interface i r
after r (shows seen) = r
after r nothing = r

abbrev pub after_part : Reading → Result Block PcapWhy → Reading
after_part r (Ok b) = after r b.held
after_part r (Err w) = r

-- how many bytes after its first belong to a part; where it is refused, all that are left
abbrev pub behind_first : Result Block PcapWhy → ℕ → ℕ
behind_first (Ok b) left = b.size - 1
behind_first (Err w) left = left

-- the parts, where the first `skip` bytes belong to one that was read; one that is refused is the last
unfoldable pub parts_from : Reading → ℕ → List ℕ → List (Result Block PcapWhy)
parts_from r skip [] = []
parts_from r (suc skip) (b ∷ bytes) = parts_from r skip bytes
parts_from r zero (b ∷ bytes) =
    part_of r (b ∷ bytes) ∷ parts_from (after_part r (part_of r (b ∷ bytes))) (behind_first (part_of r (b ∷ bytes)) (length bytes)) bytes

-- how a file is read, and from which byte on
pub record Opened : Type 0 where
  pub reading : Reading
  pub place : ℕ

-- a classic file, where its head is not refused
abbrev pub opened_behind : Result Format PcapRefusal → Result Opened PcapRefusal
opened_behind (Ok format) = Ok (record { reading = records format; place = 24 })
opened_behind (Err refusal) = Err refusal

-- a file that begins as a section does is a pcapng file, whose first block has an order of its own; every other is a classic file
abbrev pub opened : List ℕ → Result Opened PcapRefusal
opened bytes = if is_section bytes then Ok (record { reading = blocks false []; place = 0 }) else opened_behind (head_of bytes)

-- the parts of a file
abbrev pub parts_of : Opened → List ℕ → List (Result Block PcapWhy)
parts_of o bytes = parts_from o.reading 0 (drop o.place bytes)

-- the interface that a part adds
abbrev pub added : Held → List Interface
added (begins little) = []
added (adds i) = i ∷ []
added (shows seen) = []
added nothing = []

abbrev pub added_at : Result Block PcapWhy → List Interface
added_at (Ok b) = added b.held
added_at (Err w) = []

-- the interfaces of all sections, in the file's order
unfoldable pub interfaces_in : List (Result Block PcapWhy) → List Interface
interfaces_in [] = []
interfaces_in (part ∷ rest) = added_at part ++ interfaces_in rest

abbrev pub interfaces_by : Result Opened PcapRefusal → List ℕ → List Interface
interfaces_by (Ok o) bytes = interfaces_in (parts_of o bytes)
interfaces_by (Err refusal) bytes = []

abbrev pub interfaces_of : List ℕ → List Interface
interfaces_of bytes = interfaces_by (opened bytes) bytes
