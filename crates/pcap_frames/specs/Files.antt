-- A classic pcap file: its head, and one record (this project's profile).
use Rattle.std.specs.Prelude.{ℕ, ◌+◌, ◌-◌, ◌*◌, ◌^◌, ◌%◌, nat_lt, nat_eq, if◌then◌else◌, Bool, true, false, List, [], ◌∷◌, length, take, drop, Option, Some, None, Result, Ok, Err}
use Rattle.std.specs.List.{starts_with}
use Rattle.byteorder.specs.Endian.{big_number, little_number}
use Rattle.pcap_frames.specs.declared.refusals.PcapRefusal.{PcapRefusal}
use Rattle.pcap_frames.specs.declared.refusals.PcapWhy.TheVariants.{Magic, Cut, LinkType}
use Rattle.pcap_frames.specs.declared.values.Format.{Format}

-- the number in the first four bytes, in the file's order
abbrev pub word_of : Bool → List ℕ → ℕ
word_of little bytes = if little then little_number 4 bytes else big_number 4 bytes

-- the order of bytes and the unit of fractions that the magic tells
abbrev pub format_of : List ℕ → Option Format
format_of bytes =
    if starts_with nat_eq bytes (0xa1 ∷ 0xb2 ∷ 0xc3 ∷ 0xd4 ∷ []) then Some (record { little = false; nanos = false })
    else (if starts_with nat_eq bytes (0xa1 ∷ 0xb2 ∷ 0x3c ∷ 0x4d ∷ []) then Some (record { little = false; nanos = true })
    else (if starts_with nat_eq bytes (0xd4 ∷ 0xc3 ∷ 0xb2 ∷ 0xa1 ∷ []) then Some (record { little = true; nanos = false })
    else (if starts_with nat_eq bytes (0x4d ∷ 0x3c ∷ 0xb2 ∷ 0xa1 ∷ []) then Some (record { little = true; nanos = true })
    else None)))

-- the head of 24 bytes after a magic that was found: the low 16 bits of the link type are those of Ethernet
abbrev pub head_behind : Option Format → List ℕ → Result Format PcapRefusal
head_behind None bytes = Err (record { place = 0; why = Magic })
head_behind (Some format) bytes =
    if nat_lt (length bytes) 24 then Err (record { place = 0; why = Cut })
    else (if nat_eq (word_of format.little (drop 20 bytes) % 65536) 1 then Ok format
    else Err (record { place = 20; why = LinkType }))

abbrev pub head_of : List ℕ → Result Format PcapRefusal
head_of bytes = head_behind (format_of bytes) bytes

-- a record: when its packet was seen, and the bytes of it that were kept
pub record Recorded : Type 0 where
  pub seconds : ℕ
  pub fraction : ℕ
  pub packet : List ℕ

-- how many bytes a record has whose packet has a number of bytes
abbrev pub record_size : ℕ → ℕ
record_size kept = 16 + kept

-- how many bytes of the packet were kept, of the record that the bytes begin with
abbrev pub kept_of : Bool → List ℕ → ℕ
kept_of little bytes = word_of little (drop 8 bytes)

-- the record that the bytes begin with, where they hold it whole
abbrev pub record_of : Bool → List ℕ → Option Recorded
record_of little bytes =
    if nat_lt (length bytes) 16 then None
    else (if nat_lt (length bytes - 16) (kept_of little bytes) then None
    else Some (record { seconds = word_of little bytes; fraction = word_of little (drop 4 bytes); packet = take (kept_of little bytes) (drop 16 bytes) }))

-- when a packet was seen, in nanoseconds
abbrev pub time_of : Bool → Recorded → ℕ
time_of nanos r = r.seconds * 10 ^ 9 + (if nanos then r.fraction else r.fraction * 1000)
