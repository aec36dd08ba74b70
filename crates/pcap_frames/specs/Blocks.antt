-- One block of a pcapng file: type, length, body, and the length again.
use Rattle.std.specs.Prelude.{ℕ, ◌-◌, ◌%◌, nat_lt, nat_eq, if◌then◌else◌, Bool, true, false, ◌||◌, List, [], ◌∷◌, length, take, drop, Option, Some, None, Result, Ok, Err}
use Rattle.std.specs.List.{starts_with}
use Rattle.pcap_frames.specs.declared.pcapng_refusals.BlockWhy.{BlockWhy}
use Rattle.pcap_frames.specs.declared.pcapng_refusals.BlockWhy.TheVariants.{Cut, Magic, OldPacket}
use Rattle.pcap_frames.specs.declared.pcapng_values.Interface.{Interface}
use Rattle.pcap_frames.specs.Numbers.{number}
use Rattle.pcap_frames.specs.Interfaces.{interface_of}
use Rattle.pcap_frames.specs.PcapngPackets.{Seen, packet_of}

-- what a block holds: the beginning of a section and its order of bytes, an interface, a packet, or nothing that is looked at
pub data Held : Type 0 where
  begins : Bool → Held
  adds : Interface → Held
  shows : Seen → Held
  nothing : Held

-- a block that is not refused: how many bytes it has, and what it holds
pub record Block : Type 0 where
  pub size : ℕ
  pub held : Held

-- whether a section begins
abbrev pub is_section : List ℕ → Bool
is_section bytes = starts_with nat_eq bytes (0x0a ∷ 0x0d ∷ 0x0d ∷ 0x0a ∷ [])

-- whether numbers are lowest byte first, as the bytes after a section's length tell it
abbrev pub order_of : List ℕ → Option Bool
order_of bytes =
    if starts_with nat_eq bytes (0x1a ∷ 0x2b ∷ 0x3c ∷ 0x4d ∷ []) then Some false
    else (if starts_with nat_eq bytes (0x4d ∷ 0x3c ∷ 0x2b ∷ 0x1a ∷ []) then Some true
    else None)

-- how many bytes a block has at least: of an interface, of a packet, and of all others but a section
abbrev pub least_of : ℕ → ℕ
least_of kind = if nat_eq kind 1 then 20 else (if nat_eq kind 6 then 32 else 12)

-- the length of a block, where it is at least this, a multiple of 4, not more than there is, and is given at the block's end too
abbrev pub size_in : Bool → ℕ → List ℕ → ℕ → Option ℕ
size_in little least bytes size =
    if nat_lt size least then None
    else (if nat_eq (size % 4) 0 then (if nat_lt (length bytes) size then None
    else (if nat_eq (number little 4 (drop (size - 4) bytes)) size then Some size else None))
    else None)

abbrev pub size_of : Bool → ℕ → List ℕ → Option ℕ
size_of little least bytes = size_in little least bytes (number little 4 (drop 4 bytes))

-- a block by its length and what it holds
abbrev pub of_size : Option ℕ → Held → Result Block BlockWhy
of_size None held = Err Cut
of_size (Some size) held = Ok (record { size = size; held = held })

-- the block with which a section begins, in its own order of bytes
abbrev pub section_by : Option Bool → List ℕ → Result Block BlockWhy
section_by None bytes = Err Magic
section_by (Some little) bytes = of_size (size_of little 28 bytes) (begins little)

-- what an interface's block and a packet's block hold
abbrev pub adding : Result Interface BlockWhy → Result Held BlockWhy
adding (Ok i) = Ok (adds i)
adding (Err w) = Err w

abbrev pub showing : Result Seen BlockWhy → Result Held BlockWhy
showing (Ok seen) = Ok (shows seen)
showing (Err w) = Err w

-- what a block of a type holds in its body; types 2 and 3 are packets of older forms
abbrev pub held_of : Bool → List Interface → ℕ → List ℕ → Result Held BlockWhy
held_of little interfaces kind body =
    if nat_eq kind 2 || nat_eq kind 3 then Err OldPacket
    else (if nat_eq kind 1 then adding (interface_of little body)
    else (if nat_eq kind 6 then showing (packet_of little interfaces body)
    else Ok nothing))

abbrev pub sized : ℕ → Result Held BlockWhy → Result Block BlockWhy
sized size (Ok held) = Ok (record { size = size; held = held })
sized size (Err w) = Err w

-- a block of a type whose length is this: its body is from byte 8 to the last four bytes
abbrev pub other_by : Bool → List Interface → ℕ → List ℕ → Option ℕ → Result Block BlockWhy
other_by little interfaces kind bytes None = Err Cut
other_by little interfaces kind bytes (Some size) = sized size (held_of little interfaces kind (take (size - 4 - 8) (drop 8 bytes)))

abbrev pub other_of : Bool → List Interface → List ℕ → Result Block BlockWhy
other_of little interfaces bytes = other_by little interfaces (number little 4 bytes) bytes (size_of little (least_of (number little 4 bytes)) bytes)

-- the block that the bytes begin with, in a section of this order of bytes that has these interfaces
abbrev pub block_of : Bool → List Interface → List ℕ → Result Block BlockWhy
block_of little interfaces bytes =
    if nat_lt (length bytes) 12 then Err Cut
    else (if is_section bytes then section_by (order_of (drop 8 bytes)) bytes
    else other_of little interfaces bytes)
