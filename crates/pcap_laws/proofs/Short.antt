-- Packets of a file of bytes have fewer than 2 ^ 32 bytes.
use Rattle.std.proofs.Common.{ℕ, zero, suc, ◌-◌, ◌^◌, ◌<◌, Bool, true, false, cond, ltb, eqb, ◌||◌, List, [], ◌∷◌, ◌++◌, length, take, drop, length-take, Option, Some, None, Result, Ok, Err, arith}
use Rattle.std.specs.Prelude.{All, slice_get}
use Rattle.std.proofs.lemmas.List.Elements.{All-nil, All-cons, All-tail, All-take, All-drop}
use Rattle.pcap_frames.specs.declared.refusals.PcapRefusal.{PcapRefusal}
use Rattle.pcap_frames.specs.declared.refusals.PcapWhy.{PcapWhy}
use Rattle.pcap_frames.specs.declared.values.Format.{Format}
use Rattle.pcap_frames.specs.Files.{Recorded, word_of, kept_of, record_of}
use Rattle.pcap_frames.specs.Parts.{Reading, records, blocks, recorded, blocked, part_of, after_part, behind_first, parts_from, Opened, opened}
use Rattle.pcap_frames.specs.declared.pcapng_refusals.BlockWhy.{BlockWhy}
use Rattle.pcap_frames.specs.declared.pcapng_refusals.BlockWhy.TheVariants.{Cut, LinkType, OldPacket}
use Rattle.pcap_frames.specs.declared.pcapng_values.Interface.{Interface}
use Rattle.pcap_frames.specs.Numbers.{number, padded}
use Rattle.pcap_frames.specs.Times.{time_of}
use Rattle.pcap_frames.specs.Interfaces.{interface_of}
use Rattle.pcap_frames.specs.PcapngPackets.{Seen, count_of, packet_by, packet_of}
use Rattle.pcap_frames.specs.Blocks.{Block, Held, begins, adds, shows, nothing, is_section, order_of, least_of, size_of, of_size, section_by, adding, showing, held_of, sized, other_by, other_of, block_of}
use Rattle.pcap_laws.specs.Shown.{shown_at, packets_in, packets_by, packets_of}
use Rattle.pcap_laws.proofs.Words.{AreBytes, word_small}

-- ---- one part

abbrev pub IsShort : Seen → Type 0
IsShort seen = length seen.packet < 2 ^ 32

abbrev IsShortHeld : Held → Type 0
IsShortHeld (begins little) = Unit {0}
IsShortHeld (adds i) = Unit {0}
IsShortHeld (shows seen) = IsShort seen
IsShortHeld nothing = Unit {0}

abbrev HoldsShort : {W : Type 0} → Result Held W → Type 0
HoldsShort (Ok held) = IsShortHeld held
HoldsShort (Err w) = Unit {0}

abbrev IsShortPart : {W : Type 0} → Result Block W → Type 0
IsShortPart (Ok part) = IsShortHeld part.held
IsShortPart (Err w) = Unit {0}

taken_short : (n : ℕ) (bytes : List ℕ) → n < 2 ^ 32 → length (take n bytes) < 2 ^ 32
taken_short n bytes h = omega (arith, h, length-take n bytes)

-- a record of a classic file
of_record : (b c : Bool) (format : Format) (r : Recorded) → length r.packet < 2 ^ 32 → IsShortPart (recorded format (cond b None (cond c None (Some r))))
of_record true c format r h = tt
of_record false true format r h = tt
of_record false false format r h = h

record_short : (format : Format) (bytes : List ℕ) → AreBytes bytes → IsShortPart (recorded format (record_of format.little bytes))
record_short format bytes h =
    let kept = kept_of format.little bytes in
    of_record (ltb (length bytes) 16) (ltb (length bytes - 16) kept) format
    (record { seconds = word_of format.little bytes; fraction = word_of format.little (drop 4 bytes); packet = take kept (drop 16 bytes) })
    (taken_short kept (drop 16 bytes) (word_small format.little (drop 8 bytes) (All-drop (λ b. b < 256) 8 bytes h)))

-- a block of a pcapng file
of_packet : (b c : Bool) (seen : Seen) → IsShort seen → HoldsShort (showing (cond b (Err Cut) (cond c (Ok seen) (Err LinkType))))
of_packet true c seen h = tt
of_packet false true seen h = h
of_packet false false seen h = tt

by_interface : (little : Bool) (o : Option Interface) (body : List ℕ) → AreBytes body → HoldsShort (showing (packet_by little o body))
by_interface little None body h = tt
by_interface little (Some i) body h =
    let kept = number little 4 (drop 12 body) in
    of_packet (ltb (length body - 20) (padded kept)) (eqb i.link 1) (record { time = time_of i (count_of little body); packet = take kept (drop 20 body) })
    (taken_short kept (drop 20 body) (word_small little (drop 12 body) (All-drop (λ b. b < 256) 12 body h)))

of_interface : (r : Result Interface BlockWhy) → HoldsShort (adding r)
of_interface (Ok i) = tt
of_interface (Err w) = tt

of_kind : (a b c : Bool) (r : Result Interface BlockWhy) (p : Result Held BlockWhy) → HoldsShort p → HoldsShort (cond a (Err OldPacket) (cond b (adding r) (cond c p (Ok nothing))))
of_kind true b c r p h = tt
of_kind false true c r p h = of_interface r
of_kind false false true r p h = h
of_kind false false false r p h = tt

held_short : (little : Bool) (is : List Interface) (kind : ℕ) (body : List ℕ) → AreBytes body → HoldsShort (held_of little is kind body)
held_short little is kind body h =
    of_kind (eqb kind 2 || eqb kind 3) (eqb kind 1) (eqb kind 6) (interface_of little body) (showing (packet_of little is body)) (by_interface little (slice_get is (number little 4 body)) body h)

of_sized : (size : ℕ) (r : Result Held BlockWhy) → HoldsShort r → IsShortPart (sized size r)
of_sized size (Ok held) h = h
of_sized size (Err w) h = tt

by_size : (little : Bool) (is : List Interface) (kind : ℕ) (bytes : List ℕ) (o : Option ℕ) → AreBytes bytes → IsShortPart (other_by little is kind bytes o)
by_size little is kind bytes None h = tt
by_size little is kind bytes (Some size) h =
    let body = take (size - 4 - 8) (drop 8 bytes) in
    of_sized size (held_of little is kind body) (held_short little is kind body (All-take (λ b. b < 256) (size - 4 - 8) (drop 8 bytes) (All-drop (λ b. b < 256) 8 bytes h)))

of_section : (little : Bool) (o : Option ℕ) → IsShortPart (of_size o (begins little))
of_section little None = tt
of_section little (Some size) = tt

by_order : (o : Option Bool) (bytes : List ℕ) → IsShortPart (section_by o bytes)
by_order None bytes = tt
by_order (Some little) bytes = of_section little (size_of little 28 bytes)

of_block : (b c : Bool) (x y : Result Block BlockWhy) → IsShortPart x → IsShortPart y → IsShortPart (cond b (Err Cut) (cond c x y))
of_block true c x y h k = tt
of_block false true x y h k = h
of_block false false x y h k = k

as_part : (r : Result Block BlockWhy) → IsShortPart r → IsShortPart (blocked r)
as_part (Ok part) h = h
as_part (Err w) h = tt

block_short : (little : Bool) (is : List Interface) (bytes : List ℕ) → AreBytes bytes → IsShortPart (block_of little is bytes)
block_short little is bytes h =
    let kind = number little 4 bytes in
    of_block (ltb (length bytes) 12) (is_section bytes) (section_by (order_of (drop 8 bytes)) bytes) (other_of little is bytes) (by_order (order_of (drop 8 bytes)) bytes)
    (by_size little is kind bytes (size_of little (least_of kind) bytes) h)

part_short : (r : Reading) (bytes : List ℕ) → AreBytes bytes → IsShortPart (part_of r bytes)
part_short (records format) bytes h = record_short format bytes h
part_short (blocks little is) bytes h = as_part (block_of little is bytes) (block_short little is bytes h)

-- ---- all parts

one_more : (part : Result Block PcapWhy) (later : List Seen) → IsShortPart part → All IsShort later → All IsShort (shown_at part ++ later)
one_more (Err w) later h k = k
one_more (Ok part) later h k = by_held part.held h
  where
    by_held : (held : Held) → IsShortHeld held → All IsShort (shown_at (Ok (record { size = part.size; held = held })) ++ later)
    by_held (begins little) h = k
    by_held (adds i) h = k
    by_held (shows seen) h = All-cons IsShort seen later h k
    by_held nothing h = k

parts_short : (r : Reading) (skip : ℕ) (bytes : List ℕ) → AreBytes bytes → All IsShort (packets_in (parts_from r skip bytes))
unfolding packets_in parts_from
parts_short r skip [] h = All-nil IsShort
parts_short r (suc skip) (b ∷ bytes) h = parts_short r skip bytes (All-tail (λ b. b < 256) b bytes h)
parts_short r zero (b ∷ bytes) h =
    let part = part_of r (b ∷ bytes) in
    let skip = behind_first part (length bytes) in
    one_more part (packets_in (parts_from (after_part r part) skip bytes)) (part_short r (b ∷ bytes) h)
    (parts_short (after_part r part) skip bytes (All-tail (λ b. b < 256) b bytes h))

by_opened : (o : Result Opened PcapRefusal) (bytes : List ℕ) → AreBytes bytes → All IsShort (packets_by o bytes)
by_opened (Err refusal) bytes h = All-nil IsShort
by_opened (Ok o) bytes h = parts_short o.reading 0 (drop o.place bytes) (All-drop (λ b. b < 256) o.place bytes h)

pub packets_short : (bytes : List ℕ) → AreBytes bytes → All IsShort (packets_of bytes)
packets_short bytes h = by_opened (opened bytes) bytes h
