-- A file is read back as the frames that were written.
use Rattle.std.proofs.Common.{◌≡◌, ℕ, ◌+◌, ◌-◌, ◌*◌, ◌/◌, ◌%◌, ◌^◌, ◌<◌, ◌≤◌, true, false, ltb, leb, List, [], ◌∷◌, ◌++◌, length, length-append, map, pos, take, drop, Option, Some, None, unwrap_or, Result, Ok, refl, ap, ◌∙◌, arith}
use Rattle.std.specs.Int.{w32, to_be_bytes}
use Rattle.std.specs.List.{flat_map}
use Rattle.std.proofs.lemmas.Bool.{le-ltb, le-leb}
use Rattle.std.proofs.lemmas.List.{take_at, drop_at}
use Rattle.std.proofs.lemmas.List.Concat.{flat_map-cons}
use Rattle.std.proofs.lemmas.Nat.{from_be_bytes-to_be_bytes_4}
use Rattle.air_source.specs.declared.events.Side.{Side}
use Rattle.air_source.specs.declared.events.Side.TheVariants.{Ru, Du}
use Rattle.capture_records.specs.Records.{Arrived}
use Rattle.pcap_frames.specs.declared.values.Format.{Format}
use Rattle.pcap_frames.specs.declared.refusals.PcapRefusal.{PcapRefusal}
use Rattle.pcap_frames.specs.declared.refusals.PcapWhy.{PcapWhy}
use Rattle.pcap_frames.specs.declared.values.Whose.{Whose}
use Rattle.pcap_frames.specs.declared.values.Whose.TheVariants.{All, Port}
use Rattle.pcap_frames.specs.Ethernet.{ecpri_in}
use Rattle.pcap_frames.specs.Files.{Recorded, word_of, kept_of, record_of, time_of, head_of as file_head_of}
use Rattle.pcap_frames.specs.Parts.{records, recorded, part_of, parts_from, parts_of, Opened, opened, opened_behind}
use Rattle.pcap_frames.specs.Wanted.{Wanted, side_of, wanted_by, wanted_of, one_before, wanted_from, wanted_through, wanted_frames, first_time}
use Rattle.pcap_frames.specs.Checked.{frame_fault, fault_of, passed_by, tested, checked_by, checked}
use Rattle.pcap_frames.specs.Frames.{Timed, timed_as, frames_of}
use Rattle.pcap_frames.proofs.Steps.{next}
use Rattle.pcap_frames.specs.Blocks.{Block, shows}
use Rattle.pcap_export.specs.Packets.{address_of, file_head, ethernet_head, nanoseconds_of, ns_of, record_head, packet_bytes}
use Rattle.pcap_export.specs.ReadBack.{IsUsual, AreUsual, IsReading, side_by, timed_at, start_of, IsReadBack}
use Rattle.fh_base.specs.declared.nanoseconds.TheConstants.{LAST_TIME, NANOSECOND}
use Rattle.fh_base.specs.declared.source.TheConstants.{FRAME_LIMIT}

-- ---- one record

word_back : (n : ℕ) (rest : List ℕ) → n < 2 ^ 32 → word_of false (to_be_bytes w32 n ++ rest) ≡ n
word_back n rest small = omega (arith, from_be_bytes-to_be_bytes_4 n small)

-- the packet of an arrival, and the record that it is read as
abbrev pub packet_of : Arrived → List ℕ
packet_of a = ethernet_head a.side ++ a.frame

abbrev pub seen_from : Arrived → Recorded
seen_from a = record { seconds = ns_of a / 10 ^ 9; fraction = ns_of a % 10 ^ 9; packet = packet_of a }

header_length : (side : Side) → length (ethernet_head side) ≡ 14
header_length Ru = refl
header_length Du = refl

packet_length : (a : Arrived) → length (packet_of a) ≡ 14 + length a.frame
packet_length a = length-append (ethernet_head a.side) a.frame ∙ ap (λ n. n + length a.frame) (header_length a.side)

-- an arrival whose nanosecond and length have a place
record Fits (a : Arrived) : Type 0 where
  pub time : ns_of a ≤ 10 ^ 12
  pub short : length a.frame ≤ FRAME_LIMIT

by_ticks : (ticks : ℕ) → ticks ≤ NANOSECOND * 10 ^ 12 → ticks / NANOSECOND ≤ 10 ^ 12
by_ticks ticks low = omega (arith, low)

fits : (a : Arrived) → IsUsual a → Fits a
fits a h =
    let is : ns_of a ≡ h.ticks / NANOSECOND = ap (λ z. unwrap_or (nanoseconds_of z) 0) h.is in
    record { time = omega (arith, is, by_ticks h.ticks h.low); short = h.short }

kept_back : (a : Arrived) (rest : List ℕ) → Fits a → kept_of false (packet_bytes a ++ rest) ≡ 14 + length a.frame
kept_back a rest h = word_back (14 + length a.frame) (to_be_bytes w32 (14 + length a.frame) ++ (packet_of a ++ rest)) (omega (arith, h.short))

seconds_back : (a : Arrived) (rest : List ℕ) → Fits a → word_of false (packet_bytes a ++ rest) ≡ ns_of a / 10 ^ 9
seconds_back a rest h =
    let kept = to_be_bytes w32 (14 + length a.frame) in
    word_back (ns_of a / 10 ^ 9) (to_be_bytes w32 (ns_of a % 10 ^ 9) ++ (kept ++ (kept ++ (packet_of a ++ rest)))) (omega (arith, h.time))

fraction_back : (a : Arrived) (rest : List ℕ) → Fits a → word_of false (drop 4 (packet_bytes a ++ rest)) ≡ ns_of a % 10 ^ 9
fraction_back a rest h =
    let kept = to_be_bytes w32 (14 + length a.frame) in
    word_back (ns_of a % 10 ^ 9) (kept ++ (kept ++ (packet_of a ++ rest))) (omega arith)

kept_packet : (a : Arrived) (rest : List ℕ) → Fits a → take (kept_of false (packet_bytes a ++ rest)) (drop 16 (packet_bytes a ++ rest)) ≡ packet_of a
kept_packet a rest h = ap (λ n. take n (packet_of a ++ rest)) (kept_back a rest h) ∙ take_at (packet_of a) rest (14 + length a.frame) (packet_length a)

record_length : (a : Arrived) → length (packet_bytes a) ≡ 16 + length (packet_of a)
record_length a = length-append (record_head (ns_of a) (14 + length a.frame)) (packet_of a)

made : ℕ → ℕ → List ℕ → Recorded
made seconds fraction packet = record { seconds = seconds; fraction = fraction; packet = packet }

seen_back : (a : Arrived) (rest : List ℕ) → Fits a → record_of false (packet_bytes a ++ rest) ≡ Some (seen_from a)
unfolding made
seen_back a rest h =
    let bytes = packet_bytes a ++ rest in
    let all : length bytes ≡ (16 + (14 + length a.frame)) + length rest = length-append (packet_bytes a) rest ∙ ap (λ n. n + length rest) (record_length a ∙ ap (λ n. 16 + n) (packet_length a)) in
    let kept = kept_back a rest h in
    let head : ltb (length bytes) 16 ≡ false = le-ltb _ _ (omega (arith, all)) in
    let whole : ltb (length bytes - 16) (kept_of false bytes) ≡ false = le-ltb _ _ (omega (arith, all, kept)) in
    let same : made (word_of false bytes) (word_of false (drop 4 bytes)) (take (kept_of false bytes) (drop 16 bytes)) ≡ seen_from a
    = ap (λ n. made n (word_of false (drop 4 bytes)) (take (kept_of false bytes) (drop 16 bytes))) (seconds_back a rest h)
    ∙ ap (λ n. made (ns_of a / 10 ^ 9) n (take (kept_of false bytes) (drop 16 bytes))) (fraction_back a rest h)
    ∙ ap (λ p. made (ns_of a / 10 ^ 9) (ns_of a % 10 ^ 9) p) (kept_packet a rest h) in
    rw (head, whole) (ap Some same)

ecpri_back : (side : Side) (frame : List ℕ) → ecpri_in (ethernet_head side ++ frame) ≡ Some frame
ecpri_back Ru frame = refl
ecpri_back Du frame = refl

time_back : (a : Arrived) → time_of true (seen_from a) ≡ ns_of a
time_back a = omega arith

-- by the address of the radio unit each frame goes to its own unit
by_address : (side : Side) (frame : List ℕ) → side_of (Port (address_of Ru)) (ethernet_head side ++ frame) ≡ Some side
by_address Ru frame = refl
by_address Du frame = refl

side_back : (whose : Whose) (side : Side) (frame : List ℕ) → IsReading whose → side_of whose (ethernet_head side ++ frame) ≡ Some (side_by whose side)
side_back (All one) side frame h = refl
side_back (Port address) side frame h = ap (λ a. side_of (Port a) (ethernet_head side ++ frame)) h ∙ by_address side frame

-- ---- all records

abbrev nanoseconds_format : Format
nanoseconds_format = record { little = false; nanos = true }

abbrev part_from : Arrived → Block
part_from a = record { size = 16 + length (packet_of a); held = shows (record { time = time_of true (seen_from a); packet = packet_of a }) }

parts_all : List Arrived → List (Result Block PcapWhy)
parts_all landed = map (λ a. Ok (part_from a)) landed

part_back : (a : Arrived) (rest : List ℕ) → Fits a → part_of (records nanoseconds_format) (packet_bytes a ++ rest) ≡ Ok (part_from a)
part_back a rest h = ap (recorded nanoseconds_format) (seen_back a rest h)

parts_back : (landed : List Arrived) → AreUsual landed → parts_from (records nanoseconds_format) 0 (flat_map packet_bytes landed) ≡ parts_all landed
unfolding parts_from parts_all
parts_back [] h = refl
parts_back (a ∷ landed) h =
    let rest = flat_map packet_bytes landed in
    let bytes = packet_bytes a ++ rest in
    let behind : drop (16 + length (packet_of a)) bytes ≡ rest = drop_at (packet_bytes a) rest (16 + length (packet_of a)) (record_length a) in
    let whole : length bytes ≡ (16 + length (packet_of a)) + length rest = length-append (packet_bytes a) rest ∙ ap (λ n. n + length rest) (record_length a) in
    ap (parts_from (records nanoseconds_format) 0) (flat_map-cons packet_bytes a landed)
    ∙ next (records nanoseconds_format) bytes (part_from a) (part_back a rest (fits a h.0)) (omega arith) (omega (arith, whole))
    ∙ ap (λ b. Ok (part_from a) ∷ parts_from (records nanoseconds_format) 0 b) behind
    ∙ ap (λ ps. Ok (part_from a) ∷ ps) (parts_back landed h.1)

-- the frame of an arrival, as it is found
abbrev known_from : Whose → Arrived → Wanted
known_from whose a = record { side = side_by whose a.side; time = ns_of a; frame = a.frame }

known_back : (whose : Whose) (a : Arrived) → IsReading whose → wanted_of whose (part_from a).held ≡ Some (known_from whose a)
known_back whose a h =
    let time = time_of true (seen_from a) in
    ap (λ s. wanted_by s (ecpri_in (packet_of a)) time) (side_back whose a.side a.frame h)
    ∙ ap (λ o. wanted_by (Some (side_by whose a.side)) o time) (ecpri_back a.side a.frame)
    ∙ ap (λ t. wanted_by (Some (side_by whose a.side)) (Some a.frame) t) (time_back a)

wanted_back : (whose : Whose) (landed : List Arrived) → IsReading whose → wanted_from whose (parts_all landed) ≡ map (known_from whose) landed
unfolding wanted_from parts_all
wanted_back whose [] h = refl
wanted_back whose (a ∷ landed) h =
    ap (λ w. one_before w (wanted_from whose (parts_all landed))) (known_back whose a h) ∙ ap (λ ws. known_from whose a ∷ ws) (wanted_back whose landed h)

-- none has a fault
no_fault : (start : ℕ) (w : Wanted) → w.time ≤ 10 ^ 12 → length w.frame ≤ FRAME_LIMIT → frame_fault start start w ≡ None
no_fault start w low short =
    let long : ltb FRAME_LIMIT (length w.frame) ≡ false = le-ltb _ _ short in
    let first : leb start (start + w.time) ≡ true = le-leb _ _ (omega arith) in
    let last : leb (start + w.time - start) LAST_TIME ≡ true = le-leb _ _ (omega (arith, low)) in
    rw (long, first, last) refl

fine_back : (whose : Whose) (start : ℕ) (a : Arrived) → IsReading whose → Fits a → fault_of start start (wanted_of whose (part_from a).held) ≡ None
fine_back whose start a h k = ap (fault_of start start) (known_back whose a h) ∙ no_fault start (known_from whose a) k.time k.short

tested_back : (whose : Whose) (start place : ℕ) (landed : List Arrived) → IsReading whose → AreUsual landed → tested whose start start place (parts_all landed) ≡ Ok tt
unfolding tested parts_all
tested_back whose start place [] h k = refl
tested_back whose start place (a ∷ landed) h k =
    let further = place + (16 + length (packet_of a)) in
    ap (λ w. passed_by w place (tested whose start start further (parts_all landed))) (fine_back whose start a h (fits a k.0))
    ∙ tested_back whose start further landed h k.1

first_back : (whose : Whose) (landed : List Arrived) → first_time (map (known_from whose) landed) ≡ start_of landed
first_back whose [] = refl
first_back whose (a ∷ landed) = refl

timed_back : (whose : Whose) (start : ℕ) (landed : List Arrived) → map (timed_as start start) (map (known_from whose) landed) ≡ map (timed_at whose) landed
timed_back whose start [] = refl
timed_back whose start (a ∷ landed) =
    let time : start + ns_of a - start ≡ ns_of a = omega arith in
    ap (λ t. made_timed (side_by whose a.side) t a.frame ∷ map (timed_as start start) (map (known_from whose) landed)) time
    ∙ ap (λ ts. timed_at whose a ∷ ts) (timed_back whose start landed)
  where
    made_timed : Side → ℕ → List ℕ → Timed
    made_timed side ns frame = record { side = side; at = pos ns; frame = frame }

-- ---- the file

head_back : (packets : List ℕ) → file_head_of (file_head ++ packets) ≡ Ok nanoseconds_format
head_back packets =
    let long : ltb (length (file_head ++ packets)) 24 ≡ false = le-ltb _ _ (omega (arith, length-append file_head packets)) in
    rw long refl

abbrev classic : Opened
classic = record { reading = records nanoseconds_format; place = 24 }

opened_back : (packets : List ℕ) → opened (file_head ++ packets) ≡ Ok classic
opened_back packets = ap opened_behind (head_back packets)

pub read_back : (whose : Whose) → IsReading whose → (landed : List Arrived) → AreUsual landed → IsReadBack whose (file_head ++ flat_map packet_bytes landed) landed
read_back whose reading landed h = record { accepted = accepted; frames = frames }
  where
    file : List ℕ
    file = file_head ++ flat_map packet_bytes landed

    start : ℕ
    start = start_of landed

    parts : parts_of classic file ≡ parts_all landed
    parts = parts_back landed h

    known : wanted_from whose (parts_of classic file) ≡ map (known_from whose) landed
    known = ap (wanted_from whose) parts ∙ wanted_back whose landed reading

    accepted : checked whose file start ≡ Ok tt
    accepted =
        ap (checked_by whose start file) (opened_back (flat_map packet_bytes landed))
        ∙ ap (λ ws. tested whose (first_time ws) start 24 (parts_of classic file)) known
        ∙ ap (λ n. tested whose n start 24 (parts_of classic file)) (first_back whose landed)
        ∙ ap (tested whose start start 24) parts
        ∙ tested_back whose start 24 landed reading h

    all : wanted_frames whose file ≡ map (known_from whose) landed
    all = ap (λ r. wanted_through whose r file) (opened_back (flat_map packet_bytes landed)) ∙ known

    frames : frames_of whose file start ≡ map (timed_at whose) landed
    frames =
        ap (λ ws. map (timed_as (first_time ws) start) ws) all
        ∙ ap (λ n. map (timed_as n start) (map (known_from whose) landed)) (first_back whose landed)
        ∙ timed_back whose start landed
