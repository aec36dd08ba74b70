-- The lines are read back as the frames that were written.
use Rattle.std.proofs.Common.{◌≡◌, ℕ, ℤ, pos, zero, suc, ◌+◌, ◌<◌, ◌≤ℤ◌, Bool, true, false, cond, ltb, eqb, ◌||◌, ◌-◌, take, slice_get, List, [], ◌∷◌, ◌++◌, map, length, drop, Option, Some, None, Result, Ok, Err, refl, sym, ap, subst, ◌∙◌, arith, append_assoc, get_or}
use Rattle.std.proofs.lemmas.Int.{ints}
use Rattle.std.specs.Prelude.{codes, All}
use Rattle.std.specs.List.{AllByRecursion}
use Rattle.std.specs.Fmt.{signed_decimal}
use Rattle.std.proofs.lemmas.List.Concat.{flat_map-cons}
use Rattle.std.proofs.lemmas.List.Elements.{All-nil, All-cons, All-tail, All-take, All-drop}
use Rattle.air_source.specs.declared.events.Side.{Side}
use Rattle.fh_document.specs.Document.{document_of}
use Rattle.fh_document.specs.Joined.{fed}
use Rattle.fh_document.specs.LineWords.{frame_word}
use Rattle.fh_document.specs.WrittenLines.{inject_text, document_with}
use Rattle.fh_document.specs.Laws.{AreBytes, IsFrame}
use Rattle.fh_document.proofs.InjectLemmas.{document_is}
use Rattle.pcap_frames.specs.Ethernet.{stands_at, type_place, ecpri_in}
use Rattle.pcap_frames.specs.declared.refusals.PcapRefusal.{PcapRefusal}
use Rattle.pcap_frames.specs.declared.refusals.PcapWhy.{PcapWhy}
use Rattle.pcap_frames.specs.declared.values.Format.{Format}
use Rattle.pcap_frames.specs.declared.values.Whose.{Whose}
use Rattle.pcap_frames.specs.Files.{Recorded, word_of, kept_of, record_of}
use Rattle.pcap_frames.specs.Frames.{Timed, timed_as, frames_of, IsShown, AreShown}
use Rattle.pcap_frames.specs.Parts.{Reading, records, blocks, recorded, blocked, part_of, after_part, behind_first, parts_from, Opened, opened}
use Rattle.pcap_frames.specs.Wanted.{Wanted, side_of, wanted_by, wanted_of, wanted_at, one_before, wanted_from, wanted_through, wanted_frames, first_time}
use Rattle.pcap_frames.specs.declared.pcapng_refusals.BlockWhy.{BlockWhy}
use Rattle.pcap_frames.specs.declared.pcapng_refusals.BlockWhy.TheVariants.{Cut, LinkType, OldPacket}
use Rattle.pcap_frames.specs.declared.pcapng_values.Interface.{Interface}
use Rattle.pcap_frames.specs.Numbers.{number, padded}
use Rattle.pcap_frames.specs.Times.{time_of}
use Rattle.pcap_frames.specs.Interfaces.{interface_of}
use Rattle.pcap_frames.specs.PcapngPackets.{Seen, count_of, packet_by, packet_of}
use Rattle.pcap_frames.specs.Blocks.{Block, Held, begins, adds, shows, nothing, is_section, order_of, least_of, size_of, of_size, section_by, adding, showing, held_of, sized, other_by, other_of, block_of}
use Rattle.pcap_lines.specs.Texts.{line_text, lines_of, injection_of}
use Rattle.fh_base.specs.declared.nanoseconds.TheConstants.{LAST_TIME}
use Rattle.air_source.specs.Units.{way_text}

-- ---- the text

regrouped : (w d f x : List ℕ) → ((w ++ 32 ∷ (d ++ 32 ∷ [])) ++ (f ++ 10 ∷ [])) ++ x ≡ (w ++ 32 ∷ (d ++ 32 ∷ f)) ++ 10 ∷ x
regrouped w d f x =
    append_assoc (w ++ 32 ∷ (d ++ 32 ∷ [])) (f ++ 10 ∷ []) x
    ∙ append_assoc w (32 ∷ (d ++ 32 ∷ [])) ((f ++ 10 ∷ []) ++ x)
    ∙ ap (λ t. w ++ 32 ∷ t) (append_assoc d (32 ∷ []) ((f ++ 10 ∷ []) ++ x) ∙ ap (λ t. d ++ 32 ∷ t) (append_assoc f (10 ∷ []) x) ∙ sym (append_assoc d (32 ∷ f) (10 ∷ x)))
    ∙ sym (append_assoc w (32 ∷ (d ++ 32 ∷ f)) (10 ∷ x))

-- a line with its line feed, as it is joined of its words
line_is : (t : Timed) (x : List ℕ) → line_text t ++ x ≡ inject_text (injection_of t) ++ 10 ∷ x
line_is t x = ap (λ r. codes "inject " ++ r) (grouped ∙ regrouped (way_text t.side) (signed_decimal t.at) (frame_word t.frame) x)
  where
    grouped : ((((way_text t.side ++ codes " ") ++ signed_decimal t.at) ++ codes " ") ++ (frame_word t.frame ++ codes "\n")) ++ x
        ≡ ((way_text t.side ++ 32 ∷ (signed_decimal t.at ++ 32 ∷ [])) ++ (frame_word t.frame ++ 10 ∷ [])) ++ x
    grouped = ap (λ r. (r ++ (frame_word t.frame ++ 10 ∷ [])) ++ x)
        (append_assoc (way_text t.side ++ codes " ") (signed_decimal t.at) (codes " ") ∙ append_assoc (way_text t.side) (codes " ") (signed_decimal t.at ++ 32 ∷ []))

lines_are : (ts : List Timed) → lines_of ts ≡ fed (map inject_text (map injection_of ts))
lines_are [] = refl
lines_are (t ∷ ts) =
    flat_map-cons line_text t ts
    ∙ ap (λ r. line_text t ++ r) (lines_are ts)
    ∙ line_is t (fed (map inject_text (map injection_of ts)))

-- ---- frames are bytes

abbrev OptBytes : Option (List ℕ) → Type 0
OptBytes None = Unit {0}
OptBytes (Some frame) = AreBytes frame

abbrev HeldBytes : Held → Type 0
HeldBytes (begins little) = Unit {0}
HeldBytes (adds i) = Unit {0}
HeldBytes (shows seen) = AreBytes seen.packet
HeldBytes nothing = Unit {0}

abbrev HoldsBytes : {W : Type 0} → Result Held W → Type 0
HoldsBytes (Ok held) = HeldBytes held
HoldsBytes (Err w) = Unit {0}

abbrev PartBytes : {W : Type 0} → Result Block W → Type 0
PartBytes (Ok part) = HeldBytes part.held
PartBytes (Err w) = Unit {0}

of_choice : (b : Bool) (xs : List ℕ) → AreBytes xs → OptBytes (cond b (Some xs) None)
of_choice true xs h = h
of_choice false xs h = tt

frame_bytes : (packet : List ℕ) → AreBytes packet → OptBytes (ecpri_in packet)
frame_bytes packet h =
    of_choice (stands_at packet (type_place packet) (0xae ∷ 0xfe ∷ [])) (drop (type_place packet + 2) packet) (All-drop (λ b. b < 256) (type_place packet + 2) packet h)

-- a record of a classic file
of_record : (b c : Bool) (format : Format) (r : Recorded) → AreBytes r.packet → PartBytes (recorded format (cond b None (cond c None (Some r))))
of_record true c format r h = tt
of_record false true format r h = tt
of_record false false format r h = h

record_bytes : (format : Format) (bytes : List ℕ) → AreBytes bytes → PartBytes (recorded format (record_of format.little bytes))
record_bytes format bytes h =
    let kept = kept_of format.little bytes in
    of_record (ltb (length bytes) 16) (ltb (length bytes - 16) kept) format
    (record { seconds = word_of format.little bytes; fraction = word_of format.little (drop 4 bytes); packet = take kept (drop 16 bytes) })
    (All-take (λ b. b < 256) kept (drop 16 bytes) (All-drop (λ b. b < 256) 16 bytes h))

-- a block of a pcapng file
of_packet : (b c : Bool) (seen : Seen) → AreBytes seen.packet → HoldsBytes (showing (cond b (Err Cut) (cond c (Ok seen) (Err LinkType))))
of_packet true c seen h = tt
of_packet false true seen h = h
of_packet false false seen h = tt

by_interface : (little : Bool) (o : Option Interface) (body : List ℕ) → AreBytes body → HoldsBytes (showing (packet_by little o body))
by_interface little None body h = tt
by_interface little (Some i) body h =
    let kept = number little 4 (drop 12 body) in
    of_packet (ltb (length body - 20) (padded kept)) (eqb i.link 1) (record { time = time_of i (count_of little body); packet = take kept (drop 20 body) })
    (All-take (λ b. b < 256) kept (drop 20 body) (All-drop (λ b. b < 256) 20 body h))

of_interface : (r : Result Interface BlockWhy) → HoldsBytes (adding r)
of_interface (Ok i) = tt
of_interface (Err w) = tt

of_kind : (a b c : Bool) (r : Result Interface BlockWhy) (p : Result Held BlockWhy) → HoldsBytes p → HoldsBytes (cond a (Err OldPacket) (cond b (adding r) (cond c p (Ok nothing))))
of_kind true b c r p h = tt
of_kind false true c r p h = of_interface r
of_kind false false true r p h = h
of_kind false false false r p h = tt

held_bytes : (little : Bool) (is : List Interface) (kind : ℕ) (body : List ℕ) → AreBytes body → HoldsBytes (held_of little is kind body)
held_bytes little is kind body h =
    of_kind (eqb kind 2 || eqb kind 3) (eqb kind 1) (eqb kind 6) (interface_of little body) (showing (packet_of little is body)) (by_interface little (slice_get is (number little 4 body)) body h)

of_size_bytes : (size : ℕ) (r : Result Held BlockWhy) → HoldsBytes r → PartBytes (sized size r)
of_size_bytes size (Ok held) h = h
of_size_bytes size (Err w) h = tt

by_size : (little : Bool) (is : List Interface) (kind : ℕ) (bytes : List ℕ) (o : Option ℕ) → AreBytes bytes → PartBytes (other_by little is kind bytes o)
by_size little is kind bytes None h = tt
by_size little is kind bytes (Some size) h =
    let body = take (size - 4 - 8) (drop 8 bytes) in
    of_size_bytes size (held_of little is kind body) (held_bytes little is kind body (All-take (λ b. b < 256) (size - 4 - 8) (drop 8 bytes) (All-drop (λ b. b < 256) 8 bytes h)))

of_section : (little : Bool) (o : Option ℕ) → PartBytes (of_size o (begins little))
of_section little None = tt
of_section little (Some size) = tt

by_order : (o : Option Bool) (bytes : List ℕ) → PartBytes (section_by o bytes)
by_order None bytes = tt
by_order (Some little) bytes = of_section little (size_of little 28 bytes)

of_block : (b c : Bool) (x y : Result Block BlockWhy) → PartBytes x → PartBytes y → PartBytes (cond b (Err Cut) (cond c x y))
of_block true c x y h k = tt
of_block false true x y h k = h
of_block false false x y h k = k

as_part : (r : Result Block BlockWhy) → PartBytes r → PartBytes (blocked r)
as_part (Ok part) h = h
as_part (Err w) h = tt

block_bytes : (little : Bool) (is : List Interface) (bytes : List ℕ) → AreBytes bytes → PartBytes (block_of little is bytes)
block_bytes little is bytes h =
    let kind = number little 4 bytes in
    of_block (ltb (length bytes) 12) (is_section bytes) (section_by (order_of (drop 8 bytes)) bytes) (other_of little is bytes) (by_order (order_of (drop 8 bytes)) bytes)
    (by_size little is kind bytes (size_of little (least_of kind) bytes) h)

part_bytes : (r : Reading) (bytes : List ℕ) → AreBytes bytes → PartBytes (part_of r bytes)
part_bytes (records format) bytes h = record_bytes format bytes h
part_bytes (blocks little is) bytes h = as_part (block_of little is bytes) (block_bytes little is bytes h)

-- the frames that are wanted
abbrev WantedBytes : Wanted → Type 0
WantedBytes w = AreBytes w.frame

abbrev HasBytes : Timed → Type 0
HasBytes t = AreBytes t.frame

by_frame : (side : Option Side) (frame : Option (List ℕ)) (time : ℕ) (later : List Wanted) → OptBytes frame → AllByRecursion WantedBytes later
    → AllByRecursion WantedBytes (one_before (wanted_by side frame time) later)
by_frame (Some side) (Some frame) time later h k = (h, k)
by_frame (Some side) None time later h k = k
by_frame None frame time later h k = k

one_more : (whose : Whose) (part : Result Block PcapWhy) (later : List Wanted) → PartBytes part → AllByRecursion WantedBytes later
    → AllByRecursion WantedBytes (one_before (wanted_at whose part) later)
one_more whose (Err w) later h k = k
one_more whose (Ok part) later h k = by_held part.held h
  where
    by_held : (held : Held) → HeldBytes held → AllByRecursion WantedBytes (one_before (wanted_of whose held) later)
    by_held (begins little) h = k
    by_held (adds i) h = k
    by_held (shows seen) h = by_frame (side_of whose seen.packet) (ecpri_in seen.packet) seen.time later (frame_bytes seen.packet h) k
    by_held nothing h = k

wanted_bytes : (whose : Whose) (r : Reading) (skip : ℕ) (bytes : List ℕ) → AreBytes bytes → AllByRecursion WantedBytes (wanted_from whose (parts_from r skip bytes))
unfolding wanted_from parts_from
wanted_bytes whose r skip [] h = tt
wanted_bytes whose r (suc skip) (b ∷ bytes) h = wanted_bytes whose r skip bytes (All-tail (λ b. b < 256) b bytes h)
wanted_bytes whose r zero (b ∷ bytes) h =
    let part = part_of r (b ∷ bytes) in
    let skip = behind_first part (length bytes) in
    one_more whose part (wanted_from whose (parts_from (after_part r part) skip bytes)) (part_bytes r (b ∷ bytes) h)
    (wanted_bytes whose (after_part r part) skip bytes (All-tail (λ b. b < 256) b bytes h))

through_bytes : (whose : Whose) (o : Result Opened PcapRefusal) (bytes : List ℕ) → AreBytes bytes → AllByRecursion WantedBytes (wanted_through whose o bytes)
through_bytes whose (Err refusal) bytes h = tt
through_bytes whose (Ok o) bytes h = wanted_bytes whose o.reading 0 (drop o.place bytes) (All-drop (λ b. b < 256) o.place bytes h)

timed_bytes : (first start : ℕ) (ws : List Wanted) → AllByRecursion WantedBytes ws → AllByRecursion HasBytes (map (timed_as first start) ws)
timed_bytes first start [] h = tt
timed_bytes first start (w ∷ ws) h = (h.0, timed_bytes first start ws h.1)

-- ---- the document

is_frame : (t : Timed) → IsShown t → AreBytes t.frame → IsFrame (injection_of t)
is_frame t h bytes = record {
  time = record {
    low = subst (λ (z : ℤ). pos 0 ≤ℤ z) (sym h.is) (omega (arith, ints));
    high = subst (λ (z : ℤ). z ≤ℤ pos LAST_TIME) (sym h.is) (omega (arith, ints, h.low));
  };
  bytes = bytes;
  short = h.short;
}

are_frames : (ts : List Timed) → AreShown ts → AllByRecursion HasBytes ts → All IsFrame (map injection_of ts)
are_frames [] h k = All-nil IsFrame
are_frames (t ∷ ts) h k = All-cons IsFrame (injection_of t) (map injection_of ts) (is_frame t h.0 k.0) (are_frames ts h.1 k.1)

-- after line 1 the text is read as exactly these frames
pub read_back : (whose : Whose) (bytes : List ℕ) (start : ℕ) → AreBytes bytes → AreShown (frames_of whose bytes start)
    → document_of (codes "fronthaul 1\n" ++ lines_of (frames_of whose bytes start)) ≡ Ok (document_with (map injection_of (frames_of whose bytes start)))
read_back whose bytes start all shown =
    let ws = wanted_frames whose bytes in
    let ts = frames_of whose bytes start in
    ap (λ t. document_of (codes "fronthaul 1\n" ++ t)) (lines_are ts)
    ∙ document_is (map injection_of ts) (are_frames ts shown (timed_bytes (first_time ws) start ws (through_bytes whose (opened bytes) bytes all)))

-- a list whose every place has a byte
pub are_bytes : (bytes : List ℕ) → ((k : ℕ) → get_or bytes k 0 < 256) → AreBytes bytes
are_bytes [] h = All-nil (λ b. b < 256)
are_bytes (b ∷ bytes) h = All-cons (λ b. b < 256) b bytes (h 0) (are_bytes bytes (λ k. h (suc k)))
