-- The classic file of packets is read as these packets.
use Rattle.std.proofs.Common.{◌≡◌, ℕ, ◌+◌, ◌-◌, ◌*◌, ◌/◌, ◌%◌, ◌^◌, ◌<◌, ◌≤◌, Bool, true, false, ltb, List, [], ◌∷◌, ◌++◌, length, length-append, map, take, drop, Some, Result, Ok, refl, sym, ap, subst, ◌∙◌, arith, append_assoc}
use Rattle.std.specs.Prelude.{All}
use Rattle.std.specs.List.{AllByRecursion, flat_map}
use Rattle.std.proofs.lemmas.Bool.{le-ltb}
use Rattle.std.proofs.lemmas.List.{take_at, drop_at}
use Rattle.std.proofs.lemmas.List.Concat.{flat_map-cons}
use Rattle.std.proofs.lemmas.List.Elements.{All-head, All-tail}
use Rattle.pcap_frames.specs.declared.refusals.PcapWhy.{PcapWhy}
use Rattle.pcap_frames.specs.declared.values.Format.{Format}
use Rattle.pcap_frames.specs.Files.{Recorded, word_of, kept_of, record_of, time_of, head_of}
use Rattle.pcap_frames.specs.Parts.{records, recorded, parts_from, parts_of, Opened, opened, opened_behind}
use Rattle.pcap_frames.proofs.Steps.{next}
use Rattle.pcap_frames.specs.Blocks.{Block, shows}
use Rattle.pcap_frames.specs.PcapngPackets.{Seen}
use Rattle.pcap_laws.specs.Shown.{packets_in, IsPart}
use Rattle.pcap_laws.specs.Classic.{Recording, word_bytes, classic_head, record_head, record_bytes, classic_of}
use Rattle.pcap_laws.specs.Laws.{HasPlace, later_by}
use Rattle.pcap_laws.proofs.Words.{word_back, behind_word}
use Rattle.pcap_laws.proofs.Short.{IsShort}

-- ---- one record

abbrev seconds_of : ℕ → Recording → ℕ
seconds_of base r = r.seen.time / 10 ^ 9 - base

-- the record that a packet is read as
abbrev recorded_as : ℕ → Recording → Recorded
recorded_as base r = record { seconds = seconds_of base r; fraction = r.seen.time % 10 ^ 9; packet = r.seen.packet }

-- what is after the first, the second and the third number, before other bytes
abbrev behind_one : Bool → Recording → List ℕ → List ℕ
behind_one little r rest = word_bytes little (r.seen.time % 10 ^ 9) ++ (word_bytes little (length r.seen.packet) ++ (word_bytes little r.original ++ (r.seen.packet ++ rest)))

grouped : (a b c d e rest : List ℕ) → ((a ++ (b ++ (c ++ d))) ++ e) ++ rest ≡ a ++ (b ++ (c ++ (d ++ (e ++ rest))))
grouped a b c d e rest =
    append_assoc (a ++ (b ++ (c ++ d))) e rest
    ∙ append_assoc a (b ++ (c ++ d)) (e ++ rest)
    ∙ ap (λ t. a ++ t) (append_assoc b (c ++ d) (e ++ rest) ∙ ap (λ t. b ++ t) (append_assoc c d (e ++ rest)))

bytes_are : (little : Bool) (base : ℕ) (r : Recording) (rest : List ℕ) → record_bytes little base r ++ rest ≡ word_bytes little (seconds_of base r) ++ behind_one little r rest
bytes_are little base r rest =
    grouped (word_bytes little (seconds_of base r)) (word_bytes little (r.seen.time % 10 ^ 9)) (word_bytes little (length r.seen.packet)) (word_bytes little r.original) r.seen.packet rest

seconds_small : (base time : ℕ) → time < (base + 2 ^ 32) * 10 ^ 9 → time / 10 ^ 9 - base < 2 ^ 32
seconds_small base time h = omega (arith, h)

fraction_small : (time : ℕ) → time % 10 ^ 9 < 2 ^ 32
fraction_small time = omega arith

-- the places of the four numbers and of the packet, whichever order the bytes have
two_words : (little : Bool) (m n : ℕ) (rest : List ℕ) → drop 8 (word_bytes little m ++ (word_bytes little n ++ rest)) ≡ rest
two_words true m n rest = refl
two_words false m n rest = refl

four_words : (little : Bool) (m n k l : ℕ) (rest : List ℕ) → drop 16 (word_bytes little m ++ (word_bytes little n ++ (word_bytes little k ++ (word_bytes little l ++ rest)))) ≡ rest
four_words true m n k l rest = refl
four_words false m n k l rest = refl

head_length : (little : Bool) (base : ℕ) (r : Recording) → length (record_head little base r) ≡ 16
head_length true base r = refl
head_length false base r = refl

record_length : (little : Bool) (base : ℕ) (r : Recording) → length (record_bytes little base r) ≡ 16 + length r.seen.packet
record_length little base r = length-append (record_head little base r) r.seen.packet ∙ ap (λ n. n + length r.seen.packet) (head_length little base r)

made : ℕ → ℕ → List ℕ → Recorded
made seconds fraction packet = record { seconds = seconds; fraction = fraction; packet = packet }

abbrev packet_in : Bool → List ℕ → List ℕ
packet_in little bytes = take (kept_of little bytes) (drop 16 bytes)

kept_back : (little : Bool) (base : ℕ) (r : Recording) (rest : List ℕ) → IsShort r.seen → kept_of little (record_bytes little base r ++ rest) ≡ length r.seen.packet
kept_back little base r rest short =
    ap (kept_of little) (bytes_are little base r rest)
    ∙ ap (word_of little) (two_words little (seconds_of base r) (r.seen.time % 10 ^ 9) (word_bytes little (length r.seen.packet) ++ (word_bytes little r.original ++ (r.seen.packet ++ rest))))
    ∙ word_back little (length r.seen.packet) (word_bytes little r.original ++ (r.seen.packet ++ rest)) short

seconds_back : (little : Bool) (base : ℕ) (r : Recording) (rest : List ℕ) → HasPlace base r.seen → word_of little (record_bytes little base r ++ rest) ≡ seconds_of base r
seconds_back little base r rest h =
    ap (word_of little) (bytes_are little base r rest) ∙ word_back little (seconds_of base r) (behind_one little r rest) (seconds_small base r.seen.time h.high)

fraction_back : (little : Bool) (base : ℕ) (r : Recording) (rest : List ℕ) → word_of little (drop 4 (record_bytes little base r ++ rest)) ≡ r.seen.time % 10 ^ 9
fraction_back little base r rest =
    ap (λ b. word_of little (drop 4 b)) (bytes_are little base r rest)
    ∙ ap (word_of little) (behind_word little (seconds_of base r) (behind_one little r rest))
    ∙ word_back little (r.seen.time % 10 ^ 9) (word_bytes little (length r.seen.packet) ++ (word_bytes little r.original ++ (r.seen.packet ++ rest))) (fraction_small r.seen.time)

packet_back : (little : Bool) (base : ℕ) (r : Recording) (rest : List ℕ) → IsShort r.seen → packet_in little (record_bytes little base r ++ rest) ≡ r.seen.packet
packet_back little base r rest short =
    ap (λ n. take n (drop 16 (record_bytes little base r ++ rest))) (kept_back little base r rest short)
    ∙ ap (λ b. take (length r.seen.packet) (drop 16 b)) (bytes_are little base r rest)
    ∙ ap (take (length r.seen.packet)) (four_words little (seconds_of base r) (r.seen.time % 10 ^ 9) (length r.seen.packet) r.original (r.seen.packet ++ rest))
    ∙ take_at r.seen.packet rest (length r.seen.packet) refl

whole_length : (little : Bool) (base : ℕ) (r : Recording) (rest : List ℕ) → length (record_bytes little base r ++ rest) ≡ (16 + length r.seen.packet) + length rest
whole_length little base r rest = length-append (record_bytes little base r) rest ∙ ap (λ n. n + length rest) (record_length little base r)

record_back : (little : Bool) (base : ℕ) (r : Recording) (rest : List ℕ) → HasPlace base r.seen → IsShort r.seen → record_of little (record_bytes little base r ++ rest) ≡ Some (recorded_as base r)
unfolding made
record_back little base r rest h short =
    let bytes = record_bytes little base r ++ rest in
    let all = whole_length little base r rest in
    let kept = kept_back little base r rest short in
    let head : ltb (length bytes) 16 ≡ false = le-ltb _ _ (omega (arith, all)) in
    let whole : ltb (length bytes - 16) (kept_of little bytes) ≡ false = le-ltb _ _ (omega (arith, all, kept)) in
    let same : made (word_of little bytes) (word_of little (drop 4 bytes)) (packet_in little bytes) ≡ recorded_as base r
    = ap (λ n. made n (word_of little (drop 4 bytes)) (packet_in little bytes)) (seconds_back little base r rest h)
    ∙ ap (λ n. made (seconds_of base r) n (packet_in little bytes)) (fraction_back little base r rest)
    ∙ ap (λ p. made (seconds_of base r) (r.seen.time % 10 ^ 9) p) (packet_back little base r rest short) in
    rw (head, whole) (ap Some same)

-- ---- all records

abbrev format_as : Bool → Format
format_as little = record { little = little; nanos = true }

abbrev part_from : ℕ → Recording → Block
part_from base r = record { size = 16 + length r.seen.packet; held = shows (record { time = time_of true (recorded_as base r); packet = r.seen.packet }) }

parts_all : ℕ → List Recording → List (Result Block PcapWhy)
parts_all base rs = map (λ r. Ok (part_from base r)) rs

abbrev pub AreFit : ℕ → List Recording → Type 0
AreFit base rs = All (HasPlace base) (map (λ r. r.seen) rs) × All IsShort (map (λ r. r.seen) rs)

parts_back : (little : Bool) (base : ℕ) (rs : List Recording) → AreFit base rs → parts_from (records (format_as little)) 0 (flat_map (record_bytes little base) rs) ≡ parts_all base rs
unfolding parts_from parts_all
parts_back little base [] h = refl
parts_back little base (r ∷ rs) h =
    let seen = map (λ r. r.seen) rs in
    let rest = flat_map (record_bytes little base) rs in
    let bytes = record_bytes little base r ++ rest in
    let part = ap (recorded (format_as little)) (record_back little base r rest (All-head (HasPlace base) r.seen seen h.0) (All-head IsShort r.seen seen h.1)) in
    let behind : drop (16 + length r.seen.packet) bytes ≡ rest = drop_at (record_bytes little base r) rest (16 + length r.seen.packet) (record_length little base r) in
    ap (parts_from (records (format_as little)) 0) (flat_map-cons (record_bytes little base) r rs)
    ∙ next (records (format_as little)) bytes (part_from base r) part (omega arith) (omega (arith, whole_length little base r rest))
    ∙ ap (λ b. Ok (part_from base r) ∷ parts_from (records (format_as little)) 0 b) behind
    ∙ ap (λ ps. Ok (part_from base r) ∷ ps) (parts_back little base rs (All-tail (HasPlace base) r.seen seen h.0, All-tail IsShort r.seen seen h.1))

are_parts : (base : ℕ) (rs : List Recording) → AllByRecursion IsPart (parts_all base rs)
unfolding parts_all
are_parts base [] = tt
are_parts base (r ∷ rs) = (tt, are_parts base rs)

-- its packets, at times that count from later
later_time : (base time : ℕ) → base * 10 ^ 9 ≤ time → (time / 10 ^ 9 - base) * 10 ^ 9 + time % 10 ^ 9 ≡ time - base * 10 ^ 9
later_time base time h = omega (arith, h)

made_seen : ℕ → List ℕ → Seen
made_seen time packet = record { time = time; packet = packet }

packets_all : (base : ℕ) (rs : List Recording) → All (HasPlace base) (map (λ r. r.seen) rs) → packets_in (parts_all base rs) ≡ map (later_by base) (map (λ r. r.seen) rs)
unfolding packets_in parts_all made_seen
packets_all base [] h = refl
packets_all base (r ∷ rs) h =
    let seen = map (λ r. r.seen) rs in
    ap (λ t. made_seen t r.seen.packet ∷ packets_in (parts_all base rs)) (later_time base r.seen.time (All-head (HasPlace base) r.seen seen h).low)
    ∙ ap (λ ps. later_by base r.seen ∷ ps) (packets_all base rs (All-tail (HasPlace base) r.seen seen h))

-- ---- the file

abbrev pub classic_opened : Bool → Opened
classic_opened little = record { reading = records (format_as little); place = 24 }

head_back : (little : Bool) (limit : ℕ) (rest : List ℕ) → head_of (classic_head little limit ++ rest) ≡ Ok (format_as little)
head_back true limit rest =
    let long : ltb (length (classic_head true limit ++ rest)) 24 ≡ false = le-ltb _ _ (omega (arith, length-append (classic_head true limit) rest)) in
    rw long refl
head_back false limit rest =
    let long : ltb (length (classic_head false limit ++ rest)) 24 ≡ false = le-ltb _ _ (omega (arith, length-append (classic_head false limit) rest)) in
    rw long refl

pub opened_back : (little : Bool) (limit base : ℕ) (rs : List Recording) → opened (classic_of little limit base rs) ≡ Ok (classic_opened little)
opened_back true limit base rs = ap opened_behind (head_back true limit (flat_map (record_bytes true base) rs))
opened_back false limit base rs = ap opened_behind (head_back false limit (flat_map (record_bytes false base) rs))

behind_head : (little : Bool) (limit : ℕ) (rest : List ℕ) → drop 24 (classic_head little limit ++ rest) ≡ rest
behind_head true limit rest = refl
behind_head false limit rest = refl

all_back : (little : Bool) (limit base : ℕ) (rs : List Recording) → AreFit base rs → parts_of (classic_opened little) (classic_of little limit base rs) ≡ parts_all base rs
all_back little limit base rs h = ap (parts_from (records (format_as little)) 0) (behind_head little limit (flat_map (record_bytes little base) rs)) ∙ parts_back little base rs h

pub are_read : (little : Bool) (limit base : ℕ) (rs : List Recording) → AreFit base rs → AllByRecursion IsPart (parts_of (classic_opened little) (classic_of little limit base rs))
are_read little limit base rs h = subst (AllByRecursion IsPart) (sym (all_back little limit base rs h)) (are_parts base rs)

pub packets_back : (little : Bool) (limit base : ℕ) (rs : List Recording) → AreFit base rs
    → packets_in (parts_of (classic_opened little) (classic_of little limit base rs)) ≡ map (later_by base) (map (λ r. r.seen) rs)
packets_back little limit base rs h = ap packets_in (all_back little limit base rs h) ∙ packets_all base rs h.0
