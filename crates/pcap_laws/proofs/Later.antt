-- Frames whose times count from later are the same, with the same first fault.
use Rattle.std.proofs.Common.{◌≡◌, ℕ, pos, ◌+◌, ◌-◌, ◌*◌, ◌^◌, ◌≤◌, Bool, true, false, cond, ltb, leb, ◌&&◌, List, [], ◌∷◌, length, map, Option, Some, None, refl, ap, ◌∙◌, arith}
use Rattle.std.specs.Prelude.{All}
use Rattle.std.specs.List.{AllByRecursion}
use Rattle.std.proofs.lemmas.Bool.{le-leb, lt-leb, leb-true, leb-false}
use Rattle.std.proofs.lemmas.List.Elements.{All-head, All-tail}
use Rattle.air_source.specs.declared.events.Side.{Side}
use Rattle.pcap_frames.specs.declared.values.Whose.{Whose}
use Rattle.pcap_frames.specs.declared.refusals.PcapWhy.TheVariants.{LongFrame, TimeRange}
use Rattle.pcap_frames.specs.Ethernet.{ecpri_in}
use Rattle.pcap_frames.specs.Wanted.{Wanted, side_of, wanted_by, wanted_in, one_before, first_time}
use Rattle.pcap_frames.specs.Checked.{in_range, frame_fault}
use Rattle.pcap_frames.specs.Frames.{Timed, timed_as}
use Rattle.pcap_frames.specs.PcapngPackets.{Seen}
use Rattle.pcap_laws.specs.Laws.{HasPlace, later_by}
use Rattle.pcap_laws.proofs.Shown.{wanted_seen, or_later, faults}
use Rattle.fh_base.specs.declared.nanoseconds.TheConstants.{LAST_TIME}
use Rattle.fh_base.specs.declared.source.TheConstants.{FRAME_LIMIT}

-- a frame whose time counts from later
abbrev pub less : ℕ → Wanted → Wanted
less d w = record { side = w.side; time = w.time - d; frame = w.frame }

abbrev pub IsAfter : ℕ → Wanted → Type 0
IsAfter d w = d ≤ w.time

-- ---- the frames of packets

one_less : (d : ℕ) (side : Option Side) (frame : Option (List ℕ)) (time : ℕ) (rest : List Wanted)
    → one_before (wanted_by side frame (time - d)) (map (less d) rest) ≡ map (less d) (one_before (wanted_by side frame time) rest)
one_less d (Some side) (Some frame) time rest = refl
one_less d (Some side) None time rest = refl
one_less d None frame time rest = refl

pub wanted_less : (whose : Whose) (base : ℕ) (packets : List Seen) → wanted_seen whose (map (later_by base) packets) ≡ map (less (base * 10 ^ 9)) (wanted_seen whose packets)
unfolding wanted_seen
wanted_less whose base [] = refl
wanted_less whose base (seen ∷ rest) =
    ap (one_before (wanted_in whose (later_by base seen))) (wanted_less whose base rest)
    ∙ one_less (base * 10 ^ 9) (side_of whose seen.packet) (ecpri_in seen.packet) seen.time (wanted_seen whose rest)

one_after : (d : ℕ) (side : Option Side) (frame : Option (List ℕ)) (time : ℕ) (rest : List Wanted) → d ≤ time → AllByRecursion (IsAfter d) rest
    → AllByRecursion (IsAfter d) (one_before (wanted_by side frame time) rest)
one_after d (Some side) (Some frame) time rest h k = (h, k)
one_after d (Some side) None time rest h k = k
one_after d None frame time rest h k = k

pub wanted_after : (whose : Whose) (base : ℕ) (packets : List Seen) → All (HasPlace base) packets → AllByRecursion (IsAfter (base * 10 ^ 9)) (wanted_seen whose packets)
unfolding wanted_seen
wanted_after whose base [] h = tt
wanted_after whose base (seen ∷ rest) h =
    one_after (base * 10 ^ 9) (side_of whose seen.packet) (ecpri_in seen.packet) seen.time (wanted_seen whose rest) (All-head (HasPlace base) seen rest h).low
    (wanted_after whose base rest (All-tail (HasPlace base) seen rest h))

-- ---- their faults and their times

same_time : (d first start time : ℕ) → d ≤ first → d ≤ time → start + (time - d) - (first - d) ≡ start + time - first
same_time d first start time h k = omega (arith, h, k)

order_by : (b : Bool) (d first start time : ℕ) → d ≤ first → d ≤ time → leb first (start + time) ≡ b → leb (first - d) (start + (time - d)) ≡ b
order_by true d first start time h k e = le-leb _ _ (omega (arith, h, k, leb-true first (start + time) e))
order_by false d first start time h k e = lt-leb _ _ (omega (arith, h, k, leb-false first (start + time) e))

same_order : (d first start time : ℕ) → d ≤ first → d ≤ time → leb (first - d) (start + (time - d)) ≡ leb first (start + time)
same_order d first start time h k = order_by (leb first (start + time)) d first start time h k refl

same_range : (d first start time : ℕ) → d ≤ first → d ≤ time → in_range (first - d) start (time - d) ≡ in_range first start time
same_range d first start time h k =
    ap (λ b. b && leb (start + (time - d) - (first - d)) LAST_TIME) (same_order d first start time h k) ∙ ap (λ t. leb first (start + time) && leb t LAST_TIME) (same_time d first start time h k)

same_fault : (d first start : ℕ) (w : Wanted) → d ≤ first → d ≤ w.time → frame_fault (first - d) start (less d w) ≡ frame_fault first start w
same_fault d first start w h k = ap (λ b. cond (ltb FRAME_LIMIT (length w.frame)) (Some LongFrame) (cond b None (Some TimeRange))) (same_range d first start w.time h k)

each_fault : (d first start : ℕ) (ws : List Wanted) → d ≤ first → AllByRecursion (IsAfter d) ws → faults (first - d) start (map (less d) ws) ≡ faults first start ws
unfolding faults
each_fault d first start [] h k = refl
each_fault d first start (w ∷ rest) h k =
    ap (λ f. or_later f (faults (first - d) start (map (less d) rest))) (same_fault d first start w h k.0)
    ∙ ap (or_later (frame_fault first start w)) (each_fault d first start rest h k.1)

pub same_faults : (d start : ℕ) (ws : List Wanted) → AllByRecursion (IsAfter d) ws → faults (first_time (map (less d) ws)) start (map (less d) ws) ≡ faults (first_time ws) start ws
unfolding faults
same_faults d start [] k = refl
same_faults d start (w ∷ rest) k = each_fault d w.time start (w ∷ rest) k.0 k

made : Side → ℕ → List ℕ → Timed
made side ns frame = record { side = side; at = pos ns; frame = frame }

each_timed : (d first start : ℕ) (ws : List Wanted) → d ≤ first → AllByRecursion (IsAfter d) ws → map (timed_as (first - d) start) (map (less d) ws) ≡ map (timed_as first start) ws
unfolding made
each_timed d first start [] h k = refl
each_timed d first start (w ∷ rest) h k =
    ap (λ t. made w.side t w.frame ∷ map (timed_as (first - d) start) (map (less d) rest)) (same_time d first start w.time h k.0)
    ∙ ap (λ ts. timed_as first start w ∷ ts) (each_timed d first start rest h k.1)

pub same_timed : (d start : ℕ) (ws : List Wanted) → AllByRecursion (IsAfter d) ws → map (timed_as (first_time (map (less d) ws)) start) (map (less d) ws) ≡ map (timed_as (first_time ws) start) ws
same_timed d start [] k = refl
same_timed d start (w ∷ rest) k = each_timed d w.time start (w ∷ rest) k.0 k
