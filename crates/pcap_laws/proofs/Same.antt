-- A file and the classic file of its packets give the same.
use Rattle.std.proofs.Common.{◌≡◌, ℕ, ◌+◌, ◌-◌, ◌*◌, ◌/◌, ◌^◌, ◌<◌, ◌≤◌, Bool, List, [], ◌∷◌, map, Result, Ok, Err, refl, sym, ap, subst, ◌∙◌, arith}
use Rattle.std.specs.Prelude.{All}
use Rattle.std.specs.List.{AllByRecursion}
use Rattle.std.proofs.lemmas.List.Elements.{All-nil, All-cons, All-head, All-tail}
use Rattle.pcap_frames.specs.declared.refusals.PcapRefusal.{PcapRefusal}
use Rattle.pcap_frames.specs.declared.values.Whose.{Whose}
use Rattle.pcap_frames.specs.Parts.{Opened, opened, parts_of}
use Rattle.pcap_frames.specs.Wanted.{wanted_from, wanted_through, wanted_frames, first_time}
use Rattle.pcap_frames.specs.Checked.{checked}
use Rattle.pcap_frames.specs.Frames.{timed_as, frames_of}
use Rattle.pcap_frames.specs.PcapngPackets.{Seen}
use Rattle.pcap_laws.specs.Classic.{Recording, classic_of}
use Rattle.pcap_laws.specs.Shown.{packets_in, packets_by, IsPart, IsFileBy}
use Rattle.pcap_laws.specs.Laws.{HasPlace, IsWithin, later_by, reason_of, GivesTheSame, ClassicGivesTheSame}
use Rattle.pcap_laws.proofs.Short.{IsShort, packets_short}
use Rattle.pcap_laws.proofs.Shown.{wanted_seen, wanted_shown, faults, reason_is, accepted}
use Rattle.pcap_laws.proofs.Later.{less, IsAfter, wanted_less, wanted_after, same_faults, same_timed}
use Rattle.pcap_laws.proofs.Records.{AreFit, classic_opened, opened_back, are_read, packets_back}

-- two files that are opened, none of whose parts is refused, and the other has the packets of the first at times that count from later
record Opens (base : ℕ) (bytes other : List ℕ) (o p : Opened) : Type 0 where
  pub first : opened bytes ≡ Ok o
  pub second : opened other ≡ Ok p
  pub parts : AllByRecursion IsPart (parts_of o bytes)
  pub others : AllByRecursion IsPart (parts_of p other)
  pub places : All (HasPlace base) (packets_in (parts_of o bytes))
  pub later : packets_in (parts_of p other) ≡ map (later_by base) (packets_in (parts_of o bytes))

abbrev less_by : ℕ → ℕ
less_by base = base * 10 ^ 9

wanted_are : (base : ℕ) (bytes other : List ℕ) (o p : Opened) → Opens base bytes other o p → (whose : Whose)
    → wanted_from whose (parts_of p other) ≡ map (less (less_by base)) (wanted_from whose (parts_of o bytes))
wanted_are base bytes other o p h whose =
    wanted_shown whose (parts_of p other)
    ∙ ap (wanted_seen whose) h.later
    ∙ wanted_less whose base (packets_in (parts_of o bytes))
    ∙ ap (map (less (less_by base))) (sym (wanted_shown whose (parts_of o bytes)))

after : (base : ℕ) (bytes other : List ℕ) (o p : Opened) → Opens base bytes other o p → (whose : Whose) → AllByRecursion (IsAfter (less_by base)) (wanted_from whose (parts_of o bytes))
after base bytes other o p h whose =
    subst (AllByRecursion (IsAfter (less_by base))) (sym (wanted_shown whose (parts_of o bytes))) (wanted_after whose base (packets_in (parts_of o bytes)) h.places)

same_reason : (base : ℕ) (bytes other : List ℕ) (o p : Opened) → Opens base bytes other o p → (whose : Whose) (start : ℕ) → reason_of (checked whose other start) ≡ reason_of (checked whose bytes start)
same_reason base bytes other o p h whose start =
    reason_is whose start other p h.second h.others
    ∙ ap (λ ws. faults (first_time ws) start ws) (wanted_are base bytes other o p h whose)
    ∙ same_faults (less_by base) start (wanted_from whose (parts_of o bytes)) (after base bytes other o p h whose)
    ∙ sym (reason_is whose start bytes o h.first h.parts)

same_frames : (base : ℕ) (bytes other : List ℕ) (o p : Opened) → Opens base bytes other o p → (whose : Whose) (start : ℕ) → frames_of whose other start ≡ frames_of whose bytes start
same_frames base bytes other o p h whose start =
    let one : wanted_frames whose bytes ≡ wanted_from whose (parts_of o bytes) = ap (λ r. wanted_through whose r bytes) h.first in
    let two : wanted_frames whose other ≡ map (less (less_by base)) (wanted_from whose (parts_of o bytes)) = ap (λ r. wanted_through whose r other) h.second ∙ wanted_are base bytes other o p h whose in
    ap (λ ws. map (timed_as (first_time ws) start) ws) two
    ∙ same_timed (less_by base) start (wanted_from whose (parts_of o bytes)) (after base bytes other o p h whose)
    ∙ sym (ap (λ ws. map (timed_as (first_time ws) start) ws) one)

gives : (base : ℕ) (bytes other : List ℕ) (o p : Opened) → Opens base bytes other o p → GivesTheSame base bytes other
gives base bytes other o p h = record {
  file = subst (λ r. IsFileBy r other) (sym h.second) h.others;
  packets = ap (λ r. packets_by r other) h.second ∙ h.later ∙ ap (map (later_by base)) (sym (ap (λ r. packets_by r bytes) h.first));
  refused = same_reason base bytes other o p h;
  frames = same_frames base bytes other o p h;
}

by_opened : (little : Bool) (limit base : ℕ) (rs : List Recording) (bytes : List ℕ) (r : Result Opened PcapRefusal) → opened bytes ≡ r → IsFileBy r bytes
    → map (λ r. r.seen) rs ≡ packets_by r bytes → All (HasPlace base) (packets_by r bytes) → All IsShort (packets_by r bytes) → GivesTheSame base bytes (classic_of little limit base rs)
by_opened little limit base rs bytes (Err refusal) e h are places short = absurd h
by_opened little limit base rs bytes (Ok o) e h are places short =
    let fit : AreFit base rs = (subst (All (HasPlace base)) (sym are) places, subst (All IsShort) (sym are) short) in
    gives base bytes (classic_of little limit base rs) o (classic_opened little) (record {
      first = e;
      second = opened_back little limit base rs;
      parts = h;
      others = are_read little limit base rs fit;
      places = places;
      later = packets_back little limit base rs fit ∙ ap (map (later_by base)) are;
    })

-- ---- packets that have a place

low_place : (first time : ℕ) → first ≤ time → first / 10 ^ 9 * 10 ^ 9 ≤ time
low_place first time h = omega (arith, h)

high_place : (first time : ℕ) → time < first + (2 ^ 32 - 1) * 10 ^ 9 → time < (first / 10 ^ 9 + 2 ^ 32) * 10 ^ 9
high_place first time h = omega (arith, h)

placed : (first : ℕ) (packets : List Seen) → All (IsWithin first) packets → All (HasPlace (first / 10 ^ 9)) packets
placed first [] h = All-nil (HasPlace (first / 10 ^ 9))
placed first (seen ∷ rest) h =
    let one = All-head (IsWithin first) seen rest h in
    All-cons (HasPlace (first / 10 ^ 9)) seen rest (record { low = low_place first seen.time one.low; high = high_place first seen.time one.high })
    (placed first rest (All-tail (IsWithin first) seen rest h))

pub gives_the_same : ClassicGivesTheSame
gives_the_same = record {
  same = λ little limit base rs bytes all h are places. by_opened little limit base rs bytes (opened bytes) refl h are places (packets_short bytes all);
  accepted = accepted;
  placed = placed;
}
