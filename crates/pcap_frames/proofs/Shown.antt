-- Frames of a file that passed lie in the range.
use Rattle.std.proofs.Common.{◌≡◌, ℕ, ◌+◌, ◌-◌, Bool, true, false, cond, ltb, leb, List, [], ◌∷◌, length, map, Option, Some, None, Result, Ok, Err, refl}
use Rattle.std.specs.Prelude.{is_none}
use Rattle.std.proofs.lemmas.Bool.{ltb-false, leb-true}
use Rattle.pcap_frames.specs.declared.refusals.PcapRefusal.{PcapRefusal}
use Rattle.pcap_frames.specs.declared.refusals.PcapWhy.{PcapWhy}
use Rattle.pcap_frames.specs.declared.refusals.PcapWhy.TheVariants.{LongFrame, TimeRange}
use Rattle.pcap_frames.specs.declared.values.Whose.{Whose}
use Rattle.pcap_frames.specs.Parts.{Opened, opened, parts_of}
use Rattle.pcap_frames.specs.Wanted.{Wanted, wanted_of, one_before, wanted_from, wanted_through, wanted_frames, first_time}
use Rattle.pcap_frames.specs.Checked.{in_range, frame_fault, fault_of, passed_by, tested, checked_by, checked}
use Rattle.pcap_frames.specs.Frames.{timed_as, all_fine, AreShown}
use Rattle.pcap_frames.specs.Blocks.{Block}
use Rattle.fh_base.specs.declared.nanoseconds.TheConstants.{LAST_TIME}
use Rattle.fh_base.specs.declared.source.TheConstants.{FRAME_LIMIT}
use Rattle.fh_base.proofs.Orders.{left_true as and_left, right_true as and_right, both_true as and_both}

tests : (b c : Bool) → is_none (cond b (Some LongFrame) (cond c None (Some TimeRange))) ≡ true → (b ≡ false) × (c ≡ true)
tests true c e = absurd cc
tests false true e = (refl, refl)
tests false false e = absurd cc

-- what has no fault lies in the range
pub in_time : (first start : ℕ) (w : Wanted) → is_none (frame_fault first start w) ≡ true → in_range first start w.time ≡ true
in_time first start w e = (tests (ltb FRAME_LIMIT (length w.frame)) (in_range first start w.time) e).1

pub are_shown : (first start : ℕ) (ws : List Wanted) → all_fine first start ws ≡ true → AreShown (map (timed_as first start) ws)
are_shown first start [] e = tt
are_shown first start (w ∷ rest) e =
    let t = tests (ltb FRAME_LIMIT (length w.frame)) (in_range first start w.time) (and_left (is_none (frame_fault first start w)) (all_fine first start rest) e) in (
      record {
        ns = start + w.time - first;
        is = refl;
        low = leb-true _ _ (and_right (leb first (start + w.time)) (leb (start + w.time - first) LAST_TIME) t.1);
        short = ltb-false _ _ t.0;
      },
      are_shown first start rest (and_right (is_none (frame_fault first start w)) (all_fine first start rest) e),
    )

-- ---- where all passed, no frame has a fault

fine_fault : (f : Option PcapWhy) (place : ℕ) (x : Result (Unit {0}) PcapRefusal) → passed_by f place x ≡ Ok tt → (is_none f ≡ true) × (x ≡ Ok tt)
fine_fault None place x e = (refl, e)
fine_fault (Some w) place x e = absurd cc

one_fine : (first start : ℕ) (w : Option Wanted) (rest : List Wanted) → is_none (fault_of first start w) ≡ true → all_fine first start rest ≡ true → all_fine first start (one_before w rest) ≡ true
one_fine first start None rest e h = h
one_fine first start (Some w) rest e h = and_both (is_none (frame_fault first start w)) (all_fine first start rest) e h

tested_fine : (whose : Whose) (first start place : ℕ) (parts : List (Result Block PcapWhy)) → tested whose first start place parts ≡ Ok tt → all_fine first start (wanted_from whose parts) ≡ true
unfolding tested wanted_from
tested_fine whose first start place [] e = refl
tested_fine whose first start place (Err why ∷ rest) e = absurd cc
tested_fine whose first start place (Ok part ∷ rest) e =
    let h = fine_fault (fault_of first start (wanted_of whose part.held)) place (tested whose first start (place + part.size) rest) e in
    one_fine first start (wanted_of whose part.held) (wanted_from whose rest) h.0 (tested_fine whose first start (place + part.size) rest h.1)

by_opened : (r : Result Opened PcapRefusal) (whose : Whose) (bytes : List ℕ) (start : ℕ) → checked_by whose start bytes r ≡ Ok tt
    → all_fine (first_time (wanted_through whose r bytes)) start (wanted_through whose r bytes) ≡ true
by_opened (Err refusal) whose bytes start e = absurd cc
by_opened (Ok o) whose bytes start e = tested_fine whose (first_time (wanted_from whose (parts_of o bytes))) start o.place (parts_of o bytes) e

pub checked_fine : (whose : Whose) (bytes : List ℕ) (start : ℕ) → checked whose bytes start ≡ Ok tt → all_fine (first_time (wanted_frames whose bytes)) start (wanted_frames whose bytes) ≡ true
checked_fine whose bytes start e = by_opened (opened bytes) whose bytes start e
