-- What an addition does to each counter.
use Rattle.std.proofs.Common.{◌≡◌, ◌≢◌, ℕ, ◌+◌, ◌-◌, ◌^◌, ◌<◌, ◌==◌, min, List, ◌∷◌, length, get_or, set, inl, inr, sym, ap, ◌∙◌, if◌then◌else◌, arith, get_or-set_same, get_or-set_other}
use Rattle.std.proofs.lemmas.Bool.{cases_eq, eq-eqb, ne_eqb}
use Rattle.fault_counters.specs.declared.kinds.Counter.{Counter}
use Rattle.fault_counters.specs.declared.kinds.Counter.TheVariants.{Frames, FramesRefused, Messages, OtherType, Delay, Short, UnknownEndpoint, WrongWay, CRefused, CMismatch, CLate, CEarly, CRange, CRepeat, COverlap, CFull, CAccepted, FStored, FWhole, FRepeat, FStray, FLong, URefused, ULate, UEarly, URepeat, UTaken, Cells, Missing, DelayShort, DelayUnknown, DelayRepeat, DelayResult}
use Rattle.fault_counters.specs.Names.{index_of}
use Rattle.fault_counters.specs.Counts.{count_of, bumped, once, capped, times, HasCounted}

pub index_below : (c : Counter) → index_of c < 33
index_below Frames = omega arith
index_below FramesRefused = omega arith
index_below Messages = omega arith
index_below OtherType = omega arith
index_below Delay = omega arith
index_below Short = omega arith
index_below UnknownEndpoint = omega arith
index_below WrongWay = omega arith
index_below CRefused = omega arith
index_below CMismatch = omega arith
index_below CLate = omega arith
index_below CEarly = omega arith
index_below CRange = omega arith
index_below CRepeat = omega arith
index_below COverlap = omega arith
index_below CFull = omega arith
index_below CAccepted = omega arith
index_below FStored = omega arith
index_below FWhole = omega arith
index_below FRepeat = omega arith
index_below FStray = omega arith
index_below FLong = omega arith
index_below URefused = omega arith
index_below ULate = omega arith
index_below UEarly = omega arith
index_below URepeat = omega arith
index_below UTaken = omega arith
index_below Cells = omega arith
index_below Missing = omega arith
index_below DelayShort = omega arith
index_below DelayUnknown = omega arith
index_below DelayRepeat = omega arith
index_below DelayResult = omega arith

-- one more at place i, seen at place v
set_once : (counts : List ℕ) (i v n : ℕ) → i < length counts → get_or counts v 0 ≡ min n (2 ^ 64 - 1) →
    get_or (set counts i (min (get_or counts i 0 + 1) (2 ^ 64 - 1))) v 0 ≡ min (n + (if i == v then 1 else 0)) (2 ^ 64 - 1)
set_once counts i v n below old = elim (cases_eq i v) [
  | inl e ↦
      let t = eq-eqb i v e in
      let at = get_or-set_same counts i (min (get_or counts i 0 + 1) (2 ^ 64 - 1)) 0 below in
      rw (t, ← e) (at ∙ (let o = ap (λ j. get_or counts j 0) e ∙ old in omega (arith, o)))
  | inr ne ↦
      let t = ne_eqb i v ne in
      let other : v ≡ i → ⊥ = λ e. ne (sym e) in
      rw t (get_or-set_other counts i v (min (get_or counts i 0 + 1) (2 ^ 64 - 1)) 0 other ∙ old ∙ omega arith)
]

-- a counter that is at a number, or at the greatest u64 where that is larger, counts one more addition
pub bumped_from : (counts : List ℕ) (c d : Counter) (n : ℕ) → length counts ≡ 33 → count_of counts d ≡ capped n → count_of (bumped counts c) d ≡ capped (n + once c d)
bumped_from counts c d n size old = set_once counts (index_of c) (index_of d) n (omega (arith, size, index_below c)) old

-- each counter after an addition
pub bumped_each : (counts : List ℕ) (c d : Counter) → length counts ≡ 33 → count_of counts d < 2 ^ 64 → count_of (bumped counts c) d ≡ capped (count_of counts d + once c d)
bumped_each counts c d size small = bumped_from counts c d (count_of counts d) size (omega (arith, small))

pub bumped_others : (counts : List ℕ) (c d : Counter) → index_of d ≢ index_of c → count_of (bumped counts c) d ≡ count_of counts d
bumped_others counts c d apart = get_or-set_other counts (index_of c) (index_of d) (capped (count_of counts c + 1)) 0 apart

-- additions one after the other
pub has_counted : (counts : List ℕ) (c : Counter) (earlier : List Counter) → length counts ≡ 33 → HasCounted counts earlier → HasCounted (bumped counts c) (c ∷ earlier)
has_counted counts c earlier size before d = bumped_from counts c d (times earlier d) size (before d)
