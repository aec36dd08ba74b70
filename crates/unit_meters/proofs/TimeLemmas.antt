-- Measurements, as they wait for their times.
use Rattle.std.proofs.Common.{◌≡◌, ℕ, suc, ℤ, pos, ◌≤ℤ◌, ◌+◌, Some, Option, Bool, true, false, List, [], ◌∷◌, ◌++◌, take, refl, sym, ap, ap₂, ◌∙◌, subst, arith, length}
use Rattle.std.specs.Prelude.{All, map, slice_get, if◌then◌else◌}
use Rattle.std.specs.List.{flat_map}
use Rattle.std.specs.Option.{option_to_list}
use Rattle.std.specs.Ordering.{int_eq}
use Rattle.std.proofs.lemmas.Int.{ints}
use Rattle.std.proofs.lemmas.List.{length-map, map-append, take_more}
use Rattle.std.proofs.lemmas.List.Elements.{All-cons, All-head, All-nil, All-tail}
use Rattle.std.proofs.lemmas.Option.{get_or_from_slice_get, slice_get_within}
use Rattle.delay_laws.specs.Ticks.{Begin, due}
use Rattle.fh_document.specs.Proper.{IsMeasure}
use Rattle.fh_document.specs.declared.document.Measure.{Measure}
use Rattle.fh_base.specs.declared.values.Ticks.{Ticks}
use Rattle.frame_ways.specs.declared.landings.Landing.{Landing}
use Rattle.frame_ways.specs.Queues.{IsPlaced, at_time, enumerated, enumerated_from, landing_of}
use Rattle.frame_ways.proofs.ListLemmas.{all_from, all_within}
use Rattle.frame_ways.specs.Listed.{AreFrom}
use Rattle.unit_meters.specs.Begins.{AreWithin, begin_of, begin_time, begins_among, measure_at}

-- ---- their times

pub times_next : (ms : List Measure) (k : ℕ) (m : Measure) (t : Ticks) (old new : List Ticks) → slice_get ms k ≡ Some m → t ≡ begin_time m → old ≡ map begin_time (take k ms)
    → new ≡ old ++ t ∷ [] → new ≡ map begin_time (take (k + 1) ms)
times_next ms k m t old new found at before pushed =
    let next : take (k + 1) ms ≡ take k ms ++ m ∷ [] =
    take_more ms k m (slice_get_within ms k m found) ∙ ap (λ (x : Measure). take k ms ++ x ∷ []) (get_or_from_slice_get ms k m m found) in
    pushed ∙ ap₂ (λ (ts : List Ticks) (u : Ticks). ts ++ u ∷ []) before at ∙ sym (ap (map begin_time) next ∙ map-append begin_time (take k ms) (m ∷ []))

pub measure_is : (ms : List Measure) (k : ℕ) (m : Measure) → All IsMeasure ms → slice_get ms k ≡ Some m → IsMeasure m
measure_is ms k m all found = subst IsMeasure (get_or_from_slice_get ms k m m found) (all k m (slice_get_within ms k m found))

-- ---- those of a tick

-- one more in front, if it is of the tick
abbrev with_begin : Bool → Begin → List Begin → List Begin
with_begin b x xs = if b then x ∷ xs else xs

kept : (whole : List Measure) (b : Bool) (l : Landing) (x : Begin) (ls : List Landing) (xs : List Begin) → measure_at whole l ≡ x ∷ [] → flat_map (measure_at whole) ls ≡ xs
    → flat_map (measure_at whole) (if b then l ∷ ls else ls) ≡ with_begin b x xs
kept whole true l x ls xs here rest = ap₂ (λ (ys zs : List Begin). ys ++ zs) here rest
kept whole false l x ls xs here rest = rest

begins_from : (whole : List Measure) (tick : ℤ) (k : ℕ) (ms : List Measure) → ((j : ℕ) (m : Measure) → slice_get ms j ≡ Some m → slice_get whole (k + j) ≡ Some m)
    → flat_map (measure_at whole) (at_time tick (enumerated_from k (map begin_time ms))) ≡ due tick (map begin_of ms)
begins_from whole tick k [] at = refl
begins_from whole tick k (m ∷ ms) at =
    let here : slice_get whole k ≡ Some m = subst (λ n. slice_get whole n ≡ Some m) {x = k + 0} {y = k} (omega arith) (at 0 m refl) in
    kept whole (int_eq (begin_time m).0 tick) (landing_of (begin_time m) k) (begin_of m) (at_time tick (enumerated_from (suc k) (map begin_time ms))) (due tick (map begin_of ms))
    (ap (λ (o : Option Measure). map begin_of (option_to_list o)) here)
    (begins_from whole tick (suc k) ms (λ j x e. subst (λ n. slice_get whole n ≡ Some x) {x = k + suc j} {y = suc k + j} (omega arith) (at (suc j) x e)))

-- those that wait are all of the list
pub begins_are : (ms : List Measure) (times : List Ticks) (q : List Landing) → times ≡ map begin_time ms → ((t : ℤ) → at_time t q ≡ at_time t (enumerated times))
    → (tick : ℤ) → begins_among ms q tick ≡ due tick (map begin_of ms)
begins_are ms times q are same tick =
    ap (flat_map (measure_at ms)) (same tick ∙ ap (λ (ts : List Ticks). at_time tick (enumerated ts)) are)
    ∙ begins_from ms tick 0 ms (λ j m e. subst (λ n. slice_get ms n ≡ Some m) {x = j} {y = 0 + j} (omega arith) e)

-- ---- none is before a tick that is not after time 0

is_begun : (now : ℤ) (m : Measure) → now ≤ℤ pos 0 → IsMeasure m → now ≤ℤ (begin_time m).0
is_begun now m early h = let low = h.time.low in omega (arith, ints, low, early)

times_from : (now : ℤ) (ms : List Measure) → now ≤ℤ pos 0 → All IsMeasure ms → All (λ (t : Ticks). now ≤ℤ t.0) (map begin_time ms)
times_from now [] early h = All-nil (λ (t : Ticks). now ≤ℤ t.0)
times_from now (m ∷ ms) early h =
    All-cons (λ (t : Ticks). now ≤ℤ t.0) (begin_time m) (map begin_time ms) (is_begun now m early (All-head IsMeasure m ms h)) (times_from now ms early (All-tail IsMeasure m ms h))

pub waiting_from : (now : ℤ) (ms : List Measure) (times : List Ticks) (q : List Landing) → now ≤ℤ pos 0 → times ≡ map begin_time ms → All IsMeasure ms → All (IsPlaced times) q → AreFrom now q
waiting_from now ms times q early are in_time placed = all_from now times q (subst (All (λ (t : Ticks). now ≤ℤ t.0)) (sym are) (times_from now ms early in_time)) placed

-- each has its place in the list
pub waiting_within : (ms : List Measure) (times : List Ticks) (q : List Landing) → times ≡ map begin_time ms → All (IsPlaced times) q → AreWithin (length ms) q
waiting_within ms times q are placed = all_within times (length ms) q (ap length are ∙ length-map ms begin_time) placed
