-- The frames that a document injects to a unit, as they wait for their times.
use Rattle.std.proofs.Common.{◌≡◌, ℕ, suc, ℤ, pos, ◌*ℤ◌, ◌≤ℤ◌, ◌+◌, ◌^◌, ◌<◌, Some, Bool, true, false, List, [], ◌∷◌, ◌++◌, length, take, get_or, refl, sym, ap, ap₂, ◌∙◌, subst, arith, append-nil}
use Rattle.std.specs.Prelude.{All, filter, map, slice_get, if◌then◌else◌}
use Rattle.std.specs.Borrow.{Bor}
use Rattle.std.specs.Option.{option_map}
use Rattle.std.specs.Ordering.{int_eq}
use Rattle.std.proofs.lemmas.Int.{ints}
use Rattle.std.proofs.lemmas.List.{length-map, map-append, take_more}
use Rattle.std.proofs.lemmas.List.Elements.{All-cons, All-head, All-nil, All-tail, All-filter, All-weaker, filter-append}
use Rattle.std.proofs.lemmas.Option.{get_or_from_slice_get, slice_get-get_or, slice_get-map, slice_get_within}
use Rattle.air_source.specs.declared.events.Side.{Side}
use Rattle.frame_ways.specs.Landing.{injected_at, injected_to, is_to, landing_at, arrival_at}
use Rattle.fh_document.specs.Proper.{IsDocument}
use Rattle.fh_document.specs.declared.document.Document.{Document}
use Rattle.fh_document.specs.declared.document.Injection.{Injection}
use Rattle.fh_base.specs.declared.values.Ticks.{Ticks}
use Rattle.frame_ways.specs.declared.landings.Landing.{Landing}
use Rattle.frame_ways.specs.Queues.{IsPlaced, at_time, enumerated, enumerated_from, landing_of as place_of}
use Rattle.unit_model.specs.Meetings.{Arrival}
use Rattle.frame_ways.specs.Listed.{AreFrom, HasTime, landing_arrival, injected_frame, injections_in, injections_to, landings_left, time_of}
use Rattle.fh_base.specs.declared.nanoseconds.TheConstants.{NANOSECOND}

-- ---- those of a unit

take_next : (is : List Injection) (k : ℕ) (i : Injection) → slice_get is k ≡ Some i → take (k + 1) is ≡ take k is ++ i ∷ []
take_next is k i found = take_more is k i (slice_get_within is k i found) ∙ ap (λ (x : Injection). take k is ++ x ∷ []) (get_or_from_slice_get is k i i found)

filter_next : (p : Injection → Bool) (is : List Injection) (k : ℕ) (i : Injection) → slice_get is k ≡ Some i → filter p (take (k + 1) is) ≡ filter p (take k is) ++ filter p (i ∷ [])
filter_next p is k i found = ap (filter p) (take_next is k i found) ∙ filter-append p (take k is) (i ∷ [])

only_one : (p : Injection → Bool) (i : Injection) (b : Bool) → p i ≡ b → filter p (i ∷ []) ≡ (if b then i ∷ [] else [])
only_one p i b e = ap (λ (t : Bool). let xs : List Injection = if t then i ∷ [] else [] in xs) e

-- the next one is to the unit, and is lent
pub one_kept : (p : Injection → Bool) (is : List Injection) (k : ℕ) (r : Bor Injection) (old new : List (Bor Injection)) → slice_get is k ≡ Some r.now → p r.now ≡ true
    → injections_in old ≡ filter p (take k is) → new ≡ old ++ r ∷ [] → injections_in new ≡ filter p (take (k + 1) is)
one_kept p is k r old new found to before pushed =
    ap injections_in pushed
    ∙ map-append (λ (i : Bor Injection). i.now) old (r ∷ [])
    ∙ ap₂ (λ (xs ys : List Injection). xs ++ ys) before (sym (only_one p r.now true to))
    ∙ sym (filter_next p is k r.now found)

-- it is not
pub one_passed : (p : Injection → Bool) (is : List Injection) (k : ℕ) (i : Injection) (old : List (Bor Injection)) → slice_get is k ≡ Some i → p i ≡ false
    → injections_in old ≡ filter p (take k is) → injections_in old ≡ filter p (take (k + 1) is)
one_passed p is k i old found other before =
    before
    ∙ sym (append-nil (filter p (take k is)))
    ∙ ap (λ (xs : List Injection). filter p (take k is) ++ xs) (sym (only_one p i false other))
    ∙ sym (filter_next p is k i found)

-- ---- their times

pub times_to : (d : Document) (side : Side) (lent : List (Bor Injection)) → IsDocument d → injections_in lent ≡ injections_to side d → All HasTime (injections_in lent)
times_to d side lent doc are = subst (All HasTime) (sym are) (All-filter (is_to side) HasTime d.injections (λ k i lt. (doc.injections k i lt).time))

pub time_at : (lent : List (Bor Injection)) (k : ℕ) (any : Bor Injection) → k < length lent → All HasTime (injections_in lent) → HasTime (get_or lent k any).now
time_at lent k any inside h =
    let found : slice_get (injections_in lent) k ≡ Some (get_or lent k any).now
    = slice_get-map (λ (i : Bor Injection). i.now) lent k ∙ ap (option_map (λ (i : Bor Injection). i.now)) (slice_get-get_or lent k any inside) in
    subst HasTime (get_or_from_slice_get (injections_in lent) k (get_or lent k any).now (get_or lent k any).now found)
    (h k (get_or lent k any).now (slice_get_within (injections_in lent) k (get_or lent k any).now found))

-- ---- each that waits is one of them

pub as_many : (times : List Ticks) (lent : List (Bor Injection)) → times ≡ map time_of (injections_in lent) → length times ≡ length lent
as_many times lent are = ap length are ∙ length-map (injections_in lent) time_of ∙ length-map lent (λ (i : Bor Injection). i.now)

pub all_within : (times : List Ticks) (count : ℕ) (q : List Landing) → length times ≡ count → All (IsPlaced times) q → All (λ (l : Landing). l.index < count) q
all_within times count q size placed = All-weaker (IsPlaced times) (λ (l : Landing). l.index < count) (λ l p. subst (λ (n : ℕ). l.index < n) size p.within) q placed

-- ---- the frames of a time

-- these of a list
abbrev arrivals_from : List Injection → List Landing → List Arrival
arrivals_from whole ls = map (λ l. arrival_at l.at.0 (injected_frame (slice_get whole l.index))) ls

kept : (whole : List Injection) (b : Bool) (l : Landing) (a : Arrival) (ls : List Landing) (xs : List Arrival) → arrival_at l.at.0 (injected_frame (slice_get whole l.index)) ≡ a
    → arrivals_from whole ls ≡ xs → arrivals_from whole (if b then l ∷ ls else ls) ≡ (if b then a ∷ xs else xs)
kept whole true l a ls xs here rest = ap₂ (λ x ys. x ∷ ys) here rest
kept whole false l a ls xs here rest = rest

left_from : (whole : List Injection) (tick : ℤ) (k : ℕ) (is : List Injection) → ((j : ℕ) (i : Injection) → slice_get is j ≡ Some i → slice_get whole (k + j) ≡ Some i)
    → arrivals_from whole (at_time tick (enumerated_from k (map time_of is))) ≡ landing_at (map injected_at is) tick
left_from whole tick k [] at = refl
left_from whole tick k (i ∷ is) at =
    let here : slice_get whole k ≡ Some i = subst (λ n. slice_get whole n ≡ Some i) {x = k + 0} {y = k} (omega arith) (at 0 i refl) in
    kept whole (int_eq (i.at *ℤ pos NANOSECOND) tick) (place_of (time_of i) k) (injected_at i) (at_time tick (enumerated_from (suc k) (map time_of is))) (landing_at (map injected_at is) tick)
    (ap (λ o. arrival_at (i.at *ℤ pos NANOSECOND) (injected_frame o)) here)
    (left_from whole tick (suc k) is (λ j x e. subst (λ n. slice_get whole n ≡ Some x) {x = k + suc j} {y = suc k + j} (omega arith) (at (suc j) x e)))

left_all : (d : Document) (side : Side) (tick : ℤ) → landings_left d side tick (enumerated (map time_of (injections_to side d))) ≡ landing_at (injected_to side d) tick
left_all d side tick =
    let is = injections_to side d in
    left_from is tick 0 is (λ j i e. subst (λ n. slice_get is n ≡ Some i) {x = j} {y = 0 + j} (omega arith) e)

-- those that wait are all of them
pub left_listed : (d : Document) (side : Side) (times : List Ticks) (lent : List (Bor Injection)) (q : List Landing) → times ≡ map time_of (injections_in lent) → injections_in lent ≡ injections_to side d
    → ((t : ℤ) → at_time t q ≡ at_time t (enumerated times)) → (tick : ℤ) → landings_left d side tick q ≡ landing_at (injected_to side d) tick
left_listed d side times lent q are those same tick =
    ap (map (landing_arrival d side)) (same tick)
    ∙ ap (λ ts. landings_left d side tick (enumerated ts)) (are ∙ ap (map time_of) those)
    ∙ left_all d side tick

-- ---- none is before a tick that is not after time 0

is_begun : (now : ℤ) (i : Injection) → now ≤ℤ pos 0 → HasTime i → now ≤ℤ (i.at *ℤ pos NANOSECOND)
is_begun now i early h = let low = h.low in omega (arith, ints, low, early)

times_from : (now : ℤ) (is : List Injection) → now ≤ℤ pos 0 → All HasTime is → All (λ t. now ≤ℤ t.0) (map time_of is)
times_from now [] early h = All-nil _
times_from now (i ∷ is) early h =
    All-cons (λ (t : Ticks). now ≤ℤ t.0) (time_of i) (map time_of is) (is_begun now i early (All-head HasTime i is h)) (times_from now is early (All-tail HasTime i is h))

placed_from : (now : ℤ) (times : List Ticks) (l : Landing) → All (λ t. now ≤ℤ t.0) times → IsPlaced times l → now ≤ℤ l.at.0
placed_from now times l h p = subst (λ (t : Ticks). now ≤ℤ t.0) (get_or_from_slice_get times l.index l.at l.at p.is) (h l.index l.at p.within)

pub all_from : (now : ℤ) (times : List Ticks) (q : List Landing) → All (λ t. now ≤ℤ t.0) times → All (IsPlaced times) q → AreFrom now q
all_from now times [] h p = tt
all_from now times (l ∷ q) h p = (placed_from now times l h (All-head (IsPlaced times) l q p), all_from now times q h (All-tail (IsPlaced times) l q p))

pub listed_from : (now : ℤ) (times : List Ticks) (lent : List (Bor Injection)) (q : List Landing) → now ≤ℤ pos 0 → times ≡ map time_of (injections_in lent) → All HasTime (injections_in lent)
    → All (IsPlaced times) q → AreFrom now q
listed_from now times lent q early are in_time placed =
    all_from now times q (subst (All (λ (t : Ticks). now ≤ℤ t.0)) (sym are) (times_from now (injections_in lent) early in_time)) placed

-- ---- a frame of a document is short

-- the one at this place among those to the unit
pub lent_at : (d : Document) (side : Side) (lent : List (Bor Injection)) (index : ℕ) (r : Bor Injection) → injections_in lent ≡ injections_to side d → slice_get lent index ≡ Some r
    → slice_get (injections_to side d) index ≡ Some r.now
lent_at d side lent index r are found =
    ap (λ (xs : List Injection). slice_get xs index) (sym are)
    ∙ slice_get-map (λ (i : Bor Injection). i.now) lent index
    ∙ ap (option_map (λ (i : Bor Injection). i.now)) found

pub short_at : (d : Document) (side : Side) (index : ℕ) (i : Injection) → IsDocument d → slice_get (injections_to side d) index ≡ Some i → length i.frame < 2 ^ 32
short_at d side index i doc found =
    let is = injections_to side d in
    let short = All-filter (is_to side) (λ (x : Injection). length x.frame < 2 ^ 32) d.injections (λ k x lt. (let most = (doc.injections k x lt).short in omega (arith, most))) in
    subst (λ (x : Injection). length x.frame < 2 ^ 32) (get_or_from_slice_get is index i i found) (short index i (slice_get_within is index i found))
