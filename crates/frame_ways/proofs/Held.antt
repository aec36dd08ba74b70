-- What an insertion and a look at the first entry do to the entries of a network.
use Rattle.std.proofs.Common.{◌≡◌, ℕ, ℤ, ◌+◌, ◌<◌, ◌<ℤ◌, ◌≤ℤ◌, Bool, List, [], ◌∷◌, map, false, refl, ap, ap₂, sym, ◌∙◌, arith, subst, All}
use Rattle.std.specs.Ordering.{nat_cmp, int_cmp, is_lt, is_gt, is_le, ordering_then, match_ordering}
use Rattle.std.specs.declared.cmp.Ordering.{Ordering}
use Rattle.std.specs.declared.cmp.Ordering.TheVariants.{Less, Equal, Greater}
use Rattle.std.specs.Prelude.{if◌then◌else◌, slice_get, int_lt, Some, None, is_some}
use Rattle.std.specs.BTreeMap.{insert_entry}
use Rattle.std.proofs.lemmas.Bool.Decides.{nat_tests}
use Rattle.std.proofs.lemmas.Int.{ints}
use Rattle.std.proofs.lemmas.List.Elements.{All-cons, All-tail, All-head}
use Rattle.frame_ways.specs.declared.arrivals.Arrival.{Arrival}
use Rattle.frame_ways.specs.declared.places.Place.{Place}
use Rattle.frame_ways.specs.declared.places.Turn.{Turn}
use Rattle.frame_ways.specs.Network.{arrival_cmp, is_after, put_in, next_of, first_time}
use Rattle.frame_ways.specs.Places.{place_of, place_cmp, turn_cmp}
use Rattle.frame_ways.specs.Held.{AreHeld}
use Rattle.frame_ways.proofs.NetworkOrder.{after_turned, first_le, int_le}
use Rattle.fh_base.proofs.Orders.{below, nat_greater}

abbrev pub arrivals : List (Turn × Arrival) → List Arrival
arrivals es = map (λ e. e.1) es

abbrev pub turn_at : ℕ → Arrival → Turn
turn_at n a = record { place = place_of a; serial = n }

-- how the new turn compares with a held one
turn_is : (n : ℕ) (a : Arrival) (e : Turn × Arrival) → e.0.place ≡ place_of e.1 → e.0.serial < n
    → turn_cmp (turn_at n a) e.0 ≡ ordering_then (arrival_cmp a e.1) Greater
turn_is n a e at earlier = ap₂ (λ (p : Place) (o : Ordering). ordering_then (place_cmp (place_of a) p) o) at (nat_greater n e.0.serial earlier)

-- the insertion, at each answer of the comparison
abbrev inserted_at : ℕ → Arrival → (Turn × Arrival) → List (Turn × Arrival) → Ordering → List (Turn × Arrival)
inserted_at n a e es o = match_ordering o ((turn_at n a, a) ∷ e ∷ es) ((e.0, a) ∷ es) (e ∷ insert_entry turn_cmp es (turn_at n a) a)

insert_step : (n : ℕ) (a : Arrival) (e : Turn × Arrival) (es : List (Turn × Arrival)) → e.0.place ≡ place_of e.1 → e.0.serial < n
    → arrivals (insert_entry turn_cmp es (turn_at n a) a) ≡ put_in a (arrivals es)
    → arrivals (insert_entry turn_cmp (e ∷ es) (turn_at n a) a) ≡ put_in a (arrivals (e ∷ es))
insert_step n a e es at earlier rest =
    ap (λ (o : Ordering). arrivals (inserted_at n a e es o)) (turn_is n a e at earlier) ∙ go (arrival_cmp a e.1)
  where
    go : (o : Ordering) → arrivals (inserted_at n a e es (ordering_then o Greater))
        ≡ (if is_lt o then a ∷ e.1 ∷ arrivals es else e.1 ∷ put_in a (arrivals es))
    go Less = refl
    go Equal = ap (λ xs. e.1 ∷ xs) rest
    go Greater = ap (λ xs. e.1 ∷ xs) rest

-- the arrival is among the others as `put_in` says
pub arrivals-insert_entry : (n : ℕ) (a : Arrival) (es : List (Turn × Arrival)) → AreHeld n es
    → arrivals (insert_entry turn_cmp es (turn_at n a) a) ≡ put_in a (arrivals es)
arrivals-insert_entry n a [] h = refl
arrivals-insert_entry n a (e ∷ es) h = insert_step n a e es h.0 h.1 (arrivals-insert_entry n a es h.2)

held_later : (n : ℕ) (es : List (Turn × Arrival)) → AreHeld n es → AreHeld (n + 1) es
held_later n [] h = tt
held_later n (e ∷ es) h = (h.0, omega (arith, h.1), held_later n es h.2)

held_step : (n : ℕ) (a : Arrival) (e : Turn × Arrival) (es : List (Turn × Arrival)) → AreHeld n (e ∷ es)
    → AreHeld (n + 1) (insert_entry turn_cmp es (turn_at n a) a)
    → AreHeld (n + 1) (insert_entry turn_cmp (e ∷ es) (turn_at n a) a)
held_step n a e es h rest =
    subst (λ (o : Ordering). AreHeld (n + 1) (inserted_at n a e es o)) (sym (turn_is n a e h.0 h.1)) (go (arrival_cmp a e.1))
  where
    go : (o : Ordering) → AreHeld (n + 1) (inserted_at n a e es (ordering_then o Greater))
    go Less = (refl, omega arith, held_later n (e ∷ es) h)
    go Equal = (h.0, omega (arith, h.1), rest)
    go Greater = (h.0, omega (arith, h.1), rest)

-- the turns stay those of their arrivals
pub AreHeld-insert_entry : (n : ℕ) (a : Arrival) (es : List (Turn × Arrival)) → AreHeld n es → AreHeld (n + 1) (insert_entry turn_cmp es (turn_at n a) a)
AreHeld-insert_entry n a [] h = (refl, omega arith, tt)
AreHeld-insert_entry n a (e ∷ es) h = held_step n a e es h (AreHeld-insert_entry n a es h.2)

-- ---- the first entry

-- a turn that is not after another has a time that is not after its time
time_first : (s t : Turn) → is_gt (turn_cmp s t) ≡ false → s.place.at.0 ≤ℤ t.place.at.0
time_first s t h = int_le s.place.at.0 t.place.at.0 (first_le _ _ (first_le (place_cmp s.place t.place) (nat_cmp s.serial t.serial) h))

int_due : (x to : ℤ) (a : Arrival) → is_le (int_cmp x to) ≡ is_some (if int_lt to x then None else Some a)
int_due x to a = grind (arith, ints, nat_tests)

pub int_later : (x to : ℤ) (t : Bool) → t ≡ is_le (int_cmp x to) → t ≡ false → to <ℤ x
int_later x to t e f = grind (arith, ints, nat_tests)

first_at : (n : ℕ) (to : ℤ) (t : Turn) (e : Turn × Arrival) (es : List (Turn × Arrival)) → AreHeld n (e ∷ es) → e.0 ≡ t
    → is_le (int_cmp t.place.at.0 to) ≡ is_some (next_of to (arrivals (e ∷ es)))
first_at n to t e es held is =
    ap (λ (s : Turn). is_le (int_cmp s.place.at.0 to)) (sym is)
    ∙ ap (λ (p : Place). is_le (int_cmp p.at.0 to)) held.0
    ∙ int_due e.1.at.0 to e.1

-- one arrival is due if the first is, by its turn
pub first_due : (n : ℕ) (to : ℤ) (t : Turn) (a : Arrival) (es : List (Turn × Arrival)) → AreHeld n es → slice_get es 0 ≡ Some (t, a)
    → is_le (int_cmp t.place.at.0 to) ≡ is_some (next_of to (arrivals es))
first_due n to t a [] held first = cc
first_due n to t a (e ∷ es) held first = let is : e ≡ (t, a) = cc in first_at n to t e es held (ap (λ (p : Turn × Arrival). p.0) is)

-- where the first turn's time is after `to`, and no turn is before it, each arrival's time is after `to`
pub all_later : (n : ℕ) (to : ℤ) (t : Turn) (es : List (Turn × Arrival)) → AreHeld n es → All (λ k. is_gt (turn_cmp t k) ≡ false) (map (λ e. e.0) es)
    → to <ℤ t.place.at.0 → All (λ a. to <ℤ a.at.0) (arrivals es)
all_later n to t [] held from later = λ k d lt. absurd (omega arith)
all_later n to t (e ∷ es) held from later =
    All-cons (λ a. to <ℤ a.at.0) e.1 (arrivals es) here (all_later n to t es held.2 (All-tail (λ k. is_gt (turn_cmp t k) ≡ false) e.0 (map (λ e. e.0) es) from) later)
  where
    first : is_gt (turn_cmp t e.0) ≡ false
    first = All-head (λ k. is_gt (turn_cmp t k) ≡ false) e.0 (map (λ e. e.0) es) from

    here : to <ℤ e.1.at.0
    here = subst (λ (p : Place). to <ℤ p.at.0) held.0 (below to t.place.at.0 e.0.place.at.0 later (time_first t e.0 first))

-- the first turn's time is that of the first arrival
pub first_time_is : (n : ℕ) (t : Turn) (a : Arrival) (es : List (Turn × Arrival)) → AreHeld n es → slice_get es 0 ≡ Some (t, a)
    → Some t.place.at ≡ first_time (arrivals es)
first_time_is n t a [] held first = cc
first_time_is n t a (e ∷ es) held first =
    let is : e ≡ (t, a) = cc in
    ap (λ (p : Turn × Arrival). Some p.0.place.at) (sym is) ∙ ap (λ (p : Place). Some p.at) held.0

-- where no turn is before the first, no arrival's time is before its time
pub none_earlier : (n : ℕ) (t : Turn) (es : List (Turn × Arrival)) → AreHeld n es → All (λ k. is_gt (turn_cmp t k) ≡ false) (map (λ e. e.0) es)
    → All (λ a. t.place.at.0 ≤ℤ a.at.0) (arrivals es)
none_earlier n t [] held from = λ k d lt. absurd (omega arith)
none_earlier n t (e ∷ es) held from =
    All-cons (λ a. t.place.at.0 ≤ℤ a.at.0) e.1 (arrivals es)
    (subst (λ (p : Place). t.place.at.0 ≤ℤ p.at.0) held.0 (time_first t e.0 (All-head (λ k. is_gt (turn_cmp t k) ≡ false) e.0 (map (λ e. e.0) es) from)))
    (none_earlier n t es held.2 (All-tail (λ k. is_gt (turn_cmp t k) ≡ false) e.0 (map (λ e. e.0) es) from))

-- of two turns in order, the first one's arrival is not after the other's
turns_in_order : (p e : Turn × Arrival) → p.0.place ≡ place_of p.1 → e.0.place ≡ place_of e.1 → turn_cmp p.0 e.0 ≡ Less → is_after p.1 e.1 ≡ false
turns_in_order p e p_is e_is h = after_turned p.1 e.1 ∙ is_le
  where
    is_le : is_gt (arrival_cmp p.1 e.1) ≡ false
    is_le = subst (λ (q : Place). is_gt (place_cmp q (place_of e.1)) ≡ false) p_is
        (subst (λ (q : Place). is_gt (place_cmp p.0.place q) ≡ false) e_is (first_le (place_cmp p.0.place e.0.place) (nat_cmp p.0.serial e.0.serial) (ap is_gt h)))

-- where each turn is after the first, its arrival is not before the first's
pub none_before : (n : ℕ) (p : Turn × Arrival) (es : List (Turn × Arrival)) → p.0.place ≡ place_of p.1 → AreHeld n es
    → All (λ k. turn_cmp p.0 k ≡ Less) (map (λ e. e.0) es)
    → All (λ b. is_after p.1 b ≡ false) (arrivals es)
none_before n p [] at held from = λ k d lt. absurd (omega arith)
none_before n p (e ∷ es) at held from =
    All-cons (λ b. is_after p.1 b ≡ false) e.1 (arrivals es)
    (turns_in_order p e at held.0 (All-head (λ k. turn_cmp p.0 k ≡ Less) e.0 (map (λ e. e.0) es) from))
    (none_before n p es at held.2 (All-tail (λ k. turn_cmp p.0 k ≡ Less) e.0 (map (λ e. e.0) es) from))
