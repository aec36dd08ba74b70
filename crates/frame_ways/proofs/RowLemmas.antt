-- What sorted rows answer is what the lines say.
use Rattle.std.proofs.Common.{◌≡◌, ℕ, zero, suc, ◌+◌, ◌<◌, ◌≤◌, ◌==◌, Bool, true, false, not, ◌&&◌, cond, List, [], ◌∷◌, ◌++◌, length, get_or, append-nil, take, take-suc, length-take-le, refl, ap, ap₂, sym, ◌∙◌, subst, arith, Some, None, inl, inr, nat_lt}
use Rattle.std.specs.Prelude.{slice_get, ◌⊎◌}
use Rattle.std.proofs.lemmas.Option.{slice_get_cases}
use Rattle.std.specs.List.{AllByRecursion, filter}
use Rattle.std.specs.List.Sorted.{IsSortedByKey, IsStableByKey, IsNonDecreasingBy, IsPartitionPoint, IsPartitionedBy, ties}
use Rattle.std.specs.Ordering.{nat_cmp, is_lt}
use Rattle.std.specs.declared.cmp.Ordering.TheVariants.{Less, Equal, Greater}
use Rattle.std.proofs.lemmas.Bool.{cases_Bool, cases_order, eq-eqb, ne_eqb, ltb-true, ltb-false, false≢true}
use Rattle.std.proofs.lemmas.List.Elements.{All-from_recursion}
use Rattle.std.proofs.lemmas.List.Sorted.{IsNonDecreasingBy-from_sort, IsNonDecreasingBy-short, IsPartitionedBy-ltb}
use Rattle.air_source.specs.declared.events.Side.{Side}
use Rattle.fh_document.specs.declared.delivered.Delivery.{Delivery}
use Rattle.fh_document.specs.Delivered.{frame_number}
use Rattle.frame_ways.specs.declared.rows.Row.{Row}
use Rattle.frame_ways.specs.Rows.{AreRising, first_place, is_of, numbered, numbered_from, row_of}

-- ---- the list with its places

row_before : (b : Bool) (r : Row) (rs more : List Row) → cond b (r ∷ (rs ++ more)) (rs ++ more) ≡ cond b (r ∷ rs) rs ++ more
row_before true r rs more = refl
row_before false r rs more = refl

numbered_push : (side : Side) (k : ℕ) (xs : List Delivery) (y : Delivery) → numbered_from side k (xs ++ y ∷ []) ≡ numbered_from side k xs ++ numbered_from side (k + length xs) (y ∷ [])
numbered_push side k [] y = ap (λ n. numbered_from side n (y ∷ [])) (omega arith)
numbered_push side k (x ∷ xs) y =
    ap (λ l. cond (is_of side x) (row_of (frame_number x) k ∷ l) l) (numbered_push side (suc k) xs y ∙ ap (λ n. numbered_from side (suc k) xs ++ numbered_from side n (y ∷ [])) (omega arith))
    ∙ row_before (is_of side x) (row_of (frame_number x) k) (numbered_from side (suc k) xs) (numbered_from side (k + length (x ∷ xs)) (y ∷ []))

numbered_step : (side : Side) (xs : List Delivery) (i : ℕ) (d : Delivery) → i < length xs → numbered side (take i xs) ++ numbered_from side i (get_or xs i d ∷ []) ≡ numbered side (take (i + 1) xs)
numbered_step side xs i d lt =
    let long = length-take-le i xs (omega arith) in
    let next : suc i ≡ i + 1 = omega arith in
    ap (λ n. numbered side (take i xs) ++ numbered_from side n (get_or xs i d ∷ [])) (omega arith) ∙ sym (numbered_push side 0 (take i xs) (get_or xs i d)) ∙ ap (numbered side) (sym (take-suc xs i d lt)) ∙ ap (λ n. numbered side (take n xs)) next

-- what a list answers at an index
pub at_place : {A : Type 0} (xs : List A) (i : ℕ) (d : A) → slice_get xs i ≡ Some d → (i < length xs) × (get_or xs i d ≡ d)
at_place {A} xs i d is = either (slice_get_cases xs i).1
  where
    either : ((x : A) × (i < length xs) × (slice_get xs i ≡ Some x) × (get_or xs i x ≡ x)) ⊎ ((length xs ≤ i) × (slice_get xs i ≡ None)) → (i < length xs) × (get_or xs i d ≡ d)
    either (inl found) = let same : found.0 ≡ d = (let here = found.2 in cc) in (found.1, subst (λ (x : A). get_or xs i x ≡ x) same found.3)
    either (inr past) = let none = past.1 in cc

-- the loop that lists them, one step on
listed_more : (side : Side) (xs : List Delivery) (i : ℕ) (d : Delivery) → slice_get xs i ≡ Some d → numbered side (take i xs) ++ numbered_from side i (d ∷ []) ≡ numbered side (take (i + 1) xs)
listed_more side xs i d got =
    let here = at_place xs i d got in
    ap (λ e. numbered side (take i xs) ++ numbered_from side i (e ∷ [])) (sym here.1) ∙ numbered_step side xs i d here.0

-- where the line is listed
pub listed_step : (side : Side) (xs : List Delivery) (i : ℕ) (d : Delivery) (items now : List Row) → slice_get xs i ≡ Some d → is_of side d ≡ true → items ≡ numbered side (take i xs)
    → now ≡ items ++ row_of (frame_number d) i ∷ [] → now ≡ numbered side (take (i + 1) xs)
listed_step side xs i d items now got own before is =
    is ∙ ap (λ l. l ++ row_of (frame_number d) i ∷ []) before
    ∙ ap (λ b. numbered side (take i xs) ++ cond b (row_of (frame_number d) i ∷ []) []) (sym own)
    ∙ listed_more side xs i d got

-- and where it is passed over
pub passed_step : (side : Side) (xs : List Delivery) (i : ℕ) (d : Delivery) (items : List Row) → slice_get xs i ≡ Some d → is_of side d ≡ false → items ≡ numbered side (take i xs)
    → items ≡ numbered side (take (i + 1) xs)
passed_step side xs i d items got other before =
    before ∙ sym (append-nil (numbered side (take i xs)))
    ∙ ap (λ b. numbered side (take i xs) ++ cond b (row_of (frame_number d) i ∷ []) []) (sym other)
    ∙ listed_more side xs i d got

pub none_past : {A : Type 0} (xs : List A) (i : ℕ) → i < length xs → None ≡ slice_get xs i → ⊥
none_past {A} xs i lt is = either (slice_get_cases xs i).1
  where
    either : ((x : A) × (i < length xs) × (slice_get xs i ≡ Some x) × (get_or xs i x ≡ x)) ⊎ ((length xs ≤ i) × (slice_get xs i ≡ None)) → ⊥
    either (inl found) = let here = found.2 in cc
    either (inr past) = let le = past.0 in omega arith

-- ---- sorted by number

above : (x : Row) (rs : List Row) → ((k : ℕ) → k < length rs → x.number ≤ (get_or rs k x).number) → AllByRecursion (λ s. x.number ≤ s.number) rs
above x [] h = tt
above x (y ∷ rs) h = (h 0 (omega arith), above x rs (λ k lt. h (suc k) (omega arith)))

rising_far : (rs : List Row) → IsNonDecreasingBy (λ r. r.number) rs → AreRising rs
rising_far [] h = tt
rising_far (x ∷ rs) h = (above x rs (λ k lt. h 0 (suc k) x (omega arith) (omega arith)), rising_far rs (λ i j d le lt. h (suc i) (suc j) d (omega arith) (omega arith)))

pub rising : (rs : List Row) → IsSortedByKey (λ r. r.number) nat_cmp rs → AreRising rs
rising rs up = rising_far rs (IsNonDecreasingBy-from_sort (λ r. r.number) rs up)

-- ---- the first of a number stays the first

same_as : (n m : ℕ) (a b : Bool) → nat_lt n m ≡ a → nat_lt m n ≡ b → (m == n) ≡ (not a && not b)
same_as n m true b e f = let lt = ltb-true n m e in ne_eqb m n (λ is. omega (arith, is, lt))
same_as n m false true e f = let gt = ltb-true m n f in ne_eqb m n (λ is. omega (arith, is, gt))
same_as n m false false e f = let le = ltb-false n m e in let ge = ltb-false m n f in eq-eqb m n (omega arith)

tests : (a b p q : Bool) → p ≡ (not a && not b) → p ≡ (not (is_lt (cond a Less (cond q Equal Greater))) && not (is_lt (cond b Less (cond p Equal Greater))))
tests true b p q h = h
tests false true p true h = h
tests false true p false h = h
tests false false true true h = refl
tests false false true false h = refl
tests false false false q h = absurd (false≢true h)

tied : (n m : ℕ) → (m == n) ≡ (not (is_lt (nat_cmp n m)) && not (is_lt (nat_cmp m n)))
tied n m = tests (nat_lt n m) (nat_lt m n) (m == n) (n == m) (same_as n m (nat_lt n m) (nat_lt m n) refl refl)

first_filtered : (n : ℕ) (rs : List Row) → first_place n (filter (λ r. r.number == n) rs) ≡ first_place n rs
first_filtered n [] = refl
first_filtered n (r ∷ rs) = elim (cases_Bool (r.number == n)) [
  | inl here ↦ rw here (rw here refl)
  | inr there ↦ let rest = first_filtered n rs in rw there rest
]

filter_same : (p q : Row → Bool) → ((r : Row) → p r ≡ q r) → (rs : List Row) → filter p rs ≡ filter q rs
filter_same p q h [] = refl
filter_same p q h (r ∷ rs) = ap₂ (λ b l. cond b (r ∷ l) l) (h r) (filter_same p q h rs)

pub same_first : (before now : List Row) → IsStableByKey (λ r. r.number) nat_cmp before now → (n : ℕ) → first_place n now ≡ first_place n before
same_first before now stable n =
    let x : Row = row_of n 0 in
    let test : Row → Bool = ties (λ a b. is_lt (nat_cmp a.number b.number)) x in
    let same : (r : Row) → test r ≡ (r.number == n) = λ r. sym (tied n r.number) in
    sym (first_filtered n now) ∙ ap (first_place n) (sym (filter_same test (λ r. r.number == n) same now) ∙ stable x ∙ filter_same test (λ r. r.number == n) same before) ∙ first_filtered n before

-- ---- what the search finds

-- the test of the search
abbrev pub is_below : ℕ → Row → Bool
is_below n r = nat_lt r.number n

far : (rs : List Row) → AreRising rs → IsNonDecreasingBy (λ r. r.number) rs
far [] up = IsNonDecreasingBy-short (λ r. r.number) [] (omega arith)
far (x ∷ rs) up = from_first x rs up.0 (far rs up.1)
  where
    from_first : (x : Row) (rs : List Row) → AllByRecursion (λ s. x.number ≤ s.number) rs → IsNonDecreasingBy (λ r. r.number) rs → IsNonDecreasingBy (λ r. r.number) (x ∷ rs)
    from_first x rs first rest zero zero d le lt = omega arith
    from_first x rs first rest zero (suc j) d le lt = All-from_recursion (λ s. x.number ≤ s.number) rs first j d (omega arith)
    from_first x rs first rest (suc i) zero d le lt = absurd (omega arith)
    from_first x rs first rest (suc i) (suc j) d le lt = rest i j d (omega arith) (omega arith)

pub parts : (n : ℕ) (rs : List Row) → AreRising rs → IsPartitionedBy (is_below n) rs
parts n rs up = IsPartitionedBy-ltb (λ r. r.number) rs n (far rs up)

abbrev pub IsPlaceFor : ℕ → List Row → ℕ → Type 0
IsPlaceFor n rs at = IsPartitionPoint (λ r. is_below n r ≡ true) (λ r. is_below n r ≡ false) rs at

first_below : (n : ℕ) (x : Row) (rs : List Row) (at : ℕ) → IsPlaceFor n (x ∷ rs) (suc at) → first_place n (x ∷ rs) ≡ first_place n rs
first_below n x rs at place =
    let lt = ltb-true x.number n (place.0 0 x (omega arith) (omega arith)) in
    let other = ne_eqb x.number n (λ is. omega (arith, is, lt)) in
    rw other refl

behind : (n : ℕ) (x : Row) (rs : List Row) (at : ℕ) → IsPlaceFor n (x ∷ rs) (suc at) → IsPlaceFor n rs at
behind n x rs at place = (λ k d low high. place.0 (suc k) d (omega arith) (omega arith), λ k d low high. place.1 (suc k) d (omega arith) (omega arith))

pub found : (n : ℕ) (rs : List Row) (at : ℕ) (e : Row) → IsPlaceFor n rs at → at < length rs → (get_or rs at e).number ≡ n → Some (get_or rs at e).place ≡ first_place n rs
found n [] at e place lt is = absurd (omega arith)
found n (x ∷ rs) zero e place lt is = let same = eq-eqb x.number n is in rw same refl
found n (x ∷ rs) (suc at) e place lt is = found n rs at e (behind n x rs at place) (omega arith) is ∙ sym (first_below n x rs at place)

none_above : (n : ℕ) (rs : List Row) → AllByRecursion (λ s. n < s.number) rs → first_place n rs ≡ None
none_above n [] h = refl
none_above n (x ∷ rs) h =
    let lt = h.0 in
    let other = ne_eqb x.number n (λ is. omega (arith, is, lt)) in
    let rest = none_above n rs h.1 in
    rw other rest

higher : (n m : ℕ) (rs : List Row) → n < m → AllByRecursion (λ s. m ≤ s.number) rs → AllByRecursion (λ s. n < s.number) rs
higher n m [] lt h = tt
higher n m (x ∷ rs) lt h = let le = h.0 in (omega arith, higher n m rs lt h.1)

pub missing : (n : ℕ) (rs : List Row) (at : ℕ) (e : Row) → AreRising rs → IsPlaceFor n rs at → (at < length rs → (get_or rs at e).number ≡ n → ⊥) → None ≡ first_place n rs
missing n [] at e up place not_here = refl
missing n (x ∷ rs) zero e up place not_here =
    let le = ltb-false x.number n (place.1 0 x (omega arith) (omega arith)) in
    let apart = not_here (omega arith) in
    let lt : n < x.number = elim (cases_order n x.number) [
      | inl is ↦ absurd (apart (sym is))
      | inr (inl lt) ↦ lt
      | inr (inr gt) ↦ absurd (omega arith)
    ] in
    sym (none_above n (x ∷ rs) (lt, higher n x.number rs lt up.0))
missing n (x ∷ rs) (suc at) e up place not_here =
    missing n rs at e up.1 (behind n x rs at place) (λ lt is. not_here (omega arith) is) ∙ sym (first_below n x rs at place)
