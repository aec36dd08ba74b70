-- How a queue's landings of a time relate to those of the list, and what each call means for them.
use Rattle.std.proofs.Common.{◌≡◌, ℕ, suc, ◌+◌, ◌<◌, ◌≤◌, ℤ, ◌≤ℤ◌, ◌<ℤ◌, ◌↔◌, Bool, true, false, not, ◌&&◌, cond, List, [], ◌∷◌, ◌++◌, length, get_or, take, take-suc, length-take-le, refl, ap, ap₂, sym, ◌∙◌, subst, arith, Option, Some, None, IfSome, int_lt}
use Rattle.std.specs.List.{All, AllByRecursion, filter, slice_get}
use Rattle.std.specs.List.Sorted.{IsPermutation, IsSortedByKey, IsStableByKey, ties}
use Rattle.std.specs.Ordering.{int_cmp, int_eq, is_eq, is_lt, MatchOrdering}
use Rattle.std.specs.declared.cmp.Ordering.{Ordering}
use Rattle.std.specs.declared.cmp.Ordering.TheVariants.{Less, Equal, Greater}
use Rattle.std.specs.Cmp.{int_ranks}
use Rattle.std.proofs.lemmas.Int.{ints}
use Rattle.std.proofs.lemmas.Bool.Decides.{Decides-int_eq}
use Rattle.std.proofs.lemmas.Cmp.{int_cmp_total}
use Rattle.std.proofs.lemmas.List.Elements.{All-from_recursion, All-tail}
use Rattle.std.proofs.lemmas.List.Sorted.{All-permutation, ranks_by, sorted_far}
use Rattle.std.proofs.lemmas.Option.{slice_get_within}
use Rattle.fh_base.specs.declared.values.Ticks.{Ticks}
use Rattle.frame_ways.specs.declared.landings.Landing.{Landing}
use Rattle.frame_ways.specs.Queues.{AreRising, at_time, enumerated, enumerated_from, first_time, IsPlaced, landing_of, Took}

-- ---- the list with its places

pub enumerated_push : (k : ℕ) (xs : List Ticks) (y : Ticks) → enumerated_from k (xs ++ y ∷ []) ≡ enumerated_from k xs ++ landing_of y (k + length xs) ∷ []
enumerated_push k [] y = ap (λ n. landing_of y n ∷ []) (omega arith)
enumerated_push k (x ∷ xs) y = ap (λ l. landing_of x k ∷ l) (enumerated_push (suc k) xs y ∙ ap (λ n. enumerated_from (suc k) xs ++ landing_of y n ∷ []) (omega arith))

-- the loop that lists them, one step on
pub enumerated_step : (xs : List Ticks) (i : ℕ) (d : Ticks) → i < length xs → enumerated (take i xs) ++ landing_of (get_or xs i d) i ∷ [] ≡ enumerated (take (i + 1) xs)
enumerated_step xs i d lt =
    let long = length-take-le i xs (omega arith) in
    let next : suc i ≡ i + 1 = omega arith in
    ap (λ n. enumerated (take i xs) ++ landing_of (get_or xs i d) n ∷ []) (omega arith) ∙ sym (enumerated_push 0 (take i xs) (get_or xs i d)) ∙ ap enumerated (sym (take-suc xs i d lt)) ∙ ap (λ n. enumerated (take n xs)) next

pub listed_step : (xs : List Ticks) (i : ℕ) (d : Ticks) (items now : List Landing) → i < length xs → items ≡ enumerated (take i xs) → now ≡ items ++ landing_of (get_or xs i d) i ∷ [] → now ≡ enumerated (take (i + 1) xs)
listed_step xs i d items now lt before is = is ∙ ap (λ l. l ++ landing_of (get_or xs i d) i ∷ []) before ∙ enumerated_step xs i d lt

placed_from : (whole : List Ticks) (k : ℕ) (ts : List Ticks) → ((i : ℕ) (t : Ticks) → slice_get ts i ≡ Some t → slice_get whole (k + i) ≡ Some t)
    → AllByRecursion (IsPlaced whole) (enumerated_from k ts)
placed_from whole k [] h = tt
placed_from whole k (t ∷ ts) h =
    let is : slice_get whole k ≡ Some t = subst (λ n. slice_get whole n ≡ Some t) {x = k + 0} {y = k} (omega arith) (h 0 t refl) in (
      record { within = slice_get_within whole k t is; is = is },
      placed_from whole (suc k) ts (λ i u e. subst (λ n. slice_get whole n ≡ Some u) {x = k + suc i} {y = suc k + i} (omega arith) (h (suc i) u e)),
    )

pub placed : (times : List Ticks) (ls : List Landing) → IsPermutation (enumerated times) ls → All (IsPlaced times) ls
placed times ls same = All-permutation (IsPlaced times) (enumerated times) ls same (All-from_recursion (IsPlaced times) (enumerated times) (placed_from times 0 times (λ i t e. subst (λ n. slice_get times n ≡ Some t) {x = i} {y = 0 + i} (omega arith) e)))

-- ---- sorted by time

ranked : (a b : ℤ) (r : Ordering) → MatchOrdering r (b <ℤ a) (b ≡ a) (a <ℤ b) → is_lt r ≡ false → a ≤ℤ b
ranked a b Less h e = cc
ranked a b Equal h e = omega (arith, ints)
ranked a b Greater h e = omega (arith, ints)

not_lower : (a b : ℤ) → is_lt (int_cmp b a) ≡ false → a ≤ℤ b
not_lower a b e = ranked a b (int_cmp b a) (int_ranks b a) e

above : (x : Landing) (ls : List Landing) → ((k : ℕ) → k < length ls → is_lt (int_cmp (get_or ls k x).at.0 x.at.0) ≡ false) → AllByRecursion (λ m. x.at.0 ≤ℤ m.at.0) ls
above x [] h = tt
above x (y ∷ ls) h = (not_lower x.at.0 y.at.0 (h 0 (omega arith)), above x ls (λ k lt. h (suc k) (omega arith)))

rising_far : (ls : List Landing) → ((i j : ℕ) (d : Landing) → i ≤ j → j < length ls → is_lt (int_cmp (get_or ls j d).at.0 (get_or ls i d).at.0) ≡ false) → AreRising ls
rising_far [] h = tt
rising_far (x ∷ ls) h = (above x ls (λ k lt. h 0 (suc k) x (omega arith) (omega arith)), rising_far ls (λ i j d le lt. h (suc i) (suc j) d (omega arith) (omega arith)))

pub rising : (ls : List Landing) → IsSortedByKey (λ l. l.at.0) int_cmp ls → AreRising ls
rising ls up = rising_far ls (sorted_far (λ x y. is_lt (int_cmp x.at.0 y.at.0)) (ranks_by int_cmp_total (λ l. l.at.0)) ls up)

-- ---- those of a time keep their order

tied : (a b : Bool) → (not (is_lt (cond a Less (cond b Greater Equal))) && not (is_lt (cond b Less (cond a Greater Equal)))) ≡ is_eq (cond b Less (cond a Greater Equal))
tied true true = refl
tied true false = refl
tied false true = refl
tied false false = refl

filter_same : (p q : Landing → Bool) → ((l : Landing) → p l ≡ q l) → (ls : List Landing) → filter p ls ≡ filter q ls
filter_same p q h [] = refl
filter_same p q h (l ∷ ls) = ap₂ (λ b r. cond b (l ∷ r) r) (h l) (filter_same p q h ls)

pub same_order : (before now : List Landing) → IsStableByKey (λ l. l.at.0) int_cmp before now → (t : ℤ) → at_time t now ≡ at_time t before
same_order before now stable t =
    let x : Landing = landing_of (record { 0 = t }) 0 in
    let test : Landing → Bool = ties (λ a b. is_lt (int_cmp a.at.0 b.at.0)) x in
    let same : (l : Landing) → test l ≡ int_eq l.at.0 t = λ l. tied (int_lt t l.at.0) (int_lt l.at.0 t) in
    sym (filter_same test (λ l. int_eq l.at.0 t) same now) ∙ stable x ∙ filter_same test (λ l. int_eq l.at.0 t) same before

-- ---- what a caller has of a time

equal_not : (x t : ℤ) → t <ℤ x → (b : Bool) → int_eq x t ≡ b → b ≡ false
equal_not x t lt true e = let same : x ≡ t = (Decides-int_eq x t).0 e in absurd (omega (arith, ints))
equal_not x t lt false e = refl

pub none_below : (t : ℤ) (ls : List Landing) → AllByRecursion (λ m. t <ℤ m.at.0) ls → at_time t ls ≡ []
none_below t [] h = refl
none_below t (l ∷ ls) h = ap₂ (λ b r. cond b (l ∷ r) r) (equal_not l.at.0 t h.0 (int_eq l.at.0 t) refl) (none_below t ls h.1)

later : (t u : ℤ) (ls : List Landing) → t <ℤ u → AllByRecursion (λ m. u ≤ℤ m.at.0) ls → AllByRecursion (λ m. t <ℤ m.at.0) ls
later t u [] lt h = tt
later t u (l ∷ ls) lt h = let le = h.0 in (omega (arith, ints), later t u ls lt h.1)

-- ---- what a taken frame is, and what is left

-- what holds of each landing holds of each that is left
pub taken_all : (P : Landing → Type 0) (at : Ticks) (result : Option ℕ) (before now : List Landing) → Took at result before now → All P before → All P now
taken_all P at (Some index) before now is h = All-tail P (landing_of at index) now (subst (All P) is h)
taken_all P at None before now took h = subst (All P) (sym took.0) h

-- `next_time` gave none exactly where no frame is left
pub none_left : (ls : List Landing) → (first_time ls ≡ None) ↔ (ls ≡ [])
none_left ls = (nothing ls, λ e. ap first_time e)
  where
    nothing : (ls : List Landing) → first_time ls ≡ None → ls ≡ []
    nothing [] e = refl
    nothing (l ∷ ls) e = cc

-- `next_time` gave a time: the first one left is of this time
pub first_left : (ls : List Landing) (u : Ticks) → first_time ls ≡ Some u → (index : ℕ) × (rest : List Landing) × (ls ≡ landing_of u index ∷ rest)
first_left [] u e = cc
first_left (l ∷ ls) u e = (l.index, ls, ap (λ t. landing_of t l.index ∷ ls) (subst (λ o. IfSome o (λ x. l.at ≡ x)) e refl))
