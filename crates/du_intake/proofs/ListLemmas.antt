-- Lists whose elements are related to one another in some way, and what a stable sort leaves of that.
use Rattle.std.proofs.Common.{◌≡◌, ℕ, suc, ◌<◌, inl, inr, Bool, true, false, if◌then◌else◌, List, [], ◌∷◌, ◌++◌, length, filter, get_or, Option, Some, refl, sym, ◌∙◌, subst, arith}
use Rattle.std.specs.List.{AllPairs, slice_get}
use Rattle.std.specs.List.Sorted.{IsSortedBy, IsStableBy, ties}
use Rattle.std.specs.Cmp.{IsStrictWeakOrder}
use Rattle.std.proofs.lemmas.List.Kept.{AllPairs-cons, AllPairs-filter}
use Rattle.std.proofs.lemmas.List.Sorted.{sorted_far}
use Rattle.std.proofs.lemmas.Option.{get_or_from_slice_get, same_Some, slice_get-get_or, slice_get_within}
use Rattle.fh_base.specs.Members.{IsIn}
use Rattle.fh_base.proofs.MemberLemmas.{in_either, in_filter, of_filter, get_in, own_tie, kept_first, all_of}
use Rattle.fh_base.proofs.MadeLists.{at_in}

pub some_same : {X : Type 0} (o : Option X) (x y : X) → o ≡ Some x → o ≡ Some y → x ≡ y
some_same o x y h k = same_Some x y (sym h ∙ k)

-- ---- pairs

pairs_first : {X : Type 0} (R : X → X → Type 0) (x : X) (xs : List X) → AllPairs R (x ∷ xs) → (y : X) → IsIn y xs → R x y
pairs_first R x xs p y m =
    let w = get_in y xs m in
    let below : w.0 < length xs = slice_get_within xs w.0 y w.1 in
    subst (R x) (get_or_from_slice_get xs w.0 y x w.1) (p 0 (suc w.0) x (omega arith) (omega (arith, below)))

pairs_rest : {X : Type 0} (R : X → X → Type 0) (x : X) (xs : List X) → AllPairs R (x ∷ xs) → AllPairs R xs
pairs_rest R x xs p = λ i j d low high. p (suc i) (suc j) d (omega (arith, low)) (omega (arith, high))

pub pairs_append : {X : Type 0} (R : X → X → Type 0) (xs ys : List X) → AllPairs R xs → AllPairs R ys → ((x y : X) → IsIn x xs → IsIn y ys → R x y) → AllPairs R (xs ++ ys)
pairs_append R [] ys p q h = q
pairs_append R (x ∷ xs) ys p q h =
    AllPairs-cons R x (xs ++ ys) (all_of (R x) (xs ++ ys) (λ y m. elim (in_either y xs ys m) [ inl l ↦ pairs_first R x xs p y l | inr r ↦ h x y (inl refl) r ]))
    (pairs_append R xs ys (pairs_rest R x xs p) q (λ a b m n. h a b (inr m) n))

pub pairs_both : {X : Type 0} (R S : X → X → Type 0) (xs : List X) → AllPairs R xs → AllPairs S xs → AllPairs (λ x y. R x y × S x y) xs
pairs_both R S xs p q = λ i j d low high. (p i j d low high, q i j d low high)

pub pairs_at : {X : Type 0} (R : X → X → Type 0) (xs : List X) → AllPairs R xs → (i j : ℕ) (x y : X) → i < j → slice_get xs i ≡ Some x → slice_get xs j ≡ Some y → R x y
pairs_at R xs p i j x y below a b =
    subst (λ z. R z y) (get_or_from_slice_get xs i x x a) (subst (R (get_or xs i x)) (get_or_from_slice_get xs j y x b) (p i j x below (slice_get_within xs j y b)))

pub pairs_weaker : {X : Type 0} (R S : X → X → Type 0) (xs : List X) → ((x y : X) → IsIn x xs → IsIn y xs → R x y → S x y) → AllPairs R xs → AllPairs S xs
pairs_weaker R S xs h p = λ i j d low high.
    let early : i < length xs = omega (arith, low, high) in
    h (get_or xs i d) (get_or xs j d) (at_in i (get_or xs i d) xs (slice_get-get_or xs i d early)) (at_in j (get_or xs j d) xs (slice_get-get_or xs j d high)) (p i j d low high)

-- ---- sorts

pub sorted_pairs : {X : Type 0} (lt : X → X → Bool) → IsStrictWeakOrder lt → (xs : List X) → IsSortedBy lt xs → AllPairs (λ p q. lt q p ≡ false) xs
sorted_pairs lt o xs h = λ i j d low high. sorted_far lt o xs h i j d (omega (arith, low)) high

-- what was there is there
pub stays_in : {X : Type 0} (lt : X → X → Bool) → IsStrictWeakOrder lt → (xs ys : List X) → IsStableBy lt xs ys → (x : X) → IsIn x xs → IsIn x ys
stays_in lt o xs ys stable x m = (of_filter (ties lt x) x ys (subst (IsIn x) (sym (stable x)) (in_filter (ties lt x) x xs m (own_tie lt o x)))).0

pub was_in : {X : Type 0} (lt : X → X → Bool) → IsStrictWeakOrder lt → (xs ys : List X) → IsStableBy lt xs ys → (x : X) → IsIn x ys → IsIn x xs
was_in lt o xs ys stable x m = (of_filter (ties lt x) x xs (subst (IsIn x) (stable x) (in_filter (ties lt x) x ys m (own_tie lt o x)))).0

tied_pairs : {X : Type 0} (lt : X → X → Bool) → IsStrictWeakOrder lt → (R : X → X → Type 0) (ys : List X) → ((x : X) → AllPairs R (filter (ties lt x) ys))
    → AllPairs (λ p q. ties lt p q ≡ true → R p q) ys
tied_pairs lt o R [] each = λ i j d low high. absurd (omega (arith, high))
tied_pairs {X = X} lt o R (p ∷ ps) each =
    AllPairs-cons (λ x y. ties lt x y ≡ true → R x y) p ps
    (all_of (λ q. ties lt p q ≡ true → R p q) ps (λ q m t.
    pairs_first R p (filter (ties lt p) ps) (subst (AllPairs R) (kept_first (ties lt p) p ps (own_tie lt o p)) (each p)) q (in_filter (ties lt p) q ps m t)))
    (tied_pairs lt o R ps (λ x. rest (ties lt x p) (filter (ties lt x) ps) (each x)))
  where
    rest : (b : Bool) (xs : List X) → AllPairs R (let ys : List X = if b then p ∷ xs else xs in ys) → AllPairs R xs
    rest true xs h = pairs_rest R p xs h
    rest false xs h = h

-- those that tie are still related to one another as they were
pub stable_pairs : {X : Type 0} (lt : X → X → Bool) → IsStrictWeakOrder lt → (R : X → X → Type 0) (xs ys : List X) → AllPairs R xs → IsStableBy lt xs ys
    → AllPairs (λ p q. ties lt p q ≡ true → R p q) ys
stable_pairs lt o R xs ys p stable = tied_pairs lt o R ys (λ x. subst (AllPairs R) (sym (stable x)) (AllPairs-filter R (ties lt x) xs p))
