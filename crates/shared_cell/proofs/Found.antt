-- The index at which the combined cell of a place is, through each change of the list.
use Rattle.std.proofs.Common.{◌≡◌, ℕ, suc, zero, ◌<◌, Bool, true, false, cond, List, [], ◌∷◌, ◌++◌, length, get_or, set, Option, Some, None, refl, ap, sym, ◌∙◌, arith, subst}
use Rattle.std.specs.Option.{option_map}
use Rattle.std.specs.Ordering.{is_eq}
use Rattle.air_source.specs.declared.events.AirCell.{AirCell}
use Rattle.shared_cell.specs.declared.places.CellPlace.{CellPlace}
use Rattle.shared_cell.specs.declared.values.Mixed.{Mixed}
use Rattle.shared_cell.specs.Places.{is_same, is_mixed_at, place_in, place_of, place_cmp}
use Rattle.shared_cell.specs.Joined.{joined, joined_at, joined_block, joined_or_left, may_join, opened}
use Rattle.shared_cell.specs.Finding.{index_of}
use Rattle.shared_cell.proofs.Same.{is_eq-place_cmp, same_is, same_turned}

-- ---- one more combined cell at the end

-- the place is found where it was, or else at the new one
pub index_of-push : (q : CellPlace) (m : Mixed) (ms : List Mixed) → index_of q ms ≡ None → index_of q (ms ++ m ∷ []) ≡ cond (is_mixed_at q m) (Some (length ms)) None
index_of-push q m [] h = refl
index_of-push q m (x ∷ xs) h = go (is_mixed_at q x) (index_of q xs) h (index_of-push q m xs)
  where
    shown : (b : Bool) → option_map suc (cond b (Some (length xs)) None) ≡ cond b (Some (suc (length xs))) None
    shown true = refl
    shown false = refl

    go : (b : Bool) (o : Option ℕ) → cond b (Some 0) (option_map suc o) ≡ None
        → (o ≡ None → index_of q (xs ++ m ∷ []) ≡ cond (is_mixed_at q m) (Some (length xs)) None)
        → cond b (Some 0) (option_map suc (index_of q (xs ++ m ∷ []))) ≡ cond (is_mixed_at q m) (Some (suc (length xs))) None
    go true o h rest = cc
    go false None h rest = ap (option_map suc) (rest refl) ∙ shown (is_mixed_at q m)
    go false (Some k) h rest = cc

pub index_of-push_other : (q : CellPlace) (m : Mixed) (ms : List Mixed) → is_mixed_at q m ≡ false → index_of q (ms ++ m ∷ []) ≡ index_of q ms
index_of-push_other q m [] h = rw h refl
index_of-push_other q m (x ∷ xs) h = ap (λ (o : Option ℕ). cond (is_mixed_at q x) (Some 0) (option_map suc o)) (index_of-push_other q m xs h)

-- the map with the new place at the new end finds each place
pub found_after_push : (p q : CellPlace) (m : Mixed) (ms : List Mixed) (was now : Option ℕ) → place_in m ≡ p → index_of p ms ≡ None → was ≡ index_of q ms
    → now ≡ cond (is_eq (place_cmp p q)) (Some (length ms)) was → now ≡ index_of q (ms ++ m ∷ [])
found_after_push p q m ms was now at first before after = after ∙ go (is_same p q) refl
  where
    here : is_mixed_at q m ≡ is_same p q
    here = ap (is_same q) at ∙ same_turned q p

    go : (b : Bool) → is_same p q ≡ b → cond (is_eq (place_cmp p q)) (Some (length ms)) was ≡ index_of q (ms ++ m ∷ [])
    go true e =
        let none : index_of q ms ≡ None = subst (λ (r : CellPlace). index_of r ms ≡ None) (same_is p q e) first in
        ap (λ (b : Bool). cond b (Some (length ms)) was) (is_eq-place_cmp p q ∙ e)
        ∙ sym (index_of-push q m ms none ∙ ap (λ (b : Bool). cond b (Some (length ms)) None) (here ∙ e))
    go false e =
        ap (λ (b : Bool). cond b (Some (length ms)) was) (is_eq-place_cmp p q ∙ e)
        ∙ before ∙ sym (index_of-push_other q m ms (here ∙ e))

-- ---- a combined cell is replaced by one of its place

pub index_of-set : (q : CellPlace) (ms : List Mixed) (k : ℕ) (m d : Mixed) → place_in m ≡ place_in (get_or ms k d) → index_of q (set ms k m) ≡ index_of q ms
index_of-set q [] k m d h = refl
index_of-set q (x ∷ xs) zero m d h = ap (λ (p : CellPlace). cond (is_same q p) (Some 0) (option_map suc (index_of q xs))) h
index_of-set q (x ∷ xs) (suc k) m d h = ap (λ (o : Option ℕ). cond (is_mixed_at q x) (Some 0) (option_map suc o)) (index_of-set q xs k m d h)

pub place_in-joined : (c : AirCell) (m : Mixed) → place_in (joined c m) ≡ place_in m
place_in-joined c m = elim (c.block) as (λ b. place_in (joined_block b m) ≡ place_in m) [ None ↦ refl | Some block ↦ refl ]

pub place_in-joined_or_left : (c : AirCell) (m : Mixed) → place_in (joined_or_left c m) ≡ place_in m
place_in-joined_or_left c m = go (may_join c m)
  where
    go : (b : Bool) → place_in (cond b (joined c m) m) ≡ place_in m
    go true = place_in-joined c m
    go false = refl

-- ---- where the place is found

pub index_of-within : (q : CellPlace) (ms : List Mixed) (k : ℕ) → index_of q ms ≡ Some k → k < length ms
index_of-within q [] k h = cc
index_of-within q (x ∷ xs) k h = go (is_mixed_at q x) (index_of q xs) h (λ j. index_of-within q xs j)
  where
    go : (b : Bool) (o : Option ℕ) → cond b (Some 0) (option_map suc o) ≡ Some k → ((j : ℕ) → o ≡ Some j → j < length xs) → k < suc (length xs)
    go true o h rest = let is : 0 ≡ k = cc in omega (arith, is)
    go false None h rest = cc
    go false (Some j) h rest = let is : suc j ≡ k = cc in let less = rest j refl in omega (arith, is, less)

-- the cell is joined to the one that is found, or that is left
pub joined_at-found : (c : AirCell) (ms : List Mixed) (k : ℕ) (d : Mixed) → index_of (place_of c) ms ≡ Some k → set ms k (joined_or_left c (get_or ms k d)) ≡ joined_at c ms
joined_at-found c [] k d h = cc
joined_at-found c (x ∷ xs) k d h = go (is_mixed_at (place_of c) x) (index_of (place_of c) xs) h (λ j. joined_at-found c xs j d)
  where
    go : (b : Bool) (o : Option ℕ) → cond b (Some 0) (option_map suc o) ≡ Some k
        → ((j : ℕ) → o ≡ Some j → set xs j (joined_or_left c (get_or xs j d)) ≡ joined_at c xs)
        → set (x ∷ xs) k (joined_or_left c (get_or (x ∷ xs) k d)) ≡ cond b (joined_or_left c x ∷ xs) (x ∷ joined_at c xs)
    go true o h rest =
        let is : 0 ≡ k = cc in
        subst (λ j. set (x ∷ xs) j (joined_or_left c (get_or (x ∷ xs) j d)) ≡ joined_or_left c x ∷ xs) is refl
    go false None h rest = cc
    go false (Some j) h rest =
        let is : suc j ≡ k = cc in
        subst (λ i. set (x ∷ xs) i (joined_or_left c (get_or (x ∷ xs) i d)) ≡ x ∷ joined_at c xs) is (ap (λ ys. x ∷ ys) (rest j refl))

-- where none is found, it is the last
pub joined_at-first : (c : AirCell) (ms : List Mixed) → index_of (place_of c) ms ≡ None → ms ++ joined c (opened c) ∷ [] ≡ joined_at c ms
joined_at-first c [] h = refl
joined_at-first c (x ∷ xs) h = go (is_mixed_at (place_of c) x) (index_of (place_of c) xs) h (joined_at-first c xs)
  where
    go : (b : Bool) (o : Option ℕ) → cond b (Some 0) (option_map suc o) ≡ None → (o ≡ None → xs ++ joined c (opened c) ∷ [] ≡ joined_at c xs)
        → x ∷ (xs ++ joined c (opened c) ∷ []) ≡ cond b (joined_or_left c x ∷ xs) (x ∷ joined_at c xs)
    go true o h rest = cc
    go false None h rest = ap (λ ys. x ∷ ys) (rest refl)
    go false (Some j) h rest = cc
