-- Lists in which nothing occurs twice, by what is in them.
use Rattle.std.proofs.Common.{◌≡◌, inl, inr, Bool, true, false, if◌then◌else◌, List, [], ◌∷◌, ◌++◌, refl, ap, sym, subst}
use Rattle.std.specs.Prelude.{filter, reverse, IsPermutation}
use Rattle.std.proofs.lemmas.List.{reverse-append}
use Rattle.std.proofs.lemmas.List.Sorted.{IsPermutation-cons, IsPermutation-middle, IsPermutation-refl, IsPermutation-sym, IsPermutation-trans}
use Rattle.unit_model.specs.declared.allocations.Allocation.{Allocation}
use Rattle.plan_model.proofs.AcceptedLemmas.{AreDistinct}
use Rattle.fh_base.specs.Members.{IsIn}
use Rattle.fh_base.proofs.MemberLemmas.{in_left, in_right, in_either, of_filter}

-- where an element is
pub record Split {X : Type 0} (x : X) (ys : List X) : Type 0 where
  pub before : List X
  pub after : List X
  pub is : ys ≡ before ++ x ∷ after

pub split : {X : Type 0} (x : X) (ys : List X) → IsIn x ys → Split x ys
split x [] m = absurd m
split x (y ∷ ys) (inl e) = record { before = []; after = ys; is = ap (λ z. z ∷ ys) (sym e) }
split x (y ∷ ys) (inr t) = let w = split x ys t in record { before = y ∷ w.before; after = w.after; is = ap (λ zs. y ∷ zs) w.is }

-- ---- reversed

pub of_reverse : {X : Type 0} (x : X) (xs : List X) → IsIn x (reverse xs) → IsIn x xs
of_reverse x [] m = absurd m
of_reverse x (y ∷ xs) m = elim (in_either x (reverse xs) (y ∷ []) (subst (λ zs. IsIn x zs) (reverse-append (y ∷ []) xs) m)) [
  | inl l ↦ inr (of_reverse x xs l)
  | inr r ↦ elim r [ inl e ↦ inl e | inr t ↦ absurd t ]
]

pub in_reverse : {X : Type 0} (x : X) (xs : List X) → IsIn x xs → IsIn x (reverse xs)
in_reverse x [] m = absurd m
in_reverse x (y ∷ xs) (inl e) = subst (λ zs. IsIn x zs) (sym (reverse-append (y ∷ []) xs)) (in_right x (reverse xs) (y ∷ []) (inl e))
in_reverse x (y ∷ xs) (inr t) = subst (λ zs. IsIn x zs) (sym (reverse-append (y ∷ []) xs)) (in_left x (reverse xs) (y ∷ []) (in_reverse x xs t))

-- ---- nothing twice

distinct_last : (xs : List Allocation) (a : Allocation) → AreDistinct xs → (IsIn a xs → ⊥) → AreDistinct (xs ++ a ∷ [])
distinct_last [] a d n = (λ m. m, tt)
distinct_last (x ∷ xs) a d n = (
  λ m. elim (in_either x xs (a ∷ []) m) [
    | inl l ↦ d.0 l
    | inr r ↦ elim r [ inl e ↦ n (inl (sym e)) | inr t ↦ t ]
  ],
  distinct_last xs a d.1 (λ m. n (inr m)),
)

pub distinct_reverse : (xs : List Allocation) → AreDistinct xs → AreDistinct (reverse xs)
distinct_reverse [] d = tt
distinct_reverse (x ∷ xs) d = subst AreDistinct (sym (reverse-append (x ∷ []) xs)) (distinct_last (reverse xs) x (distinct_reverse xs d.1) (λ m. d.0 (of_reverse x xs m)))

pub distinct_filter : (p : Allocation → Bool) (xs : List Allocation) → AreDistinct xs → AreDistinct (filter p xs)
distinct_filter p [] d = tt
distinct_filter p (x ∷ xs) d = go (p x) (distinct_filter p xs d.1)
  where
    go : (b : Bool) → AreDistinct (filter p xs) → AreDistinct (if b then x ∷ filter p xs else filter p xs)
    go true rest = (λ m. d.0 (of_filter p x xs m).0, rest)
    go false rest = rest

distinct_without : (x : Allocation) (before after : List Allocation) → AreDistinct (before ++ x ∷ after) → AreDistinct (before ++ after)
distinct_without x [] after d = d.1
distinct_without x (y ∷ before) after d = (
  λ m. d.0 (elim (in_either y before after m) [
    | inl l ↦ in_left y before (x ∷ after) l
    | inr r ↦ in_right y before (x ∷ after) (inr r)
  ]),
  distinct_without x before after d.1,
)

absent : (x : Allocation) (before after : List Allocation) → AreDistinct (before ++ x ∷ after) → IsIn x (before ++ after) → ⊥
absent x [] after d m = d.0 m
absent x (y ∷ before) after d m = elim m [
  | inl e ↦ d.0 (in_right y before (x ∷ after) (inl (sym e)))
  | inr t ↦ absent x before after d.1 t
]

-- two such lists with the same elements are related, where one more element on both sides keeps them so
module _ (R : List Allocation → List Allocation → Type 0) (none : R [] [])
    (more : (x : Allocation) (xs before after : List Allocation) → R xs (before ++ after) → R (x ∷ xs) (before ++ x ∷ after)) where
  pub by_members : (xs ys : List Allocation) → AreDistinct xs → AreDistinct ys → ((a : Allocation) → IsIn a xs → IsIn a ys) → ((a : Allocation) → IsIn a ys → IsIn a xs) → R xs ys
  by_members [] [] dx dy there back = none
  by_members [] (y ∷ ys) dx dy there back = absurd (back y (inl refl))
  by_members (x ∷ xs) ys dx dy there back =
      let w = split x ys (there x (inl refl)) in
      let d = subst AreDistinct w.is dy in
      subst (R (x ∷ xs)) (sym w.is)
      (more x xs w.before w.after (by_members xs (w.before ++ w.after) dx.1 (distinct_without x w.before w.after d)
      (λ a m. elim (in_either a w.before (x ∷ w.after) (subst (λ zs. IsIn a zs) w.is (there a (inr m)))) [
        | inl l ↦ in_left a w.before w.after l
        | inr r ↦ elim r [
          | inl e ↦ absurd (dx.0 (subst (λ z. IsIn z xs) e m))
          | inr t ↦ in_right a w.before w.after t
        ]
      ])
      (λ a m. elim (back a (subst (λ zs. IsIn a zs) (sym w.is) (elim (in_either a w.before w.after m) [
        | inl l ↦ in_left a w.before (x ∷ w.after) l
        | inr r ↦ in_right a w.before (x ∷ w.after) (inr r)
      ]))) [
        | inl e ↦ absurd (absent x w.before w.after d (subst (λ z. IsIn z (w.before ++ w.after)) e m))
        | inr t ↦ t
      ])))

-- so one is the other in another order
pub same_members : (xs ys : List Allocation) → AreDistinct xs → AreDistinct ys → ((a : Allocation) → IsIn a xs → IsIn a ys) → ((a : Allocation) → IsIn a ys → IsIn a xs) → IsPermutation xs ys
same_members =
    by_members IsPermutation (IsPermutation-refl []) (λ x xs before after p.
    IsPermutation-trans (x ∷ xs) (x ∷ (before ++ after)) (before ++ x ∷ after) (IsPermutation-cons x xs (before ++ after) p)
    (IsPermutation-sym (before ++ x ∷ after) (x ∷ (before ++ after)) (IsPermutation-middle before x after)))
