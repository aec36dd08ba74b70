-- What is in lists that are made of others.
use Rattle.std.proofs.Common.{ℕ, zero, suc, ◌+◌, List, [], ◌∷◌, ◌++◌, refl, subst, inl, inr}
use Rattle.std.specs.Prelude.{◌⊎◌}
use Rattle.std.specs.List.{flat_map}
use Rattle.fh_base.specs.Lists.{each}
use Rattle.fh_base.specs.Members.{IsIn}

module _ {X : Type 0} (x : X) where
  pub in_both : (xs ys : List X) → IsIn x (xs ++ ys) → IsIn x xs ⊎ IsIn x ys
  in_both [] ys m = inr m
  in_both (y ∷ xs) ys (inl here) = inl (inl here)
  in_both (y ∷ xs) ys (inr later) = elim (in_both xs ys later) [ inl m ↦ inl (inr m) | inr m ↦ inr m ]

  pub in_left : (xs ys : List X) → IsIn x xs → IsIn x (xs ++ ys)
  in_left [] ys m = absurd m
  in_left (y ∷ xs) ys (inl here) = inl here
  in_left (y ∷ xs) ys (inr later) = inr (in_left xs ys later)

  pub in_right : (xs ys : List X) → IsIn x ys → IsIn x (xs ++ ys)
  in_right [] ys m = m
  in_right (y ∷ xs) ys m = inr (in_right xs ys m)

  -- of one of these numbers
  pub of_each : (from count : ℕ) (f : ℕ → List X) → IsIn x (each from count f) → (n : ℕ) × IsIn x (f n)
  unfolding each
  of_each from zero f m = absurd m
  of_each from (suc count) f m = elim (in_both (f from) (each (from + 1) count f) m) [ inl here ↦ (from, here) | inr later ↦ of_each (from + 1) count f later ]

-- of one of these elements
pub of_some : {X Y : Type 0} (x : X) (f : Y → List X) (ys : List Y) → IsIn x (flat_map f ys) → (y : Y) × IsIn y ys × IsIn x (f y)
of_some x f [] m = absurd m
of_some x f (y ∷ ys) m = elim (in_both x (f y) (flat_map f ys) m) [
  | inl here ↦ (y, inl refl, here)
  | inr later ↦ let more = of_some x f ys later in (more.0, inr more.1, more.2)
]

pub in_some : {X Y : Type 0} (x : X) (f : Y → List X) (y : Y) (ys : List Y) → IsIn y ys → IsIn x (f y) → IsIn x (flat_map f ys)
in_some x f y [] m n = absurd m
in_some x f y (z ∷ ys) (inl here) n = in_left x (f z) (flat_map f ys) (subst (λ w. IsIn x (f w)) here n)
in_some x f y (z ∷ ys) (inr later) n = in_right x (f z) (flat_map f ys) (in_some x f y ys later n)

pub in_middle : {X : Type 0} (before : List X) (x : X) (after : List X) → IsIn x (before ++ x ∷ after)
in_middle before x after = in_right x before (x ∷ after) (inl refl)
