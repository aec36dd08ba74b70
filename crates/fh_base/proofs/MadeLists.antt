-- What is in lists that are made of lists.
use Rattle.std.proofs.Common.{◌≡◌, ℕ, ℤ, pos, zero, suc, ◌+◌, ◌<◌, ◌≤◌, ◌+ℤ◌, ◌⊎◌, inl, inr, List, [], ◌∷◌, map, Some, refl, ap, sym, subst, arith}
use Rattle.std.specs.Prelude.{All}
use Rattle.std.specs.List.{slice_get}
use Rattle.std.proofs.lemmas.Bool.{cases_eq}
use Rattle.std.proofs.lemmas.Int.{ints}
use Rattle.std.proofs.lemmas.List.Elements.{All-head, All-tail}
use Rattle.fh_base.specs.Lists.{each, each_tick, onto}
use Rattle.fh_base.specs.Members.{IsIn}
use Rattle.fh_base.proofs.MemberLemmas.{in_left, in_right, in_either}

pub in_map : {X Y : Type 0} (f : X → Y) (x : X) (xs : List X) → IsIn x xs → IsIn (f x) (map f xs)
in_map f x [] m = absurd m
in_map f x (y ∷ xs) (inl e) = inl (ap f e)
in_map f x (y ∷ xs) (inr t) = inr (in_map f x xs t)

pub of_map : {X Y : Type 0} (f : X → Y) (y : Y) (xs : List X) → IsIn y (map f xs) → (x : X) × IsIn x xs × (y ≡ f x)
of_map f y [] m = absurd m
of_map f y (x ∷ xs) (inl e) = (x, inl refl, e)
of_map f y (x ∷ xs) (inr t) = let w = of_map f y xs t in (w.0, inr w.1, w.2)

pub in_each : {X : Type 0} (x : X) (from n k : ℕ) (f : ℕ → List X) → from ≤ k → k < from + n → IsIn x (f k) → IsIn x (each from n f)
unfolding each
in_each x from zero k f low high m = absurd (omega arith)
in_each x from (suc n) k f low high m = elim (cases_eq k from) [
  | inl e ↦ in_left x (f from) (each (from + 1) n f) (subst (λ i. IsIn x (f i)) e m)
  | inr ne ↦ in_right x (f from) (each (from + 1) n f) (in_each x (from + 1) n k f (omega (arith, ne)) (omega arith) m)
]

pub of_each : {X : Type 0} (x : X) (from n : ℕ) (f : ℕ → List X) → IsIn x (each from n f) → (k : ℕ) × (from ≤ k) × (k < from + n) × IsIn x (f k)
unfolding each
of_each x from zero f m = absurd m
of_each x from (suc n) f m = elim (in_either x (f from) (each (from + 1) n f) m) [
  | inl l ↦ (from, omega arith, omega arith, l)
  | inr r ↦ (let w = of_each x (from + 1) n f r in (w.0, (let l = w.1 in omega arith), (let h = w.2 in omega arith), w.3))
]

pub in_tick : {X : Type 0} (x : X) (from : ℤ) (n k : ℕ) (f : ℤ → List X) → k < n → IsIn x (f (from +ℤ pos k)) → IsIn x (each_tick from n f)
unfolding each_tick
in_tick x from zero k f h m = absurd (omega arith)
in_tick x from (suc n) zero f h m =
    let here : from +ℤ pos 0 ≡ from = omega (arith, ints) in
    in_left x (f from) (each_tick (from +ℤ pos 1) n f) (subst (λ t. IsIn x (f t)) here m)
in_tick x from (suc n) (suc k) f h m =
    let there : from +ℤ pos (suc k) ≡ (from +ℤ pos 1) +ℤ pos k = omega (arith, ints) in
    in_right x (f from) (each_tick (from +ℤ pos 1) n f) (in_tick x (from +ℤ pos 1) n k f (omega arith) (subst (λ t. IsIn x (f t)) there m))

pub of_tick : {X : Type 0} (x : X) (from : ℤ) (n : ℕ) (f : ℤ → List X) → IsIn x (each_tick from n f) → (t : ℤ) × IsIn x (f t)
unfolding each_tick
of_tick x from zero f m = absurd m
of_tick x from (suc n) f m = elim (in_either x (f from) (each_tick (from +ℤ pos 1) n f) m) [
  | inl l ↦ (from, l)
  | inr r ↦ of_tick x (from +ℤ pos 1) n f r
]

pub in_onto : {X : Type 0} (x : X) (earlier xs : List X) → IsIn x (onto earlier xs) → IsIn x earlier ⊎ IsIn x xs
unfolding onto
in_onto x earlier [] m = inl m
in_onto x earlier (y ∷ xs) m = elim (in_onto x (y ∷ earlier) xs m) [
  | inl l ↦ elim l [ inl e ↦ inr (inl e) | inr t ↦ inl t ]
  | inr r ↦ inr (inr r)
]

pub onto_left : {X : Type 0} (x : X) (earlier xs : List X) → IsIn x earlier → IsIn x (onto earlier xs)
unfolding onto
onto_left x earlier [] m = m
onto_left x earlier (y ∷ xs) m = onto_left x (y ∷ earlier) xs (inr m)

pub onto_right : {X : Type 0} (x : X) (earlier xs : List X) → IsIn x xs → IsIn x (onto earlier xs)
unfolding onto
onto_right x earlier [] m = absurd m
onto_right x earlier (y ∷ xs) (inl e) = onto_left x (y ∷ earlier) xs (inl e)
onto_right x earlier (y ∷ xs) (inr t) = onto_right x (y ∷ earlier) xs t

pub in_all : {X : Type 0} (P : X → Type 0) (x : X) (xs : List X) → All P xs → IsIn x xs → P x
in_all P x [] h m = absurd m
in_all P x (y ∷ xs) h (inl e) = subst P (sym e) (All-head P y xs h)
in_all P x (y ∷ xs) h (inr t) = in_all P x xs (All-tail P y xs h) t

pub at_in : {X : Type 0} (k : ℕ) (x : X) (xs : List X) → slice_get xs k ≡ Some x → IsIn x xs
at_in k x [] h = absurd cc
at_in zero x (y ∷ xs) h = inl (let e : y ≡ x = cc in sym e)
at_in (suc k) x (y ∷ xs) h = inr (at_in k x xs h)
