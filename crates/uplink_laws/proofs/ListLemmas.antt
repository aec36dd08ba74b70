-- What filters leave of lists that are made of others, and lists in an order.
use Rattle.std.proofs.Common.{◌≡◌, ◌⊎◌, inl, inr, Bool, true, false, if◌then◌else◌, List, [], ◌∷◌, ◌++◌, map, refl, ap, ap₂, ◌∙◌, ℕ, ℤ, pos, zero, suc, ◌+ℤ◌, ◌≤ℤ◌, ◌<ℤ◌, arith, subst, sym}
use Rattle.std.specs.Prelude.{filter}
use Rattle.std.specs.List.{AllPairs}
use Rattle.std.proofs.lemmas.Int.{ints}
use Rattle.std.proofs.lemmas.List.Elements.{filter-append}
use Rattle.std.proofs.lemmas.List.Kept.{AllPairs-cons}
use Rattle.fh_base.specs.Lists.{each_tick, in_order, put_in}
use Rattle.unit_model.specs.Terms.{joined}
use Rattle.fh_base.specs.Members.{IsIn}
use Rattle.fh_base.proofs.MemberLemmas.{in_either, in_right, all_of, InOrder}

-- ---- filters

pub filter_all : {X : Type 0} (t : X → Bool) (xs : List X) → ((x : X) → IsIn x xs → t x ≡ true) → filter t xs ≡ xs
filter_all t [] h = refl
filter_all {X = X} t (x ∷ xs) h = let e = h x (inl refl) in rw e (ap (λ (ys : List X). x ∷ ys) (filter_all t xs (λ y m. h y (inr m))))

pub filter_none : {X : Type 0} (t : X → Bool) (xs : List X) → ((x : X) → IsIn x xs → t x ≡ false) → filter t xs ≡ []
filter_none t [] h = refl
filter_none t (x ∷ xs) h = let e = h x (inl refl) in rw e (filter_none t xs (λ y m. h y (inr m)))

-- of pieces that pass a test whole, or not at all, as what they are made of does
pub filter_joined : {X Y : Type 0} (f : X → List Y) (t : X → Bool) (u : Y → Bool) (xs : List X) → ((x : X) (y : Y) → IsIn y (f x) → u y ≡ t x)
    → filter u (joined (map f xs)) ≡ joined (map f (filter t xs))
filter_joined f t u [] h = refl
filter_joined {X = X} {Y = Y} f t u (x ∷ xs) h = filter-append u (f x) (joined (map f xs)) ∙ go (t x) refl (filter_joined f t u xs h)
  where
    go : (b : Bool) → t x ≡ b → filter u (joined (map f xs)) ≡ joined (map f (filter t xs))
        → filter u (f x) ++ filter u (joined (map f xs)) ≡ joined (map f (let us : List X = if b then x ∷ filter t xs else filter t xs in us))
    go true e r = ap₂ ◌++◌ (filter_all u (f x) (λ y m. h x y m ∙ e)) r
    go false e r = ap₂ ◌++◌ (filter_none u (f x) (λ y m. h x y m ∙ e)) r

-- ---- maps

pub map_same : {X Y : Type 0} (f g : X → Y) (xs : List X) → ((x : X) → IsIn x xs → f x ≡ g x) → map f xs ≡ map g xs
map_same f g [] h = refl
map_same {Y = Y} f g (x ∷ xs) h = ap₂ (λ (y : Y) (ys : List Y). y ∷ ys) (h x (inl refl)) (map_same f g xs (λ y m. h y (inr m)))

pub map_map : {X Y Z : Type 0} (f : X → Y) (g : Y → Z) (xs : List X) → map g (map f xs) ≡ map (λ x. g (f x)) xs
map_map f g [] = refl
map_map {Z = Z} f g (x ∷ xs) = ap (λ (zs : List Z). g (f x) ∷ zs) (map_map f g xs)

-- ---- insertion

put_mapped : {X Y : Type 0} (f : X → Y) (below : Y → Y → Bool) (x : X) (xs : List X) → put_in below (f x) (map f xs) ≡ map f (put_in (λ p q. below (f p) (f q)) x xs)
unfolding put_in
put_mapped f below x [] = refl
put_mapped {X = X} {Y = Y} f below x (y ∷ ys) = go (below (f y) (f x)) (put_mapped f below x ys)
  where
    go : (b : Bool) → put_in below (f x) (map f ys) ≡ map f (put_in (λ p q. below (f p) (f q)) x ys)
        → (let zs : List Y = if b then f y ∷ put_in below (f x) (map f ys) else f x ∷ f y ∷ map f ys in zs)
        ≡ map f (let zs : List X = if b then y ∷ put_in (λ p q. below (f p) (f q)) x ys else x ∷ y ∷ ys in zs)
    go true r = ap (λ (zs : List Y). f y ∷ zs) r
    go false r = refl

pub order_mapped : {X Y : Type 0} (f : X → Y) (below : Y → Y → Bool) (xs : List X) → in_order below (map f xs) ≡ map f (in_order (λ p q. below (f p) (f q)) xs)
unfolding in_order
order_mapped f below [] = refl
order_mapped {X = X} {Y = Y} f below (x ∷ xs) =
    ap (λ (ys : List Y). put_in below (f x) ys) (order_mapped f below xs) ∙ put_mapped f below x (in_order (λ p q. below (f p) (f q)) xs)

of_put : {X : Type 0} (below : X → X → Bool) (x z : X) (xs : List X) → IsIn z (put_in below x xs) → (z ≡ x) ⊎ IsIn z xs
unfolding put_in
of_put below x z [] m = elim m [ inl e ↦ inl e | inr t ↦ absurd t ]
of_put {X = X} below x z (y ∷ ys) m = go (below y x) m (of_put below x z ys)
  where
    go : (b : Bool) → IsIn z (let zs : List X = if b then y ∷ put_in below x ys else x ∷ y ∷ ys in zs) → (IsIn z (put_in below x ys) → (z ≡ x) ⊎ IsIn z ys) → (z ≡ x) ⊎ IsIn z (y ∷ ys)
    go true n rest = elim n [ inl e ↦ inr (inl e) | inr t ↦ elim (rest t) [ inl e ↦ inl e | inr u ↦ inr (inr u) ] ]
    go false n rest = elim n [ inl e ↦ inl e | inr t ↦ inr t ]

pub of_order : {X : Type 0} (below : X → X → Bool) (z : X) (xs : List X) → IsIn z (in_order below xs) → IsIn z xs
unfolding in_order
of_order below z [] m = m
of_order below z (x ∷ xs) m = elim (of_put below x z (in_order below xs) m) [ inl e ↦ inl e | inr t ↦ inr (of_order below z xs t) ]

-- ---- lists of which each element may be before those after it

pub order_all : {X : Type 0} (R : X → X → Type 0) (xs : List X) → ((x y : X) → IsIn x xs → IsIn y xs → R x y) → InOrder R xs
order_all R [] h = tt
order_all R (x ∷ xs) h = (λ y m. h x y (inl refl) (inr m), order_all R xs (λ a b m n. h a b (inr m) (inr n)))

-- one that is before another in such a list
pub order_rest : {X : Type 0} (R : X → X → Type 0) (xs ys : List X) → InOrder R (xs ++ ys) → InOrder R ys
order_rest R [] ys h = h
order_rest R (x ∷ xs) ys h = order_rest R xs ys h.1

pub order_before : {X : Type 0} (R : X → X → Type 0) (xs ys : List X) (x y : X) → InOrder R (xs ++ y ∷ ys) → IsIn x xs → R x y
order_before R [] ys x y h m = absurd m
order_before R (z ∷ xs) ys x y h (inl e) = subst (λ w. R w y) (sym e) (h.0 y (in_right y xs (y ∷ ys) (inl refl)))
order_before R (z ∷ xs) ys x y h (inr t) = order_before R xs ys x y h.1 t

-- ---- all of a list

pub pairs_of : {X : Type 0} (R : X → X → Type 0) (xs : List X) → InOrder R xs → AllPairs R xs
pairs_of R [] h = λ i j d low high. absurd (omega arith)
pairs_of R (x ∷ xs) h = AllPairs-cons R x xs (all_of (R x) xs h.0) (pairs_of R xs h.1)

-- ---- ticks

pub tick_within : {X : Type 0} (x : X) (from : ℤ) (n : ℕ) (f : ℤ → List X) → IsIn x (each_tick from n f) → (t : ℤ) × (from ≤ℤ t) × (t <ℤ (from +ℤ pos n)) × IsIn x (f t)
unfolding each_tick
tick_within x from zero f m = absurd m
tick_within x from (suc n) f m = elim (in_either x (f from) (each_tick (from +ℤ pos 1) n f) m) [
  | inl l ↦ (from, here from, ahead from n, l)
  | inr r ↦ (let w = tick_within x (from +ℤ pos 1) n f r in (w.0, above from w.0 w.1, below from n w.0 w.2, w.3))
]
  where
    here : (a : ℤ) → a ≤ℤ a
    here a = omega (arith, ints)

    ahead : (a : ℤ) (n : ℕ) → a <ℤ (a +ℤ pos (suc n))
    ahead a n = omega (arith, ints)

    above : (a t : ℤ) → (a +ℤ pos 1) ≤ℤ t → a ≤ℤ t
    above a t h = omega (arith, ints, h)

    below : (a : ℤ) (n : ℕ) (t : ℤ) → t <ℤ ((a +ℤ pos 1) +ℤ pos n) → t <ℤ (a +ℤ pos (suc n))
    below a n t h = omega (arith, ints, h)
