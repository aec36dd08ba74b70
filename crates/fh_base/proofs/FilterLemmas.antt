-- A filter by two tests, and what a filter leaves of lists whose elements are related.
use Rattle.std.proofs.Common.{◌≡◌, Bool, true, false, ◌&&◌, if◌then◌else◌, List, [], ◌∷◌, filter, refl, ap}
use Rattle.std.specs.List.{AllByRecursion}
use Rattle.fh_base.specs.Lists.{AreRelated}
use Rattle.fh_base.proofs.MemberLemmas.{all_in, all_from, filter_has}

pub filter_and : {X : Type 0} (a b : X → Bool) (xs : List X) → filter (λ x. a x && b x) xs ≡ filter a (filter b xs)
filter_and a b [] = refl
filter_and {X = X} a b (x ∷ xs) = go (a x) (b x) refl refl (filter_and a b xs)
  where
    go : (s t : Bool) → a x ≡ s → b x ≡ t → filter (λ y. a y && b y) xs ≡ filter a (filter b xs)
        → (let us : List X = if s && t then x ∷ filter (λ y. a y && b y) xs else filter (λ y. a y && b y) xs in us) ≡ filter a (let vs : List X = if t then x ∷ filter b xs else filter b xs in vs)
    go true true e f h = rw e (ap (λ (ys : List X). x ∷ ys) h)
    go true false e f h = h
    go false true e f h = rw e h
    go false false e f h = h

-- ---- any two

pub related_filter : {X : Type 0} (R : X → X → Type 0) (t : X → Bool) (xs : List X) → AreRelated R xs → AreRelated R (filter t xs)
related_filter R t [] h = tt
related_filter {X = X} R t (x ∷ xs) h = go (t x) (related_filter R t xs h.1)
  where
    go : (b : Bool) → AreRelated R (filter t xs) → AreRelated R (let ys : List X = if b then x ∷ filter t xs else filter t xs in ys)
    go true r = (filter_has (R x) (R x) t (λ y w e. w) xs h.0, r)
    go false r = r

pub related_map : {X : Type 0} (R S : X → X → Type 0) (P : X → Type 0) → ((x y : X) → P x → P y → R x y → S x y) → (xs : List X)
    → AllByRecursion P xs → AreRelated R xs → AreRelated S xs
related_map R S P h [] all r = tt
related_map R S P h (x ∷ xs) all r = (all_from (S x) xs (λ y m. h x y all.0 (all_in P xs y all.1 m) (all_in (R x) xs y r.0 m)), related_map R S P h xs all.1 r.1)
