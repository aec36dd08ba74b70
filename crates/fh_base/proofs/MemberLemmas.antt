-- What is in a list, what is so of all of it, and what a filter leaves.
use Rattle.std.proofs.Common.{◌≡◌, ℕ, suc, ◌⊎◌, inl, inr, Bool, true, false, not, if◌then◌else◌, List, [], ◌∷◌, ◌++◌, map, filter, Some, refl, ap, ap₂, sym, ◌∙◌, subst}
use Rattle.std.specs.Prelude.{All, ⊤}
use Rattle.std.specs.Cmp.{IsStrictWeakOrder}
use Rattle.std.specs.List.{AllByRecursion, list_any, slice_get}
use Rattle.std.specs.List.Sorted.{ties}
use Rattle.std.proofs.lemmas.Bool.{cases_Bool, or_cases, and_from, or_left, or_right}
use Rattle.std.proofs.lemmas.List.Elements.{All-from_recursion}
use Rattle.fh_base.specs.Members.{IsIn}

pub in_left : {X : Type 0} (x : X) (xs ys : List X) → IsIn x xs → IsIn x (xs ++ ys)
in_left x [] ys m = absurd m
in_left x (y ∷ xs) ys (inl e) = inl e
in_left x (y ∷ xs) ys (inr t) = inr (in_left x xs ys t)

pub in_right : {X : Type 0} (x : X) (xs ys : List X) → IsIn x ys → IsIn x (xs ++ ys)
in_right x [] ys m = m
in_right x (y ∷ xs) ys m = inr (in_right x xs ys m)

pub in_either : {X : Type 0} (x : X) (xs ys : List X) → IsIn x (xs ++ ys) → IsIn x xs ⊎ IsIn x ys
in_either x [] ys m = inr m
in_either x (y ∷ xs) ys (inl e) = inl (inl e)
in_either x (y ∷ xs) ys (inr t) = elim (in_either x xs ys t) [ inl l ↦ inl (inr l) | inr r ↦ inr r ]

pub the_one : {X : Type 0} (x y : X) → IsIn x (y ∷ []) → x ≡ y
the_one x y (inl same) = same
the_one x y (inr t) = absurd t

pub in_filter : {X : Type 0} (p : X → Bool) (x : X) (xs : List X) → IsIn x xs → p x ≡ true → IsIn x (filter p xs)
in_filter p x [] m is = absurd m
in_filter p x (y ∷ xs) m is = go (p y) refl (λ t. in_filter p x xs t is)
  where
    no : true ≡ false → ⊥
    no h = cc

    go : (b : Bool) → p y ≡ b → (IsIn x xs → IsIn x (filter p xs)) → IsIn x (if b then y ∷ filter p xs else filter p xs)
    go true e rest = elim m [ inl here ↦ inl here | inr there ↦ inr (rest there) ]
    go false e rest = elim m [ inl here ↦ absurd (no (sym is ∙ ap p here ∙ e)) | inr there ↦ rest there ]

pub of_filter : {X : Type 0} (p : X → Bool) (x : X) (xs : List X) → IsIn x (filter p xs) → IsIn x xs × (p x ≡ true)
of_filter p x [] m = absurd m
of_filter p x (y ∷ xs) m = go (p y) refl m (of_filter p x xs)
  where
    go : (b : Bool) → p y ≡ b → IsIn x (if b then y ∷ filter p xs else filter p xs) → (IsIn x (filter p xs) → IsIn x xs × (p x ≡ true)) → IsIn x (y ∷ xs) × (p x ≡ true)
    go true e n rest = elim n [ inl here ↦ (inl here, ap p here ∙ e) | inr there ↦ (let w = rest there in (inr w.0, w.1)) ]
    go false e n rest = let w = rest n in (inr w.0, w.1)

pub get_in : {X : Type 0} (x : X) (xs : List X) → IsIn x xs → (k : ℕ) × (slice_get xs k ≡ Some x)
get_in x [] m = absurd m
get_in x (y ∷ xs) (inl e) = (0, ap (λ z. Some z) (sym e))
get_in x (y ∷ xs) (inr t) = let w = get_in x xs t in (suc w.0, w.1)

pub any_in : {X : Type 0} (p : X → Bool) (x : X) (xs : List X) → IsIn x xs → p x ≡ true → list_any p xs ≡ true
any_in p x [] m is = absurd m
any_in p x (y ∷ ys) m is = elim m [
  | inl here ↦ or_left (p y) _ (ap p (sym here) ∙ is)
  | inr there ↦ or_right (p y) _ (any_in p x ys there is)
]

pub record Among {X : Type 0} (p : X → Bool) (xs : List X) : Type 0 where
  pub x : X
  pub there : IsIn x xs
  pub is : p x ≡ true

pub among : {X : Type 0} (p : X → Bool) (xs : List X) → list_any p xs ≡ true → Among p xs
among p [] h = absurd (cc)
among p (y ∷ ys) h = elim (or_cases (p y) _ h) [
  | inl now ↦ record { x = y; there = inl refl; is = now }
  | inr later ↦ let a = among p ys later in record { x = a.x; there = inr a.there; is = a.is }
]

pub all_in : {X : Type 0} (P : X → Type 0) (xs : List X) (x : X) → AllByRecursion P xs → IsIn x xs → P x
all_in P [] x all m = absurd m
all_in P (y ∷ xs) x all m = elim m [ inl here ↦ subst P (sym here) all.0 | inr there ↦ all_in P xs x all.1 there ]

pub all_from : {X : Type 0} (P : X → Type 0) (xs : List X) → ((x : X) → IsIn x xs → P x) → AllByRecursion P xs
all_from P [] h = tt
all_from P (x ∷ xs) h = (h x (inl refl), all_from P xs (λ y m. h y (inr m)))

pub all_of : {X : Type 0} (P : X → Type 0) (xs : List X) → ((x : X) → IsIn x xs → P x) → All P xs
all_of P xs h = All-from_recursion P xs (all_from P xs h)

pub all_map : {X : Type 0} (P Q : X → Type 0) → ((x : X) → P x → Q x) → (xs : List X) → AllByRecursion P xs → AllByRecursion Q xs
all_map P Q f [] h = tt
all_map P Q f (x ∷ xs) h = (f x h.0, all_map P Q f xs h.1)

pub filter_all : {X : Type 0} (t : X → Bool) (xs : List X) → AllByRecursion (λ x. t x ≡ true) xs → filter t xs ≡ xs
filter_all t [] h = refl
filter_all {X = X} t (x ∷ xs) h = let e = h.0 in rw e (ap (λ (ys : List X). x ∷ ys) (filter_all t xs h.1))

pub filter_none : {X : Type 0} (t : X → Bool) (xs : List X) → AllByRecursion (λ x. t x ≡ false) xs → filter t xs ≡ []
filter_none t [] h = refl
filter_none t (x ∷ xs) h = let e = h.0 in rw e (filter_none t xs h.1)

pub filter_mapped : {X Y : Type 0} (f : X → Y) (t : Y → Bool) (xs : List X) → filter t (map f xs) ≡ map f (filter (λ x. t (f x)) xs)
filter_mapped f t [] = refl
filter_mapped {X = X} {Y = Y} f t (x ∷ xs) = go (t (f x)) (filter_mapped f t xs)
  where
    go : (b : Bool) → filter t (map f xs) ≡ map f (filter (λ z. t (f z)) xs)
        → (let ys : List Y = if b then f x ∷ filter t (map f xs) else filter t (map f xs) in ys) ≡ map f (let us : List X = if b then x ∷ filter (λ z. t (f z)) xs else filter (λ z. t (f z)) xs in us)
    go true r = ap (λ (ys : List Y). f x ∷ ys) r
    go false r = r

pub filter_same : {X : Type 0} (a b : X → Bool) → ((x : X) → a x ≡ b x) → (xs : List X) → filter a xs ≡ filter b xs
filter_same a b h [] = refl
filter_same {X = X} a b h (x ∷ xs) = ap₂ (λ (t : Bool) (ys : List X). let zs : List X = if t then x ∷ ys else ys in zs) (h x) (filter_same a b h xs)

pub kept_first : {X : Type 0} (t : X → Bool) (x : X) (xs : List X) → t x ≡ true → filter t (x ∷ xs) ≡ x ∷ filter t xs
kept_first {X = X} t x xs e = ap (λ (b : Bool). let ys : List X = if b then x ∷ filter t xs else filter t xs in ys) e

pub own_tie : {X : Type 0} (lt : X → X → Bool) → IsStrictWeakOrder lt → (x : X) → ties lt x x ≡ true
own_tie lt o x = elim (cases_Bool (lt x x)) [
  | inl t ↦ let f = o.one_way x x t in absurd cc
  | inr f ↦ and_from (not (lt x x)) _ (ap not f) (ap not f)
]

-- what holds of all, and what the test says, holds of those that pass it
pub filter_has : {X : Type 0} (P Q : X → Type 0) (t : X → Bool) → ((x : X) → P x → t x ≡ true → Q x) → (xs : List X) → AllByRecursion P xs → AllByRecursion Q (filter t xs)
filter_has P Q t h xs all = all_from Q (filter t xs) (λ x m. let w = of_filter t x xs m in h x (all_in P xs x all w.0) w.1)

abbrev pub InOrder : {X : Type 0} → (X → X → Type 0) → List X → Type 0
InOrder R [] = ⊤
InOrder R (x ∷ xs) = ((y : _) → IsIn y xs → R x y) × InOrder R xs

pub order_join : {X : Type 0} (R : X → X → Type 0) (xs ys : List X) → InOrder R xs → InOrder R ys → ((x y : X) → IsIn x xs → IsIn y ys → R x y) → InOrder R (xs ++ ys)
order_join R [] ys p q h = q
order_join R (x ∷ xs) ys p q h = (
  λ y m. elim (in_either y xs ys m) [ inl l ↦ p.0 y l | inr r ↦ h x y (inl refl) r ],
  order_join R xs ys p.1 q (λ a b m n. h a b (inr m) n),
)

pub order_filter : {X : Type 0} (R : X → X → Type 0) (p : X → Bool) (xs : List X) → InOrder R xs → InOrder R (filter p xs)
order_filter R p [] h = tt
order_filter {X = X} R p (x ∷ xs) h = go (p x) (order_filter R p xs h.1)
  where
    go : (b : Bool) → InOrder R (filter p xs) → InOrder R (let zs : List X = if b then x ∷ filter p xs else filter p xs in zs)
    go true k = (λ y m. h.0 y (of_filter p y xs m).0, k)
    go false k = k

pub all_join : {X : Type 0} (P : X → Type 0) (xs ys : List X) → AllByRecursion P xs → AllByRecursion P ys → AllByRecursion P (xs ++ ys)
all_join P [] ys p q = q
all_join P (x ∷ xs) ys p q = (p.0, all_join P xs ys p.1 q)

pub all_unit : {X : Type 0} (xs : List X) → AllByRecursion (λ x. Unit {0}) xs
all_unit [] = tt
all_unit (x ∷ xs) = (tt, all_unit xs)
