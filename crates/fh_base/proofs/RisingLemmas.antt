-- Lists whose numbers rise.
use Rattle.std.proofs.Common.{◌≡◌, ℕ, ℤ, pos, zero, suc, ◌+◌, ◌<◌, ◌≤◌, ◌+ℤ◌, ◌≤ℤ◌, inl, inr, List, [], ◌∷◌, ◌++◌, length, map, drop, Some, refl, ap, sym, ◌∙◌, subst, arith}
use Rattle.std.specs.Prelude.{⊤}
use Rattle.std.specs.List.{slice_get}
use Rattle.std.specs.Int.Signed.{≤ℤ_refl}
use Rattle.fh_base.specs.Lists.{each_tick}
use Rattle.fh_base.proofs.Orders.{above_next as later_tick}
use Rattle.fh_base.specs.Members.{IsIn}
use Rattle.fh_base.proofs.MemberLemmas.{in_either}

pub get_below : {X : Type 0} (k : ℕ) (xs : List X) → k < length xs → (x : X) × (slice_get xs k ≡ Some x)
get_below k [] h = absurd (omega arith)
get_below zero (x ∷ xs) h = (x, refl)
get_below (suc k) (x ∷ xs) h = get_below k xs (omega arith)

pub below_get : {X : Type 0} (k : ℕ) (x : X) (xs : List X) → slice_get xs k ≡ Some x → k < length xs
below_get k x [] h = absurd cc
below_get zero x (y ∷ xs) h = omega arith
below_get (suc k) x (y ∷ xs) h = let b = below_get k x xs h in omega (arith, b)

pub get_map : {X Y : Type 0} (f : X → Y) (k : ℕ) (x : X) (xs : List X) → slice_get xs k ≡ Some x → slice_get (map f xs) k ≡ Some (f x)
get_map f k x [] h = absurd cc
get_map f zero x (y ∷ xs) h = let e : y ≡ x = cc in ap (λ z. Some (f z)) e
get_map f (suc k) x (y ∷ xs) h = get_map f k x xs h

pub get_drop : {X : Type 0} (n j k : ℕ) (xs : List X) → k ≡ n + j → slice_get (drop n xs) j ≡ slice_get xs k
get_drop zero j k xs e = let s : k ≡ j = omega (arith, e) in ap (λ i. slice_get xs i) (sym s)
get_drop (suc n) j k [] e = refl
get_drop (suc n) j zero (x ∷ xs) e = absurd (omega (arith, e))
get_drop (suc n) j (suc k) (x ∷ xs) e = get_drop n j k xs (omega (arith, e))

abbrev pub IsRising : {X : Type 0} → (X → ℤ) → List X → Type 0
IsRising key [] = ⊤
IsRising key (x ∷ xs) = ((y : _) → IsIn y xs → key x ≤ℤ key y) × IsRising key xs

pub rising_join : {X : Type 0} (key : X → ℤ) (xs ys : List X) → IsRising key xs → IsRising key ys → ((x y : X) → IsIn x xs → IsIn y ys → key x ≤ℤ key y) → IsRising key (xs ++ ys)
rising_join key [] ys p q h = q
rising_join key (x ∷ xs) ys p q h = (
  λ y m. elim (in_either y xs ys m) [ inl l ↦ p.0 y l | inr r ↦ h x y (inl refl) r ],
  rising_join key xs ys p.1 q (λ a b m n. h a b (inr m) n),
)

pub rising_same : {X : Type 0} (key : X → ℤ) (t : ℤ) (xs : List X) → ((x : X) → IsIn x xs → key x ≡ t) → IsRising key xs
rising_same key t [] h = tt
rising_same key t (x ∷ xs) h = (
  λ y m. (let a = h x (inl refl) in let b = h y (inr m) in subst (λ z. key x ≤ℤ z) (a ∙ sym b) (≤ℤ_refl (key x))),
  rising_same key t xs (λ y m. h y (inr m)),
)

pub ticks_from : {X : Type 0} (key : X → ℤ) (from : ℤ) (n : ℕ) (f : ℤ → List X) → ((t : ℤ) (x : X) → IsIn x (f t) → key x ≡ t) → (x : X) → IsIn x (each_tick from n f) → from ≤ℤ key x
unfolding each_tick
ticks_from key from zero f h x m = absurd m
ticks_from key from (suc n) f h x m = elim (in_either x (f from) (each_tick (from +ℤ pos 1) n f) m) [
  | inl l ↦ subst (λ z. from ≤ℤ z) (sym (h from x l)) (≤ℤ_refl from)
  | inr r ↦ later_tick from (key x) (ticks_from key (from +ℤ pos 1) n f h x r)
]

-- what is told tick by tick is in the order of ticks
pub ticks_rising : {X : Type 0} (key : X → ℤ) (from : ℤ) (n : ℕ) (f : ℤ → List X) → ((t : ℤ) (x : X) → IsIn x (f t) → key x ≡ t) → IsRising key (each_tick from n f)
unfolding each_tick
ticks_rising key from zero f h = tt
ticks_rising key from (suc n) f h =
    rising_join key (f from) (each_tick (from +ℤ pos 1) n f) (rising_same key from (f from) (h from)) (ticks_rising key (from +ℤ pos 1) n f h) (λ x y l r.
    (let a = h from x l in let b = later_tick from (key y) (ticks_from key (from +ℤ pos 1) n f h y r) in subst (λ z. z ≤ℤ key y) (sym a) b))

-- what is left where the first of them are gone
pub rising_behind : {X : Type 0} (key : X → ℤ) (xs ys : List X) → IsRising key (xs ++ ys) → IsRising key ys
rising_behind key [] ys h = h
rising_behind key (x ∷ xs) ys h = rising_behind key xs ys h.1
