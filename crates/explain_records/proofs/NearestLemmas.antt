-- Lists that are gone over from their first element on: the first that passes a test, the nearest and the last.
use Rattle.std.proofs.Common.{◌≡◌, ℕ, ◌+◌, ◌<◌, ◌≤◌, inl, inr, Bool, true, false, not, cond, nat_le, if◌then◌else◌, List, [], ◌∷◌, ◌++◌, length, filter, get_or, take, take-suc, Option, Some, None, refl, sym, ap, ◌∙◌, arith, append-nil, bit_and, nat_eq, zero, suc}
use Rattle.std.specs.List.{find}
use Rattle.std.proofs.lemmas.Bool.{cases_Bool}
use Rattle.std.proofs.lemmas.Bool.Decides.{nat_tests}
use Rattle.std.proofs.lemmas.List.Elements.{filter_more}
use Rattle.fh_base.specs.Lists.{or_else, some}
use Rattle.slot_rings.proofs.MaskLemmas.{in_both, some_in}
use Rattle.explain_model.specs.Commanded.{nearer, nearest, share}
use Rattle.explain_model.specs.SilentReasons.{last_of}
use Rattle.explain_records.specs.Nearest.{nearer_of}

-- ---- the first that passes

find_append : {X : Type 0} (p : X → Bool) (xs ys : List X) → find p xs ≡ None → find p (xs ++ ys) ≡ find p ys
find_append p [] ys none = refl
find_append p (x ∷ xs) ys none = elim (cases_Bool (p x)) [
  | inl t ↦ absurd (let e : Some x ≡ None = sym (ap (λ b. cond b (Some x) (find p xs)) t) ∙ none in cc)
  | inr f ↦ let rest : find p xs ≡ None = sym (ap (λ b. cond b (Some x) (find p xs)) f) ∙ none in rw f (find_append p xs ys rest)
]

-- none of the first passes, nor the next one
pub find_step : {X : Type 0} (p : X → Bool) (xs : List X) (i : ℕ) (d : X) → i < length xs → find p (take i xs) ≡ None → p (get_or xs i d) ≡ false → find p (take (i + 1) xs) ≡ None
find_step p xs i d lt none other =
    ap (find p) (more xs i d lt) ∙ find_append p (take i xs) (get_or xs i d ∷ []) none ∙ ap (λ b. cond b (Some (get_or xs i d)) None) other
  where
    more : {X : Type 0} (xs : List X) (i : ℕ) (d : X) → i < length xs → take (i + 1) xs ≡ take i xs ++ get_or xs i d ∷ []
    more xs i d lt = let e : i + 1 ≡ suc i = omega arith in ap (λ n. take n xs) e ∙ take-suc xs i d lt

-- none of the first passes, and the next one does
pub find_here : {X : Type 0} (p : X → Bool) (xs : List X) (i : ℕ) (d : X) → i < length xs → find p (take i xs) ≡ None → p (get_or xs i d) ≡ true → Some (get_or xs i d) ≡ find p xs
find_here p [] i d lt none here = absurd (omega (arith, lt))
find_here p (x ∷ xs) zero d lt none here = sym (ap (λ b. cond b (Some x) (find p xs)) here)
find_here p (x ∷ xs) (suc i) d lt none here = elim (cases_Bool (p x)) [
  | inl t ↦ absurd (let e : Some x ≡ None = sym (ap (λ b. cond b (Some x) (find p (take i xs))) t) ∙ none in cc)
  | inr f ↦
      let rest : find p (take i xs) ≡ None = sym (ap (λ b. cond b (Some x) (find p (take i xs))) f) ∙ none in
      find_here p xs i d (omega (arith, lt)) rest here ∙ sym (ap (λ b. cond b (Some x) (find p xs)) f)
]

-- ---- the nearest

nearest_of : {A : Type 0} (distance : A → ℕ) (x y : A) (o : Option A) → nearer distance x (Some (nearer_of distance o y)) ≡ Some (nearer_of distance (nearer distance x o) y)
nearest_of distance x y None = one (nat_le (distance x) (distance y))
  where
    one : (b : Bool) → (if b then Some x else Some y) ≡ Some (if b then x else y)
    one true = refl
    one false = refl
nearest_of distance x y (Some z) = three (nat_le (distance z) (distance y)) (nat_le (distance x) (distance z)) (nat_le (distance x) (distance y)) refl refl refl
  where
    three : (p q r : Bool) → nat_le (distance z) (distance y) ≡ p → nat_le (distance x) (distance z) ≡ q → nat_le (distance x) (distance y) ≡ r
        → nearer distance x (Some (if p then z else y)) ≡ Some (nearer_of distance (if q then Some x else Some z) y)
    three true true true a b c = rw (b, c) refl
    three true true false a b c = absurd (grind (arith, nat_tests))
    three true false r a b c = rw (a, b) refl
    three false true true a b c = rw c refl
    three false true false a b c = rw c refl
    three false false true a b c = absurd (grind (arith, nat_tests))
    three false false false a b c = rw (a, c) refl

nearest_more : {A : Type 0} (distance : A → ℕ) (xs : List A) (y : A) → nearest distance (xs ++ y ∷ []) ≡ Some (nearer_of distance (nearest distance xs) y)
unfolding nearest
nearest_more distance [] y = refl
nearest_more distance (x ∷ xs) y = ap (nearer distance x) (nearest_more distance xs y) ∙ nearest_of distance x y (nearest distance xs)

pub nearest_step : {A : Type 0} (distance : A → ℕ) (p : A → Bool) (xs : List A) (i : ℕ) (d : A) → i < length xs → p (get_or xs i d) ≡ true
    → Some (nearer_of distance (nearest distance (filter p (take i xs))) (get_or xs i d)) ≡ nearest distance (filter p (take (i + 1) xs))
nearest_step distance p xs i d lt here =
    sym (nearest_more distance (filter p (take i xs)) (get_or xs i d))
    ∙ sym (ap (nearest distance) (filter_more p xs i d lt ∙ ap (λ b. filter p (take i xs) ++ cond b (get_or xs i d ∷ []) []) here))

-- one that does not pass changes nothing
pub filter_step : {A : Type 0} (p : A → Bool) (xs : List A) (i : ℕ) (d : A) → i < length xs → p (get_or xs i d) ≡ false → filter p (take i xs) ≡ filter p (take (i + 1) xs)
filter_step p xs i d lt other = sym (filter_more p xs i d lt ∙ ap (λ b. filter p (take i xs) ++ cond b (get_or xs i d ∷ []) []) other ∙ append-nil (filter p (take i xs)))

-- ---- the last

last_append : {A : Type 0} (xs : List A) (y : A) → last_of (xs ++ y ∷ []) ≡ Some y
unfolding last_of
last_append [] y = refl
last_append (x ∷ xs) y = ap (λ o. or_else o (Some x)) (last_append xs y)

pub last_step : {A : Type 0} (p : A → Bool) (xs : List A) (i : ℕ) (d : A) → i < length xs → p (get_or xs i d) ≡ true → Some (get_or xs i d) ≡ last_of (filter p (take (i + 1) xs))
last_step p xs i d lt here =
    sym (ap last_of (filter_more p xs i d lt ∙ ap (λ b. filter p (take i xs) ++ cond b (get_or xs i d ∷ []) []) here) ∙ last_append (filter p (take i xs)) (get_or xs i d))

-- ---- masks

pub shared : (a b : ℕ) → not (nat_eq (bit_and (bit_and a b) 4095) 0) ≡ share a b
shared a b = some_in (bit_and a b) ∙ ap (some 0 12) (λ i re. in_both a b re i)

-- ---- all of a list

pub take_all : {X : Type 0} (xs : List X) (i : ℕ) → length xs ≤ i → take i xs ≡ xs
take_all [] zero le = refl
take_all [] (suc i) le = refl
take_all (x ∷ xs) zero le = absurd (omega (arith, le))
take_all (x ∷ xs) (suc i) le = ap (λ l. x ∷ l) (take_all xs i (omega (arith, le)))

pub find_all : {X : Type 0} (p : X → Bool) (xs : List X) (i : ℕ) → length xs ≤ i → find p (take i xs) ≡ None → find p xs ≡ None
find_all p xs i le none = ap (find p) (sym (take_all xs i le)) ∙ none

-- ---- one element more, where it passes

pub nearest_on : {A : Type 0} (distance : A → ℕ) (p : A → Bool) (xs : List A) (i : ℕ) (d : A) (before now : Option A) → i < length xs
    → before ≡ nearest distance (filter p (take i xs)) → now ≡ (if p (get_or xs i d) then Some (nearer_of distance before (get_or xs i d)) else before)
    → now ≡ nearest distance (filter p (take (i + 1) xs))
nearest_on distance p xs i d before now lt was is = elim (cases_Bool (p (get_or xs i d))) [
  | inl t ↦
      is ∙ ap (λ b. if b then Some (nearer_of distance before (get_or xs i d)) else before) t ∙ ap (λ o. Some (nearer_of distance o (get_or xs i d))) was
      ∙ nearest_step distance p xs i d lt t
  | inr f ↦
      is ∙ ap (λ b. if b then Some (nearer_of distance before (get_or xs i d)) else before) f ∙ was ∙ ap (nearest distance) (filter_step p xs i d lt f)
]

pub last_on : {A : Type 0} (p : A → Bool) (xs : List A) (i : ℕ) (d : A) (before now : Option A) → i < length xs
    → before ≡ last_of (filter p (take i xs)) → now ≡ (if p (get_or xs i d) then Some (get_or xs i d) else before)
    → now ≡ last_of (filter p (take (i + 1) xs))
last_on p xs i d before now lt was is = elim (cases_Bool (p (get_or xs i d))) [
  | inl t ↦ is ∙ ap (λ b. if b then Some (get_or xs i d) else before) t ∙ last_step p xs i d lt t
  | inr f ↦ is ∙ ap (λ b. if b then Some (get_or xs i d) else before) f ∙ was ∙ ap last_of (filter_step p xs i d lt f)
]
