-- How often a test passes, in lists that are put into order and that have each element once.
use Rattle.std.proofs.Common.{◌≡◌, ℕ, zero, suc, Bool, true, false, List, [], ◌∷◌, ◌++◌, refl, ap, ap₂, ◌∙◌}
use Rattle.std.specs.Prelude.{filter, if◌then◌else◌, ◌||◌}
use Rattle.std.specs.List.{AllByRecursion, flat_map, list_any}
use Rattle.fh_base.specs.Lists.{in_order, put_in}

-- so many copies of a list
abbrev pub copies : {A : Type 0} → List A → ℕ → List A
copies xs zero = []
copies xs (suc n) = xs ++ copies xs n

pub no_copies : {A : Type 0} (n : ℕ) → copies {A = A} [] n ≡ []
no_copies zero = refl
no_copies (suc n) = no_copies n

module _ {A : Type 0} (p : A → Bool) where
  abbrev pub passing : List A → ℕ
  passing [] = 0
  passing (x ∷ xs) = if p x then suc (passing xs) else passing xs

  pub flat_copies : {B : Type 0} (ys : List B) (xs : List A) → flat_map (λ x. if p x then ys else []) xs ≡ copies ys (passing xs)
  flat_copies {B} ys [] = refl
  flat_copies {B} ys (x ∷ xs) =
      elim (p x) as (λ b. (if b then ys else []) ++ flat_map (λ z. if p z then ys else []) xs ≡ copies ys (if b then suc (passing xs) else passing xs)) [
        | true ↦ ap (λ zs. ys ++ zs) (flat_copies ys xs)
        | false ↦ flat_copies ys xs
      ]

  swap : (b d : Bool) (n : ℕ) → (if b then suc (if d then suc n else n) else (if d then suc n else n)) ≡ (if d then suc (if b then suc n else n) else (if b then suc n else n))
  swap true true n = refl
  swap true false n = refl
  swap false true n = refl
  swap false false n = refl

  pub passing_put : (below : A → A → Bool) (x : A) (ys : List A) → passing (put_in below x ys) ≡ passing (x ∷ ys)
  unfolding put_in
  passing_put below x [] = refl
  passing_put below x (y ∷ ys) =
      elim (below y x) as (λ b. passing (if b then y ∷ put_in below x ys else x ∷ y ∷ ys) ≡ passing (x ∷ y ∷ ys)) [
        | true ↦ ap (λ n. if p y then suc n else n) (passing_put below x ys) ∙ swap (p y) (p x) (passing ys)
        | false ↦ refl
      ]

  pub passing_in_order : (below : A → A → Bool) (xs : List A) → passing (in_order below xs) ≡ passing xs
  unfolding in_order
  passing_in_order below [] = refl
  passing_in_order below (x ∷ xs) = passing_put below x (in_order below xs) ∙ ap (λ n. if p x then suc n else n) (passing_in_order below xs)

  -- a filter that lets through all that pass, and one that lets none of them through
  kept_step : (q : A → Bool) (x : A) (xs : List A) (b d : Bool) → p x ≡ b → q x ≡ d → (b ≡ true → d ≡ true) → passing (filter q xs) ≡ passing xs
      → passing (if d then x ∷ filter q xs else filter q xs) ≡ (if b then suc (passing xs) else passing xs)
  kept_step q x xs true true e f h more = ap₂ (λ (t : Bool) n. if t then suc n else n) e more
  kept_step q x xs true false e f h more = absurd (let g = h refl in cc)
  kept_step q x xs false true e f h more = ap₂ (λ (t : Bool) n. if t then suc n else n) e more
  kept_step q x xs false false e f h more = more

  pub passing_kept : (q : A → Bool) → ((x : A) → p x ≡ true → q x ≡ true) → (xs : List A) → passing (filter q xs) ≡ passing xs
  passing_kept q h [] = refl
  passing_kept q h (x ∷ xs) = kept_step q x xs (p x) (q x) refl refl (h x) (passing_kept q h xs)

  lost_step : (q : A → Bool) (x : A) (xs : List A) (b d : Bool) → p x ≡ b → q x ≡ d → (b ≡ true → d ≡ false) → passing (filter q xs) ≡ 0
      → passing (if d then x ∷ filter q xs else filter q xs) ≡ 0
  lost_step q x xs true true e f h more = absurd (let g = h refl in cc)
  lost_step q x xs true false e f h more = more
  lost_step q x xs false true e f h more = ap₂ (λ (t : Bool) n. if t then suc n else n) e more
  lost_step q x xs false false e f h more = more

  pub passing_lost : (q : A → Bool) → ((x : A) → p x ≡ true → q x ≡ false) → (xs : List A) → passing (filter q xs) ≡ 0
  passing_lost q h [] = refl
  passing_lost q h (x ∷ xs) = lost_step q x xs (p x) (q x) refl refl (h x) (passing_lost q h xs)

  pub any_both : (xs ys : List A) → list_any p (xs ++ ys) ≡ (list_any p xs || list_any p ys)
  any_both [] ys = refl
  any_both (x ∷ xs) ys = elim (p x) as (λ b. (b || list_any p (xs ++ ys)) ≡ ((b || list_any p xs) || list_any p ys)) [ true ↦ refl | false ↦ any_both xs ys ]

-- ---- what holds of all

module _ {A : Type 0} (P : A → Type 0) where
  pub all_filter : (q : A → Bool) (xs : List A) → AllByRecursion P xs → AllByRecursion P (filter q xs)
  all_filter q [] h = tt
  all_filter q (x ∷ xs) h = elim (q x) as (λ b. AllByRecursion P (if b then x ∷ filter q xs else filter q xs)) [ true ↦ (h.0, all_filter q xs h.1) | false ↦ all_filter q xs h.1 ]

  all_put : (below : A → A → Bool) (x : A) (ys : List A) → P x → AllByRecursion P ys → AllByRecursion P (put_in below x ys)
  unfolding put_in
  all_put below x [] here h = (here, tt)
  all_put below x (y ∷ ys) here h =
      elim (below y x) as (λ b. AllByRecursion P (if b then y ∷ put_in below x ys else x ∷ y ∷ ys)) [ true ↦ (h.0, all_put below x ys here h.1) | false ↦ (here, h) ]

  pub all_in_order : (below : A → A → Bool) (xs : List A) → AllByRecursion P xs → AllByRecursion P (in_order below xs)
  unfolding in_order
  all_in_order below [] h = tt
  all_in_order below (x ∷ xs) h = all_put below x (in_order below xs) h.0 (all_in_order below xs h.1)

  pub all_both : (xs ys : List A) → AllByRecursion P xs → AllByRecursion P ys → AllByRecursion P (xs ++ ys)
  all_both [] ys h k = k
  all_both (x ∷ xs) ys h k = (h.0, all_both xs ys h.1 k)
