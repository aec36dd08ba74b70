-- Which place each id has, and one that is handed out.
use Rattle.std.proofs.Common.{◌≡◌, ◌≢◌, ℕ, zero, suc, ◌+◌, ◌<◌, ◌≤◌, inl, inr, Bool, true, false, cond, eqb, ltb, List, [], ◌∷◌, ◌++◌, length, set, replicate, Option, Some, None, refl, sym, ap, ◌∙◌, subst, arith}
use Rattle.std.specs.List.{slice_get}
use Rattle.std.proofs.lemmas.Bool.{cases_lt, eq-eqb, le-ltb}
use Rattle.std.proofs.lemmas.Bool.Decides.{eqb_tells, nat_tests}
use Rattle.std.proofs.lemmas.Option.{same_Some, slice_get-get_or, slice_get_within, get_or_from_slice_get}
use Rattle.std.proofs.lemmas.List.{get_or-set_same, get_or-set_other, length-append, length-set}
use Rattle.ecpri_fragments.specs.Numbers.{AreOnce, how_many, is_number, times, times_free}

-- what is read of a list of which one element was written over
pub get_own : {X : Type 0} (xs : List X) (i : ℕ) (y x : X) → i < length xs → slice_get (set xs i y) i ≡ Some x → y ≡ x
get_own xs i y x h e = sym (get_or-set_same xs i y y h) ∙ get_or_from_slice_get (set xs i y) i x y e

pub get_other : {X : Type 0} (xs : List X) (i k : ℕ) (y x : X) → k ≢ i → slice_get (set xs i y) k ≡ Some x → slice_get xs k ≡ Some x
get_other xs i k y x h e =
    let l : k < length xs = subst (λ (n : ℕ). k < n) (length-set xs i y) (slice_get_within (set xs i y) k x e) in
    slice_get-get_or xs k x l ∙ ap (λ z. Some z) (sym (get_or-set_other xs i k y x h) ∙ get_or_from_slice_get (set xs i y) k x x e)

pub put_own : {X : Type 0} (xs : List X) (i : ℕ) (y : X) → i < length xs → slice_get (set xs i y) i ≡ Some y
put_own [] i y h = absurd (omega arith)
put_own (x ∷ xs) zero y h = refl
put_own (x ∷ xs) (suc i) y h = put_own xs i y (omega arith)

pub put_other : {X : Type 0} (xs : List X) (i k : ℕ) (y : X) → k ≢ i → slice_get (set xs i y) k ≡ slice_get xs k
put_other [] i k y h = refl
put_other (x ∷ xs) zero zero y h = absurd (h refl)
put_other (x ∷ xs) zero (suc k) y h = refl
put_other (x ∷ xs) (suc i) zero y h = refl
put_other (x ∷ xs) (suc i) (suc k) y h = put_other xs i k y (λ e. h (ap suc e))

-- and of one that grew
pub get_before : {X : Type 0} (xs : List X) (y : X) (k : ℕ) → k < length xs → slice_get (xs ++ y ∷ []) k ≡ slice_get xs k
get_before [] y k h = absurd (omega arith)
get_before (x ∷ xs) y zero h = refl
get_before (x ∷ xs) y (suc k) h = get_before xs y k (omega arith)

pub get_last : {X : Type 0} (xs : List X) (y : X) → slice_get (xs ++ y ∷ []) (length xs) ≡ Some y
get_last [] y = refl
get_last (x ∷ xs) y = get_last xs y

pub one_longer : {X : Type 0} (xs ys : List X) (y : X) → ys ≡ xs ++ y ∷ [] → length ys ≡ length xs + 1
one_longer xs ys y e = ap length e ∙ length-append xs (y ∷ [])

pub slice_get_old : {X : Type 0} (xs : List X) (i : ℕ) → i < length xs → (x : X) × (slice_get xs i ≡ Some x)
slice_get_old [] i h = absurd (omega arith)
slice_get_old (x ∷ xs) zero h = (x, refl)
slice_get_old (x ∷ xs) (suc i) h = slice_get_old xs i (omega arith)

-- where no id has a place
pub none_at : {X : Type 0} (n i : ℕ) (o : Option X) → slice_get (replicate n None) i ≡ Some o → o ≡ None
none_at zero i o e = absurd (cc)
none_at (suc n) zero o e = sym (same_Some None o e)
none_at (suc n) (suc i) o e = none_at n i o e

pub none_given : (n : ℕ) → how_many (replicate n None) ≡ 0
none_given zero = refl
none_given (suc n) = let h = none_given n in omega (arith, h)

-- an id that has none
pub at_most : (numbers : List (Option ℕ)) → how_many numbers ≤ length numbers
at_most [] = omega arith
at_most (None ∷ numbers) = let h = at_most numbers in omega (arith, h)
at_most (Some k ∷ numbers) = let h = at_most numbers in omega (arith, h)

pub one_free : (numbers : List (Option ℕ)) (i : ℕ) → slice_get numbers i ≡ Some None → how_many numbers < length numbers
one_free [] i e = absurd (cc)
one_free (None ∷ numbers) zero e = let h = at_most numbers in omega (arith, h)
one_free (Some k ∷ numbers) zero e = absurd (cc)
one_free (None ∷ numbers) (suc i) e = let h = one_free numbers i e in omega (arith, h)
one_free (Some k ∷ numbers) (suc i) e = let h = one_free numbers i e in omega (arith, h)

pub one_more : (numbers : List (Option ℕ)) (i k : ℕ) → slice_get numbers i ≡ Some None → how_many (set numbers i (Some k)) ≡ how_many numbers + 1
one_more [] i k e = absurd (cc)
one_more (None ∷ numbers) zero k e = omega arith
one_more (Some j ∷ numbers) zero k e = absurd (cc)
one_more (None ∷ numbers) (suc i) k e = let h = one_more numbers i k e in omega (arith, h)
one_more (Some j ∷ numbers) (suc i) k e = let h = one_more numbers i k e in omega (arith, h)

pub one_less : (numbers : List (Option ℕ)) (i k : ℕ) → slice_get numbers i ≡ Some (Some k) → how_many (set numbers i None) + 1 ≡ how_many numbers
one_less [] i k e = absurd (cc)
one_less (None ∷ numbers) zero k e = absurd (cc)
one_less (Some j ∷ numbers) zero k e = omega arith
one_less (None ∷ numbers) (suc i) k e = let h = one_less numbers i k e in omega (arith, h)
one_less (Some j ∷ numbers) (suc i) k e = let h = one_less numbers i k e in omega (arith, h)

-- how often a place is among those of the ids, after one was written over
pub times_set : (numbers : List (Option ℕ)) (i k : ℕ) (old new : Option ℕ) → slice_get numbers i ≡ Some old → times k (set numbers i new) + is_number k old ≡ times k numbers + is_number k new
times_set [] i k old new e = absurd (cc)
times_set (n ∷ numbers) zero k old new e = let q : n ≡ old = same_Some n old e in rw q (omega arith)
times_set (n ∷ numbers) (suc i) k old new e = let h = times_set numbers i k old new e in omega (arith, h)

pub times_more : (free : List ℕ) (n k : ℕ) → times_free k (free ++ n ∷ []) ≡ times_free k free + is_number k (Some n)
times_more [] n k = omega arith
times_more (m ∷ free) n k = let h = times_more free n k in omega (arith, h)

own_number : (k : ℕ) → is_number k (Some k) ≡ 1
own_number k = rw (eq-eqb k k refl) refl

pub times_own : (numbers : List (Option ℕ)) (i k : ℕ) → slice_get numbers i ≡ Some (Some k) → 1 ≤ times k numbers
times_own numbers i k e = let h = times_set numbers i k (Some k) None e in omega (arith, h, own_number k)

-- each place is free, or one id has it
longer : (k count : ℕ) → cond (ltb k count) 1 0 + cond (eqb count k) 1 0 ≡ cond (ltb k (count + 1)) 1 0
longer k count = grind (arith, nat_tests)

times_none : (n k : ℕ) → times k (replicate n None) + 0 ≡ 0
times_none zero k = refl
times_none (suc n) k = let h = times_none n k in omega (arith, h)

module _ (numbers : List (Option ℕ)) (free : List ℕ) (count : ℕ) (once : AreOnce numbers free count) where
  pub below : (i k : ℕ) → slice_get numbers i ≡ Some (Some k) → k < count
  below i k e = elim (cases_lt k count) [
    | inl l ↦ l
    | inr l ↦
        let h = times_own numbers i k e in
        let o = once k in
        let z : ltb k count ≡ false = le-ltb k count l in
        let o' : times k numbers + times_free k free ≡ 0 = rw z at o in
        absurd (omega (arith, h, o'))
  ]

  at_most_once : (k : ℕ) → times k numbers + times_free k free ≤ 1
  at_most_once k = go (ltb k count) (once k)
    where
      go : (b : Bool) → times k numbers + times_free k free ≡ cond b 1 0 → times k numbers + times_free k free ≤ 1
      go true e = omega (arith, e)
      go false e = omega (arith, e)

  pub apart : (i j k : ℕ) → slice_get numbers i ≡ Some (Some k) → slice_get numbers j ≡ Some (Some k) → i ≡ j
  apart i j k e f = elim (eqb_tells j i) [
    | inl q ↦ sym q.1
    | inr q ↦
        let s = times_set numbers i k (Some k) None e in
        let l = times_own (set numbers i None) j k (put_other numbers i j None q.1 ∙ f) in
        let m = at_most_once k in
        absurd (omega (arith, s, l, m, own_number k))
  ]

  -- a free one
  pub not_free : (rest : List ℕ) (n i : ℕ) → free ≡ rest ++ n ∷ [] → slice_get numbers i ≡ Some (Some n) → ⊥
  not_free rest n i e f =
      let l = times_own numbers i n f in
      let m = at_most_once n in
      let o : times_free n free ≡ times_free n rest + is_number n (Some n) = rw e (times_more rest n n) in
      omega (arith, l, m, o, own_number n)

  pub free_below : (rest : List ℕ) (n : ℕ) → free ≡ rest ++ n ∷ [] → n < count
  free_below rest n e = elim (cases_lt n count) [
    | inl l ↦ l
    | inr l ↦
        let z : ltb n count ≡ false = le-ltb n count l in
        let o' : times n numbers + times_free n free ≡ 0 = rw z at (once n) in
        let o : times_free n free ≡ times_free n rest + is_number n (Some n) = rw e (times_more rest n n) in
        absurd (omega (arith, o', o, own_number n))
  ]

  pub once_handed : (rest : List ℕ) (n i : ℕ) → free ≡ rest ++ n ∷ [] → slice_get numbers i ≡ Some None → AreOnce (set numbers i (Some n)) rest count
  once_handed rest n i e f k =
      let s = times_set numbers i k None (Some n) f in
      let o : times_free k free ≡ times_free k rest + is_number k (Some n) = rw e (times_more rest n k) in
      let q : times k (set numbers i (Some n)) + times_free k rest ≡ times k numbers + times_free k free = omega (arith, s, o) in
      q ∙ once k

  pub once_given : (n i : ℕ) → slice_get numbers i ≡ Some (Some n) → AreOnce (set numbers i None) (free ++ n ∷ []) count
  once_given n i f k =
      let s = times_set numbers i k (Some n) None f in
      let o = times_more free n k in
      let q : times k (set numbers i None) + times_free k (free ++ n ∷ []) ≡ times k numbers + times_free k free = omega (arith, s, o) in
      q ∙ once k

  pub once_more : (i : ℕ) → slice_get numbers i ≡ Some None → AreOnce (set numbers i (Some count)) free (count + 1)
  once_more i f k =
      let s = times_set numbers i k None (Some count) f in
      let q : times k (set numbers i (Some count)) + times_free k free ≡ times k numbers + times_free k free + is_number k (Some count) = omega (arith, s) in
      q ∙ ap (λ (x : ℕ). x + is_number k (Some count)) (once k) ∙ longer k count

pub once_none : (n : ℕ) → AreOnce (replicate n None) [] 0
once_none n k = rw (le-ltb k 0 (omega arith)) (times_none n k)
