-- Lists that are told of each number, or of each tick.
use Rattle.std.proofs.Common.{◌≡◌, ℕ, ℤ, pos, negsuc, zero, suc, ◌+◌, ◌+ℤ◌, ◌≤ℤ◌, ◌<ℤ◌, Bool, true, false, List, [], ◌++◌, ◌⊎◌, inl, inr, refl, sym, ap, ◌∙◌, arith, append_assoc, append-nil}
use Rattle.std.specs.Prelude.{if◌then◌else◌}
use Rattle.std.specs.Int.{int_gap}
use Rattle.std.specs.List.{flat_map}
use Rattle.std.specs.Ordering.{int_eq}
use Rattle.std.proofs.lemmas.Bool.Decides.{Decides-int_eq}
use Rattle.std.proofs.lemmas.Int.{ints, by_lt_z}
use Rattle.std.proofs.lemmas.List.Concat.{flat_map-append}
use Rattle.fh_base.specs.Lists.{each, each_tick}

pub each_zero : {A : Type 0} (from : ℕ) (f : ℕ → List A) → each from 0 f ≡ []
unfolding each
each_zero from f = refl

pub each_none : {A : Type 0} (from n : ℕ) (f : ℕ → List A) → ((k : ℕ) → f k ≡ []) → each from n f ≡ []
unfolding each
each_none from zero f h = refl
each_none from (suc n) f h = ap (λ xs. xs ++ each (from + 1) n f) (h from) ∙ each_none (from + 1) n f h

pub each_same : {A : Type 0} (from n : ℕ) (f g : ℕ → List A) → ((k : ℕ) → f k ≡ g k) → each from n f ≡ each from n g
unfolding each
each_same from zero f g h = refl
each_same from (suc n) f g h = ap (λ xs. xs ++ each (from + 1) n f) (h from) ∙ ap (λ xs. g from ++ xs) (each_same (from + 1) n f g h)

pub each_split : {A : Type 0} (from m n : ℕ) (f : ℕ → List A) → each from (m + n) f ≡ each from m f ++ each (from + m) n f
unfolding each
each_split from zero n f =
    let count : 0 + n ≡ n = omega arith in
    let place : from + 0 ≡ from = omega arith in
    ap (λ k. each from k f) count ∙ ap (λ k. each k n f) (sym place)
each_split from (suc m) n f =
    let count : suc m + n ≡ suc (m + n) = omega arith in
    let place : from + 1 + m ≡ from + suc m = omega arith in
    ap (λ k. each from k f) count
    ∙ ap (λ xs. f from ++ xs) (each_split (from + 1) m n f ∙ ap (λ k. each (from + 1) m f ++ each k n f) place)
    ∙ sym (append_assoc (f from) (each (from + 1) m f) (each (from + suc m) n f))

-- one more at the end
pub each_more : {A : Type 0} (n : ℕ) (f : ℕ → List A) → each 0 (n + 1) f ≡ each 0 n f ++ f n
unfolding each
each_more n f =
    let place : 0 + n ≡ n = omega arith in
    each_split 0 n 1 f ∙ ap (λ xs. each 0 n f ++ xs) (append-nil (f (0 + n)) ∙ ap f place)

-- as far as a loop has gone that appends
pub none_yet : {A : Type 0} (xs : List A) (f : ℕ → List A) → xs ≡ xs ++ each 0 0 f
none_yet xs f = sym (ap (λ ys. xs ++ ys) (each_zero 0 f) ∙ append-nil xs)

pub one_more : {A : Type 0} (xs ys zs : List A) (k : ℕ) (f : ℕ → List A) → zs ≡ ys ++ f k → ys ≡ xs ++ each 0 k f → zs ≡ xs ++ each 0 (k + 1) f
one_more xs ys zs k f is before =
    is ∙ ap (λ ws. ws ++ f k) before ∙ append_assoc xs (each 0 k f) (f k) ∙ ap (λ ws. xs ++ ws) (sym (each_more k f))

pub each_flat : {S A : Type 0} (G : S → List A) (from n : ℕ) (f : ℕ → List A) (h : ℕ → List S) → ((k : ℕ) → f k ≡ flat_map G (h k)) → each from n f ≡ flat_map G (each from n h)
unfolding each
each_flat G from zero f h e = refl
each_flat G from (suc n) f h e =
    ap (λ xs. xs ++ each (from + 1) n f) (e from)
    ∙ ap (λ xs. flat_map G (h from) ++ xs) (each_flat G (from + 1) n f h e)
    ∙ sym (flat_map-append G (h from) (each (from + 1) n h))

pub either_flat : {S A : Type 0} (G : S → List A) (b : Bool) (xs : List A) (ys : List S) → xs ≡ flat_map G ys → (if b then xs else []) ≡ flat_map G (if b then ys else [])
either_flat G true xs ys e = e
either_flat G false xs ys e = refl

pub ticks_flat : {S A : Type 0} (G : S → List A) (from : ℤ) (n : ℕ) (f : ℤ → List A) (h : ℤ → List S) → ((t : ℤ) → f t ≡ flat_map G (h t))
    → each_tick from n f ≡ flat_map G (each_tick from n h)
unfolding each_tick
ticks_flat G from zero f h e = refl
ticks_flat G from (suc n) f h e =
    ap (λ xs. xs ++ each_tick (from +ℤ pos 1) n f) (e from)
    ∙ ap (λ xs. flat_map G (h from) ++ xs) (ticks_flat G (from +ℤ pos 1) n f h e)
    ∙ sym (flat_map-append G (h from) (each_tick (from +ℤ pos 1) n h))

pub either_none : {A : Type 0} (a s : ℤ) (b : Bool) (xs : List A) → int_eq a s ≡ b → (a ≡ s → xs ≡ []) → (if b then xs else []) ≡ []
either_none a s true xs is h = h ((Decides-int_eq a s).0 is)
either_none a s false xs is h = refl

pub ticks_split : {A : Type 0} (from : ℤ) (m n : ℕ) (f : ℤ → List A) → each_tick from (m + n) f ≡ each_tick from m f ++ each_tick (from +ℤ pos m) n f
unfolding each_tick
ticks_split from zero n f =
    let count : 0 + n ≡ n = omega arith in
    let place : from +ℤ pos 0 ≡ from = omega (arith, ints) in
    ap (λ k. each_tick from k f) count ∙ ap (λ k. each_tick k n f) (sym place)
ticks_split from (suc m) n f =
    let count : suc m + n ≡ suc (m + n) = omega arith in
    let place : from +ℤ pos 1 +ℤ pos m ≡ from +ℤ pos (suc m) = omega (arith, ints) in
    ap (λ k. each_tick from k f) count
    ∙ ap (λ xs. f from ++ xs) (ticks_split (from +ℤ pos 1) m n f ∙ ap (λ k. each_tick (from +ℤ pos 1) m f ++ each_tick k n f) place)
    ∙ sym (append_assoc (f from) (each_tick (from +ℤ pos 1) m f) (each_tick (from +ℤ pos (suc m)) n f))

pub ticks_none : {A : Type 0} (from : ℤ) (n : ℕ) (f : ℤ → List A) → ((t : ℤ) → from ≤ℤ t → t <ℤ (from +ℤ pos n) → f t ≡ []) → each_tick from n f ≡ []
unfolding each_tick
ticks_none from zero f none = refl
ticks_none from (suc n) f none =
    ap (λ xs. xs ++ each_tick (from +ℤ pos 1) n f) (none from (omega (arith, ints)) (omega (arith, ints)))
    ∙ ticks_none (from +ℤ pos 1) n f (λ t low high. none t (omega (arith, ints)) (omega (arith, ints)))

pub gap_is : (a b : ℤ) → a ≤ℤ b → a +ℤ pos (int_gap a b) ≡ b
gap_is (pos a) (pos b) h = omega (arith, ints)
gap_is (pos a) (negsuc b) h = absurd (omega (arith, ints))
gap_is (negsuc a) (pos b) h = omega (arith, ints)
gap_is (negsuc a) (negsuc b) h = omega (arith, ints)

pub gap_none : (a b : ℤ) → b ≤ℤ a → int_gap a b ≡ 0
gap_none (pos a) (pos b) h = omega (arith, ints)
gap_none (pos a) (negsuc b) h = refl
gap_none (negsuc a) (pos b) h = absurd (omega (arith, ints))
gap_none (negsuc a) (negsuc b) h = omega (arith, ints)

pub gap_parts : (a t b : ℤ) → a ≤ℤ t → t <ℤ b → int_gap a b ≡ int_gap a t + suc (int_gap (t +ℤ pos 1) b)
gap_parts a t b low high =
    let before = gap_is a t low in
    let after = gap_is (t +ℤ pos 1) b (omega (arith, ints)) in
    let all = gap_is a b (omega (arith, ints)) in
    omega (arith, ints, before, after, all)

pub no_ticks : {A : Type 0} (from : ℤ) (f : ℤ → List A) → each_tick from 0 f ≡ []
unfolding each_tick
no_ticks from f = refl

pub first_tick : {A : Type 0} (from : ℤ) (n : ℕ) (f : ℤ → List A) → each_tick from (suc n) f ≡ f from ++ each_tick (from +ℤ pos 1) n f
unfolding each_tick
first_tick from n f = refl

pub order : (a b : ℤ) → (a ≤ℤ b) ⊎ (b ≤ℤ a)
order a b = by_lt_z a b (λ lt. inl (omega (arith, ints))) (λ ge. inr ge)

pub quiet_ticks : {A : Type 0} (from end : ℤ) (f : ℤ → List A) → from ≤ℤ end → ((t : ℤ) → from ≤ℤ t → t <ℤ end → f t ≡ []) → each_tick from (int_gap from end) f ≡ []
quiet_ticks from end f order none =
    let all = gap_is from end order in
    ticks_none from (int_gap from end) f (λ t low high. none t low (omega (arith, ints, all)))
