-- One mark more, and one arrival more.
use Rattle.std.proofs.Common.{◌≡◌, ℕ, zero, suc, ◌+◌, ◌*◌, ◌-◌, ◌<◌, ◌≤◌, ◌==◌, ◌&&◌, Bool, true, false, cond, List, [], ◌∷◌, ◌++◌, length, get_or, Option, None, Some, inl, inr, ◌⊎◌, refl, sym, ap, subst, ◌∙◌, arith, add-one, length-append}
use Rattle.std.specs.List.{count_by, flat_map}
use Rattle.std.proofs.Math.ListN.{set}
use Rattle.std.proofs.lemmas.Bool.{cases_lt}
use Rattle.std.proofs.lemmas.Bool.Decides.{nat_tests}
use Rattle.std.proofs.lemmas.List.{get_or_append_left, get_or-append_right, set-append_left, set-append_right, length_push}
use Rattle.std.proofs.lemmas.List.Sums.{sum_by-append, count_by-le-length}
use Rattle.pictures.specs.declared.arrivals.Arrival.{Arrival}
use Rattle.pictures.specs.declared.arrivals.Kind.{Kind}
use Rattle.pictures.specs.declared.arrivals.Kind.TheVariants.{OnTime, Late, Early}
use Rattle.pictures.specs.declared.tallies.Counts.{Counts}
use Rattle.pictures.specs.Counts.{Mark, IsBelow, is_on_time, is_late, is_early, no_counts, counted, mark_at, last_marks, marks_of, column_at, columns_of}

-- ---- counts

pub counts_eq : (a b c x y z : ℕ) → a ≡ x → b ≡ y → c ≡ z
    → (let one : Counts = record { on_time = a; late = b; early = c } in one) ≡ (let other : Counts = record { on_time = x; late = y; early = z } in other)
counts_eq a b c x y z p q r = cc

pub count_more : {X : Type 0} (p : X → Bool) (xs : List X) (x : X) → count_by p (xs ++ x ∷ []) ≡ count_by p xs + cond (p x) 1 0
count_more p xs x = sum_by-append (λ y. cond (p y) 1 0) xs (x ∷ []) ∙ ap (λ n. count_by p xs + n) (omega arith)

one_kind : (test : Kind → Bool) (ms : List Mark) (c : ℕ) (kind : Kind) (column : ℕ) (b : Bool) → (column == c) ≡ b
    → count_by (λ m. (m.column == c) && test m.kind) (ms ++ mark_at kind column ∷ []) ≡ count_by (λ m. (m.column == c) && test m.kind) ms + cond (b && test kind) 1 0
one_kind test ms c kind column b e =
    count_more (λ m. (m.column == c) && test m.kind) ms (mark_at kind column)
    ∙ ap (λ x. count_by (λ m. (m.column == c) && test m.kind) ms + cond (x && test kind) 1 0) e

pub plus_none : (n m : ℕ) → n ≡ m + 0 → n ≡ m
plus_none n m e = omega arith

-- a mark in a column is one more there
column_same : (ms : List Mark) (c : ℕ) (kind : Kind) (column : ℕ) → (column == c) ≡ true → column_at (ms ++ mark_at kind column ∷ []) c ≡ counted kind (column_at ms c)
column_same ms c OnTime column e =
    counts_eq _ _ _ _ _ _ (one_kind is_on_time ms c OnTime column true e) (plus_none _ _ (one_kind is_late ms c OnTime column true e)) (plus_none _ _ (one_kind is_early ms c OnTime column true e))
column_same ms c Late column e =
    counts_eq _ _ _ _ _ _ (plus_none _ _ (one_kind is_on_time ms c Late column true e)) (one_kind is_late ms c Late column true e) (plus_none _ _ (one_kind is_early ms c Late column true e))
column_same ms c Early column e =
    counts_eq _ _ _ _ _ _ (plus_none _ _ (one_kind is_on_time ms c Early column true e)) (plus_none _ _ (one_kind is_late ms c Early column true e)) (one_kind is_early ms c Early column true e)

-- and nothing in the others
column_other : (ms : List Mark) (c : ℕ) (kind : Kind) (column : ℕ) → (column == c) ≡ false → column_at (ms ++ mark_at kind column ∷ []) c ≡ column_at ms c
column_other ms c kind column e =
    counts_eq _ _ _ _ _ _ (plus_none _ _ (one_kind is_on_time ms c kind column false e)) (plus_none _ _ (one_kind is_late ms c kind column false e)) (plus_none _ _ (one_kind is_early ms c kind column false e))

-- ---- columns

pub columns_length : (n : ℕ) (ms : List Mark) → length (columns_of n ms) ≡ n
unfolding columns_of
columns_length zero ms = refl
columns_length (suc n) ms = omega (arith, length_push (columns_of n ms) (column_at ms n), columns_length n ms)

pub set_past : {X : Type 0} (xs : List X) (i : ℕ) (x : X) → length xs ≤ i → set xs i x ≡ xs
set_past [] i x past = refl
set_past (y ∷ xs) zero x past = absurd (omega arith)
set_past (y ∷ xs) (suc i) x past = ap (λ zs. y ∷ zs) (set_past xs i x (omega arith))

abbrev one_more : List Counts → ℕ → Kind → List Counts
one_more columns i kind = set columns i (counted kind (get_or columns i no_counts))

push_before : (xs : List Counts) (c : Counts) (i : ℕ) (kind : Kind) → i < length xs → one_more (xs ++ c ∷ []) i kind ≡ one_more xs i kind ++ c ∷ []
push_before xs c i kind lt =
    ap (λ v. set (xs ++ c ∷ []) i (counted kind v)) (get_or_append_left xs (c ∷ []) no_counts i lt) ∙ set-append_left xs (c ∷ []) i (counted kind (get_or xs i no_counts)) lt

push_here : (xs : List Counts) (c : Counts) (i : ℕ) (kind : Kind) → length xs ≡ i → one_more (xs ++ c ∷ []) i kind ≡ xs ++ counted kind c ∷ []
push_here xs c i kind is =
    let none : i - i ≡ 0 = omega arith in
    ap (λ v. set (xs ++ c ∷ []) i (counted kind v)) (get_or-append_right xs (c ∷ []) i i no_counts is (omega arith) ∙ ap (λ k. get_or (c ∷ []) k no_counts) none)
    ∙ set-append_right xs (c ∷ []) i i (counted kind c) is (omega arith)
    ∙ ap (λ k. xs ++ set (c ∷ []) k (counted kind c)) none

-- the columns below the next one
columns_step : (n : ℕ) (ms : List Mark) (kind : Kind) (column : ℕ) → columns_of n (ms ++ mark_at kind column ∷ []) ≡ one_more (columns_of n ms) column kind
    → columns_of n (ms ++ mark_at kind column ∷ []) ++ column_at (ms ++ mark_at kind column ∷ []) n ∷ [] ≡ one_more (columns_of n ms ++ column_at ms n ∷ []) column kind
columns_step n ms kind column before = either (cases_lt column n)
  where
    here : column ≡ n → columns_of n (ms ++ mark_at kind column ∷ []) ++ column_at (ms ++ mark_at kind column ∷ []) n ∷ [] ≡ one_more (columns_of n ms ++ column_at ms n ∷ []) column kind
    here is =
        let size : length (columns_of n ms) ≡ column = columns_length n ms ∙ sym is in
        ap (λ xs. xs ++ column_at (ms ++ mark_at kind column ∷ []) n ∷ []) (before ∙ set_past (columns_of n ms) column _ (omega arith))
        ∙ ap (λ c. columns_of n ms ++ c ∷ []) (column_same ms n kind column (grind (arith, nat_tests)))
        ∙ sym (push_here (columns_of n ms) (column_at ms n) column kind size)

    later : n < column → columns_of n (ms ++ mark_at kind column ∷ []) ++ column_at (ms ++ mark_at kind column ∷ []) n ∷ [] ≡ one_more (columns_of n ms ++ column_at ms n ∷ []) column kind
    later lt =
        ap (λ xs. xs ++ column_at (ms ++ mark_at kind column ∷ []) n ∷ []) (before ∙ set_past (columns_of n ms) column _ (omega (arith, columns_length n ms)))
        ∙ ap (λ c. columns_of n ms ++ c ∷ []) (column_other ms n kind column (grind (arith, nat_tests)))
        ∙ sym (set_past (columns_of n ms ++ column_at ms n ∷ []) column _ (omega (arith, columns_length n ms, length_push (columns_of n ms) (column_at ms n))))

    either : (column < n) ⊎ (n ≤ column) → columns_of n (ms ++ mark_at kind column ∷ []) ++ column_at (ms ++ mark_at kind column ∷ []) n ∷ [] ≡ one_more (columns_of n ms ++ column_at ms n ∷ []) column kind
    either (inl lt) =
        ap (λ xs. xs ++ column_at (ms ++ mark_at kind column ∷ []) n ∷ []) before
        ∙ ap (λ c. one_more (columns_of n ms) column kind ++ c ∷ []) (column_other ms n kind column (grind (arith, nat_tests)))
        ∙ sym (push_before (columns_of n ms) (column_at ms n) column kind (omega (arith, columns_length n ms)))
    either (inr ge) = elim (cases_lt n column) [ inl lt ↦ later lt | inr le ↦ here (omega arith) ]

-- one mark more is one more in its column
pub columns_more : (n : ℕ) (ms : List Mark) (kind : Kind) (column : ℕ) → columns_of n (ms ++ mark_at kind column ∷ []) ≡ one_more (columns_of n ms) column kind
unfolding columns_of
columns_more zero ms kind column = refl
columns_more (suc n) ms kind column = columns_step n ms kind column (columns_more n ms kind column)

-- columns in which nothing is counted, one after another
pub columns_none : (xs : List Counts) → xs ≡ [] → xs ≡ columns_of 0 []
unfolding columns_of
columns_none xs is = is

pub columns_next : (xs next : List Counts) (n : ℕ) (x : Counts) → xs ≡ columns_of n [] → x ≡ no_counts → next ≡ xs ++ x ∷ [] → next ≡ columns_of (n + 1) []
unfolding columns_of
columns_next xs next n x before is more = more ∙ ap (λ ys. ys ++ x ∷ []) before ∙ ap (λ y. columns_of n [] ++ y ∷ []) is ∙ rw add-one refl

-- ---- how many

pub column_below : (ms : List Mark) (c limit : ℕ) → length ms < limit → IsBelow limit (column_at ms c)
column_below ms c limit small = record {
  on_time = omega (arith, count_by-le-length (λ m. (m.column == c) && is_on_time m.kind) ms);
  late = omega (arith, count_by-le-length (λ m. (m.column == c) && is_late m.kind) ms);
  early = omega (arith, count_by-le-length (λ m. (m.column == c) && is_early m.kind) ms);
}

one_or : (P : Counts → Type 0) (c d : Counts) (k : ℕ) → P c → P d → P (get_or (c ∷ []) k d)
one_or P c d zero h other = h
one_or P c d (suc k) h other = other

pub columns_below : (n : ℕ) (ms : List Mark) (c limit : ℕ) → length ms < limit → IsBelow limit (get_or (columns_of n ms) c no_counts)
unfolding columns_of
columns_below zero ms c limit small = record { on_time = omega arith; late = omega arith; early = omega arith }
columns_below (suc n) ms c limit small =
    elim (cases_lt c (length (columns_of n ms))) [
      | inl lt ↦ subst (IsBelow limit) (sym (get_or_append_left (columns_of n ms) (column_at ms n ∷ []) no_counts c lt)) (columns_below n ms c limit small)
      | inr ge ↦
          subst (IsBelow limit) (sym (get_or-append_right (columns_of n ms) (column_at ms n ∷ []) (length (columns_of n ms)) c no_counts refl ge))
          (one_or (IsBelow limit) (column_at ms n) no_counts (c - length (columns_of n ms)) (column_below ms n limit small) (record { on_time = omega arith; late = omega arith; early = omega arith }))
    ]

last_few : (kind : Kind) (last : Option ℕ) → length (last_marks kind last) ≤ 1
last_few kind None = omega arith
last_few kind (Some c) = omega arith

-- an arrival has at most two marks
pub marks_few : (came : List Arrival) → length (flat_map marks_of came) ≤ 2 * length came
marks_few [] = omega arith
marks_few (a ∷ came) = omega (arith, marks_few came, last_few a.kind a.last, length-append (marks_of a) (flat_map marks_of came))
