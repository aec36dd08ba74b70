-- One more cell in the list of all that were added.
use Rattle.std.proofs.Common.{◌≡◌, ◌==◌, ◌&&◌, nat_lt, IsTrue, ℕ, suc, ◌<◌, ◌≤◌, Option, Some, None, Bool, true, false, cond, not, List, [], ◌∷◌, ◌++◌, map, length, get_or, count_by, refl, ap, ap₂, sym, ◌∙◌, arith, subst, All}
use Rattle.std.specs.List.{AllPairs, filter}
use Rattle.std.specs.Option.{option_map}
use Rattle.std.specs.Ordering.{int_eq}
use Rattle.std.proofs.lemmas.Bool.Decides.{nat_tests}
use Rattle.std.proofs.lemmas.Bool.{eq-eqb, not-false, not-true}
use Rattle.fh_base.proofs.Orders.{int_own}
use Rattle.fh_base.specs.declared.values.Ticks.{Ticks}
use Rattle.std.proofs.lemmas.List.{append-nil}
use Rattle.std.proofs.lemmas.List.Kept.{AllPairs-cons, AllPairs-filter}
use Rattle.std.proofs.lemmas.List.Elements.{All-cons, All-tail, All-head, filter-append, filter_passes}
use Rattle.std.proofs.lemmas.List.Sums.{length-filter, count_by-le-length}
use Rattle.air_source.specs.declared.events.AirCell.{AirCell}
use Rattle.shared_cell.specs.declared.places.CellPlace.{CellPlace}
use Rattle.shared_cell.specs.declared.values.Mixed.{Mixed}
use Rattle.shared_cell.specs.Places.{is_same, is_at, is_mixed_at, place_of}
use Rattle.shared_cell.specs.Joined.{joined, joined_at, may_join, opened, added, MayJoin}
use Rattle.shared_cell.specs.Combined.{firsts, cells_with, has_samples, mixed_of, combined, AgreeIn, Stands, Follows}
use Rattle.shared_cell.specs.Finding.{index_of}
use Rattle.shared_cell.proofs.Same.{same_is, same_itself, same_turned}
use Rattle.shared_cell.proofs.Sums.{mixed_of-last, mixed_of-none}

-- a cell is at a place where another that is at it is the same
at_same : (q : CellPlace) (c x : AirCell) → is_at (place_of c) x ≡ true → is_at q x ≡ is_at q c
at_same q c x h = sym (ap (is_same q) (same_is (place_of c) (place_of x) h))

-- ---- the firsts of their places

-- the list with a cell after it, where no other is at its place
abbrev put_first : AirCell → List AirCell → List AirCell
put_first c [] = c ∷ []
put_first c (x ∷ xs) = cond (is_at (place_of c) x) (x ∷ xs) (x ∷ put_first c xs)

filter_out : (p : AirCell → Bool) (c : AirCell) (xs : List AirCell) → p c ≡ false → filter p (put_first c xs) ≡ filter p xs
filter_out p c [] h = rw h refl
filter_out p c (x ∷ xs) h = go (is_at (place_of c) x) (filter_out p c xs h)
  where
    go : (b : Bool) → filter p (put_first c xs) ≡ filter p xs → filter p (cond b (x ∷ xs) (x ∷ put_first c xs)) ≡ filter p (x ∷ xs)
    go true rest = refl
    go false rest = ap (λ ys. cond (p x) (x ∷ ys) ys) rest

filter_in : (p : AirCell → Bool) (c : AirCell) (xs : List AirCell) → ((x : AirCell) → is_at (place_of c) x ≡ true → p x ≡ true) → p c ≡ true
    → filter p (put_first c xs) ≡ put_first c (filter p xs)
filter_in p c [] same h = rw h refl
filter_in p c (x ∷ xs) same h = go (is_at (place_of c) x) (p x) refl refl (filter_in p c xs same h)
  where
    go : (b t : Bool) → is_at (place_of c) x ≡ b → p x ≡ t → filter p (put_first c xs) ≡ put_first c (filter p xs) → filter p (cond b (x ∷ xs) (x ∷ put_first c xs)) ≡ put_first c (cond t (x ∷ filter p xs) (filter p xs))
    go true true at passes rest = rw (passes, at) refl
    go true false at passes rest = let bad = same x at in cc
    go false true at passes rest = rw (passes, at) (ap (λ ys. x ∷ ys) rest)
    go false false at passes rest = rw passes rest

abbrev other_place : AirCell → AirCell → Bool
other_place d x = not (is_at (place_of d) x)

-- one more cell is a first where no other is at its place
firsts-last : (cells : List AirCell) (c : AirCell) → firsts (cells ++ c ∷ []) ≡ put_first c (firsts cells)
firsts-last [] c = refl
firsts-last (d ∷ rest) c = ap (λ ys. d ∷ filter (other_place d) ys) (firsts-last rest c) ∙ go (is_at (place_of c) d) refl
  where
    go : (b : Bool) → is_at (place_of c) d ≡ b → d ∷ filter (other_place d) (put_first c (firsts rest)) ≡ cond b (d ∷ filter (other_place d) (firsts rest)) (d ∷ put_first c (filter (other_place d) (firsts rest)))
    go true at = ap (λ ys. d ∷ ys) (filter_out (other_place d) c (firsts rest) (ap not (same_turned (place_of d) (place_of c) ∙ at)))
    go false at =
        let apart : other_place d c ≡ true = ap not (same_turned (place_of d) (place_of c) ∙ at) in
        ap (λ ys. d ∷ ys) (filter_in (other_place d) c (firsts rest) (λ x h. ap not (at_same (place_of d) c x h) ∙ apart) apart)

-- two that are of two places
abbrev AreApart : AirCell → AirCell → Type 0
AreApart x y = is_at (place_of x) y ≡ false

all_not_true : (f : AirCell → Bool) (xs : List AirCell) → All (λ x. not (f x) ≡ true) xs → All (λ x. f x ≡ false) xs
all_not_true f xs h = λ k d lt. not-true (f (get_or xs k d)) (h k d lt)

-- no two firsts are of one place
firsts_apart : (cells : List AirCell) → AllPairs AreApart (firsts cells)
firsts_apart [] = λ i j d low high. absurd (omega (arith, high))
firsts_apart (d ∷ rest) =
    AllPairs-cons AreApart d (filter (other_place d) (firsts rest))
    (all_not_true (is_at (place_of d)) (filter (other_place d) (firsts rest)) (filter_passes (other_place d) (firsts rest)))
    (AllPairs-filter AreApart (other_place d) (firsts rest) (firsts_apart rest))

-- what holds of those that are kept and of those that are not holds of all
all_of_both : (P : AirCell → Type 0) (p : AirCell → Bool) (xs : List AirCell) → ((x : AirCell) → p x ≡ false → P x) → All P (filter p xs) → All P xs
all_of_both P p [] out kept = kept
all_of_both P p (x ∷ xs) out kept = go (p x) refl kept (all_of_both P p xs out)
  where
    go : (b : Bool) → p x ≡ b → All P (cond b (x ∷ filter p xs) (filter p xs)) → (All P (filter p xs) → All P xs) → All P (x ∷ xs)
    go true e kept rest = All-cons P x xs (All-head P x (filter p xs) kept) (rest (All-tail P x (filter p xs) kept))
    go false e kept rest = All-cons P x xs (out x e) (rest kept)

-- a place at which no first is has no cell
pub none_there : (q : CellPlace) (cells : List AirCell) → All (λ x. is_at q x ≡ false) (firsts cells) → filter (is_at q) cells ≡ []
none_there q [] h = refl
none_there q (d ∷ rest) h =
    let P : AirCell → Type 0 = λ x. is_at q x ≡ false in
    let here : is_at q d ≡ false = All-head P d (filter (λ x. not (is_at (place_of d) x)) (firsts rest)) h in
    let behind : All P (firsts rest) = all_of_both P (λ x. not (is_at (place_of d) x)) (firsts rest)
    (λ x e. at_same q d x (not-false (is_at (place_of d) x) e) ∙ here)
    (All-tail P d (filter (λ x. not (is_at (place_of d) x)) (firsts rest)) h) in
    rw here (none_there q rest behind)

-- ---- the combined cells

abbrev of_first : List AirCell → AirCell → Mixed
of_first cells x = mixed_of x (cells_with x cells)

-- at the cell's place it is joined
at_place : (cells : List AirCell) (c x : AirCell) → is_at (place_of c) x ≡ true → of_first (cells ++ c ∷ []) x ≡ joined c (of_first cells x)
at_place cells c x h =
    ap (mixed_of x) (filter-append (is_at (place_of x)) cells (c ∷ []) ∙ ap (λ (b : Bool). cells_with x cells ++ cond b (c ∷ []) []) (same_turned (place_of x) (place_of c) ∙ h))
    ∙ mixed_of-last x c (cells_with x cells)

-- elsewhere all stays
at_other : (cells : List AirCell) (c x : AirCell) → is_at (place_of c) x ≡ false → of_first (cells ++ c ∷ []) x ≡ of_first cells x
at_other cells c x h =
    ap (mixed_of x) (filter-append (is_at (place_of x)) cells (c ∷ []) ∙ ap (λ (b : Bool). cells_with x cells ++ cond b (c ∷ []) []) (same_turned (place_of x) (place_of c) ∙ h)
    ∙ append-nil (cells_with x cells))

-- the first cell of a place opens its combined cell
at_first : (cells : List AirCell) (c : AirCell) → All (λ x. is_at (place_of c) x ≡ false) (firsts cells) → of_first (cells ++ c ∷ []) c ≡ joined c (opened c)
at_first cells c none =
    at_place cells c c (same_itself (place_of c)) ∙ ap (joined c) (ap (mixed_of c) (none_there (place_of c) cells none) ∙ mixed_of-none c)

others_stay : (cells : List AirCell) (c : AirCell) (xs : List AirCell) → All (λ x. is_at (place_of c) x ≡ false) xs → map (of_first (cells ++ c ∷ [])) xs ≡ map (of_first cells) xs
others_stay cells c [] h = refl
others_stay cells c (x ∷ xs) h =
    let P : AirCell → Type 0 = λ y. is_at (place_of c) y ≡ false in
    ap₂ (λ (m : Mixed) (ms : List Mixed). m ∷ ms) (at_other cells c x (All-head P x xs h)) (others_stay cells c xs (All-tail P x xs h))

added_over : (cells : List AirCell) (c : AirCell) (xs : List AirCell) → AllPairs AreApart xs
    → (All (λ x. is_at (place_of c) x ≡ false) xs → of_first (cells ++ c ∷ []) c ≡ joined c (opened c))
    → map (of_first (cells ++ c ∷ [])) (put_first c xs) ≡ added c (map (of_first cells) xs)
added_over cells c [] apart first = ap (λ (m : Mixed). m ∷ []) (first (λ k d lt. absurd (omega arith)))
added_over cells c (x ∷ xs) apart first = go (is_at (place_of c) x) refl (added_over cells c xs behind)
  where
    behind : AllPairs AreApart xs
    behind = λ i j d low high. apart (suc i) (suc j) d (omega (arith, low)) (omega (arith, high))

    from_first : All (λ y. is_at (place_of x) y ≡ false) xs
    from_first = λ k d lt. apart 0 (suc k) d (omega arith) (omega (arith, lt))

    go : (b : Bool) → is_at (place_of c) x ≡ b
        → ((All (λ y. is_at (place_of c) y ≡ false) xs → of_first (cells ++ c ∷ []) c ≡ joined c (opened c))
        → map (of_first (cells ++ c ∷ [])) (put_first c xs) ≡ added c (map (of_first cells) xs))
        → map (of_first (cells ++ c ∷ [])) (cond b (x ∷ xs) (x ∷ put_first c xs)) ≡ cond b (joined c (of_first cells x) ∷ map (of_first cells) xs) (of_first cells x ∷ added c (map (of_first cells) xs))
    go true at rest =
        let away : All (λ y. is_at (place_of c) y ≡ false) xs = subst (λ (p : CellPlace). All (λ y. is_same p (place_of y) ≡ false) xs) (sym (same_is (place_of c) (place_of x) at)) from_first in
        ap₂ (λ (m : Mixed) (ms : List Mixed). m ∷ ms) (at_place cells c x at) (others_stay cells c xs away)
    go false at rest =
        ap₂ (λ (m : Mixed) (ms : List Mixed). m ∷ ms) (at_other cells c x at)
        (rest (λ none. first (All-cons (λ y. is_at (place_of c) y ≡ false) x xs at none)))

-- what the definition says of one cell more
pub combined-last : (cells : List AirCell) (c : AirCell) → combined (cells ++ c ∷ []) ≡ added c (combined cells)
combined-last cells c =
    ap (map (of_first (cells ++ c ∷ []))) (firsts-last cells c) ∙ added_over cells c (firsts cells) (firsts_apart cells) (at_first cells c)

-- ---- room for one more

room_at : (cells : List AirCell) (c x : AirCell) → Follows cells c → is_at (place_of c) x ≡ true → (of_first cells x).units < 8
room_at cells c x f at =
    let own = cells_with x cells in
    let most : count_by has_samples own ≤ length own = count_by-le-length has_samples own in
    let so_many : length own ≡ count_by (is_at (place_of x)) cells = length-filter (is_at (place_of x)) cells in
    let few : count_by (is_at (place_of x)) cells < 8 = subst (λ (p : CellPlace). count_by (is_at p) cells < 8) (same_is (place_of c) (place_of x) at) f.room in
    omega (arith, most, so_many, few)

all_true : (a b c d : Bool) → a ≡ true → b ≡ true → c ≡ true → d ≡ true → IsTrue (a && (b && (c && d)))
all_true a b c d e f g h = rw (e, f, g, h) refl

joins : (cells : List AirCell) (c x : AirCell) → Follows cells c → (IsTrue (is_at (place_of c) x) → AgreeIn c x) → MayJoin c (of_first cells x)
joins cells c x f agrees = λ at.
    let same = agrees at in
    all_true (nat_lt (of_first cells x).units 8) (int_eq c.at.0 x.at.0) (c.section == x.section) (c.mask == x.mask)
    (less (of_first cells x).units (room_at cells c x f at)) (ap (λ (t : Ticks). int_eq c.at.0 t.0) (sym same.at) ∙ int_own c.at.0) (eq-eqb c.section x.section same.section) (eq-eqb c.mask x.mask same.mask)
  where
    less : (n : ℕ) → n < 8 → nat_lt n 8 ≡ true
    less n h = grind (arith, nat_tests, h)

joins_over : (cells : List AirCell) (c : AirCell) (xs : List AirCell) → Follows cells c → All (λ x. IsTrue (is_at (place_of c) x) → AgreeIn c x) xs → All (MayJoin c) (map (of_first cells) xs)
joins_over cells c [] f h = λ k d lt. absurd (omega arith)
joins_over cells c (x ∷ xs) f h =
    let P : AirCell → Type 0 = λ y. IsTrue (is_at (place_of c) y) → AgreeIn c y in
    All-cons (MayJoin c) (of_first cells x) (map (of_first cells) xs) (joins cells c x f (All-head P x xs h)) (joins_over cells c xs f (All-tail P x xs h))

-- what holds of all holds of those that are kept
all_kept : (P : AirCell → Type 0) (p : AirCell → Bool) (xs : List AirCell) → All P xs → All P (filter p xs)
all_kept P p [] h = h
all_kept P p (x ∷ xs) h = go (p x) (all_kept P p xs (All-tail P x xs h))
  where
    go : (b : Bool) → All P (filter p xs) → All P (cond b (x ∷ filter p xs) (filter p xs))
    go true rest = All-cons P x (filter p xs) (All-head P x xs h) rest
    go false rest = rest

-- and of the firsts
all_firsts : (P : AirCell → Type 0) (cells : List AirCell) → All P cells → All P (firsts cells)
all_firsts P [] h = h
all_firsts P (d ∷ rest) h = All-cons P d _ (All-head P d rest h) (all_kept P (other_place d) (firsts rest) (all_firsts P rest (All-tail P d rest h)))

-- a cell that may follow may be joined
pub may_joins : (ms : List Mixed) (cells : List AirCell) (c : AirCell) → Stands ms cells → Follows cells c → All (MayJoin c) ms
may_joins ms cells c stands f =
    subst (λ (xs : List Mixed). All (MayJoin c) xs) (sym stands)
    (joins_over cells c (firsts cells) f (all_firsts (λ x. IsTrue (is_at (place_of c) x) → AgreeIn c x) cells f.agrees))

pub joined_all : (c : AirCell) (ms : List Mixed) → All (MayJoin c) ms → joined_at c ms ≡ added c ms
joined_all c [] h = refl
joined_all c (m ∷ ms) h = go (is_mixed_at (place_of c) m) (may_join c m) (All-head (MayJoin c) m ms h) (joined_all c ms (All-tail (MayJoin c) m ms h))
  where
    go : (b may : Bool) → (b ≡ true → may ≡ true) → joined_at c ms ≡ added c ms
        → cond b (cond may (joined c m) m ∷ ms) (m ∷ joined_at c ms) ≡ cond b (joined c m ∷ ms) (m ∷ added c ms)
    go true true h rest = refl
    go true false h rest = let bad = h refl in cc
    go false may h rest = ap (λ (xs : List Mixed). m ∷ xs) rest

-- so one more cell that may follow is one more in the definition
pub joined_at-same : (ms : List Mixed) (cells others : List AirCell) (c : AirCell) → Stands ms cells → Follows cells c → Stands ms others → Stands (joined_at c ms) (others ++ c ∷ [])
joined_at-same ms cells others c stands f same = joined_all c ms (may_joins ms cells c stands f) ∙ ap (added c) same ∙ sym (combined-last others c)

-- ---- a place that no combined cell has

none_over : (cells : List AirCell) (c : AirCell) (xs : List AirCell) → index_of (place_of c) (map (of_first cells) xs) ≡ None → All (λ x. is_at (place_of c) x ≡ false) xs
none_over cells c [] h = λ k d lt. absurd (omega arith)
none_over cells c (x ∷ xs) h = go (is_at (place_of c) x) (index_of (place_of c) (map (of_first cells) xs)) refl h (none_over cells c xs)
  where
    go : (b : Bool) (o : Option ℕ) → is_at (place_of c) x ≡ b → cond b (Some 0) (option_map suc o) ≡ None
        → (o ≡ None → All (λ y. is_at (place_of c) y ≡ false) xs) → All (λ y. is_at (place_of c) y ≡ false) (x ∷ xs)
    go true o at h rest = cc
    go false None at h rest = All-cons (λ y. is_at (place_of c) y ≡ false) x xs at (rest refl)
    go false (Some k) at h rest = cc

-- has no cell either
pub none_with : (ms : List Mixed) (cells : List AirCell) (c : AirCell) → Stands ms cells → index_of (place_of c) ms ≡ None → cells_with c cells ≡ []
none_with ms cells c stands h =
    none_there (place_of c) cells (none_over cells c (firsts cells) (ap (index_of (place_of c)) (sym stands) ∙ h))
