-- Units that report the same bare cells, none twice: at most one cell of each is at a place, and those of one place agree.
use Rattle.std.proofs.Common.{◌≡◌, ◌==◌, ◌&&◌, IsTrue, ℕ, ◌+◌, ◌≤◌, Bool, true, false, cond, List, [], ◌∷◌, map, count_by, refl, ap, ap₂, sym, ◌∙◌, subst, arith}
use Rattle.std.specs.List.{AllByRecursion}
use Rattle.std.specs.Ordering.{int_eq}
use Rattle.std.proofs.lemmas.Bool.{eq-eqb}
use Rattle.std.proofs.lemmas.List.Elements.{recursion_from_All}
use Rattle.std.proofs.lemmas.List.Sums.{sum_by-append}
use Rattle.air_source.specs.declared.events.AirCell.{AirCell}
use Rattle.air_source.specs.declared.events.Side.{Side}
use Rattle.air_source.specs.declared.events.Side.TheVariants.{Du}
use Rattle.air_source.specs.Units.{is_down}
use Rattle.shared_laws.specs.Bare.{bare}
use Rattle.fh_base.proofs.Orders.{int_own}
use Rattle.shared_laws.specs.Layers.{AreAlike, AreDistinct}
use Rattle.shared_cell.specs.Combined.{AgreeIn}
use Rattle.shared_cell.specs.Places.{is_at, is_same, place_of}
use Rattle.shared_cell.specs.declared.places.CellPlace.{CellPlace}
use Rattle.shared_cell.proofs.Same.{same_is, same_turned}
use Rattle.unit_model.specs.Claims.{same_slot, same_way}
use Rattle.unit_model.specs.Standing.{AreDifferent, same_cell}
use Rattle.fh_base.proofs.OrderedLemmas.{cons_first as heads}

-- the same bare cells in the same order
abbrev pub AreBare : List AirCell → List AirCell → Type 0
AreBare xs ys = map bare xs ≡ map bare ys

same_place : (c d : AirCell) → bare c ≡ bare d → place_of c ≡ place_of d
same_place c d h = ap (λ (x : AirCell). place_of x) h

pub bare_alike : (xs ys : List AirCell) → AreBare xs ys → AreAlike xs ys
bare_alike [] [] h = refl
bare_alike [] (y ∷ ys) h = absurd (cc)
bare_alike (x ∷ xs) [] h = absurd (cc)
bare_alike (x ∷ xs) (y ∷ ys) h =
    let w = heads (bare x) (bare y) (map bare xs) (map bare ys) h in
    ap₂ (λ (p : CellPlace) (ps : List CellPlace). p ∷ ps) (sym (same_place x y w.0)) (bare_alike xs ys w.1)

-- ---- none twice

true_all : (a b c d e : Bool) → a ≡ true → b ≡ true → c ≡ true → d ≡ true → e ≡ true → (a && (b && (c && (d && e)))) ≡ true
true_all a b c d e f g h i j = rw (f, g, h, i, j) refl

slot_own : (p q : CellPlace) → p ≡ q → (int_eq p.frame q.frame && ((p.subframe == q.subframe) && (p.slot == q.slot))) ≡ true
slot_own p q e =
    rw (ap (λ (t : CellPlace). int_eq p.frame t.frame) (sym e) ∙ int_own p.frame, eq-eqb p.subframe q.subframe (ap (λ (t : CellPlace). t.subframe) e), eq-eqb p.slot q.slot (ap (λ (t : CellPlace). t.slot) e)) refl

both_up : (a b : Side) → a ≡ Du → b ≡ Du → same_way (is_down a) (is_down b) ≡ true
both_up a b e f = ap₂ (λ (x y : Side). same_way (is_down x) (is_down y)) e f

same_then : (a b : AirCell) → a.side ≡ Du → b.side ≡ Du → place_of a ≡ place_of b → same_cell a b ≡ true
same_then a b e f h =
    true_all (same_way (is_down a.side) (is_down b.side)) (a.id == b.id) (same_slot a.slot b.slot) (a.symbol == b.symbol) (a.prb == b.prb)
    (both_up a.side b.side e f) (eq-eqb a.id b.id (ap (λ (t : CellPlace). t.id) h)) (slot_own (place_of a) (place_of b) h)
    (eq-eqb a.symbol b.symbol (ap (λ (t : CellPlace). t.symbol) h)) (eq-eqb a.prb b.prb (ap (λ (t : CellPlace). t.prb) h))

two_places : (a b : AirCell) → a.side ≡ Du → b.side ≡ Du → same_cell a b ≡ false → is_same (place_of a) (place_of b) ≡ false
two_places a b e f other = go (is_same (place_of a) (place_of b)) refl
  where
    go : (t : Bool) → is_same (place_of a) (place_of b) ≡ t → is_same (place_of a) (place_of b) ≡ false
    go true is = let own = same_then a b e f (same_is (place_of a) (place_of b) is) in cc
    go false is = is

all_apart : (a : AirCell) (xs : List AirCell) → a.side ≡ Du → AllByRecursion (λ c. c.side ≡ Du) xs → AllByRecursion (λ b. same_cell a b ≡ false) xs → AllByRecursion (λ d. is_same (place_of a) (place_of d) ≡ false) xs
all_apart a [] e du h = tt
all_apart a (x ∷ xs) e du h = (two_places a x e du.0 h.0, all_apart a xs e du.1 h.1)

pub distinct : (xs : List AirCell) → AllByRecursion (λ c. c.side ≡ Du) xs → AreDifferent xs → AreDistinct xs
distinct [] du h = tt
distinct (a ∷ xs) du h = (all_apart a xs du.0 du.1 (recursion_from_All (λ b. same_cell a b ≡ false) xs h.0), distinct xs du.1 h.1)

-- ---- those of one place

-- with two lists of the same places: none of the one is at a place of which none of the other is
moved_apart : (p : CellPlace) (xs ys : List AirCell) → AreBare xs ys → AllByRecursion (λ x. is_same p (place_of x) ≡ false) xs → AllByRecursion (λ y. is_same p (place_of y) ≡ false) ys
moved_apart p xs [] h apart = tt
moved_apart p [] (y ∷ ys) h apart = absurd (cc)
moved_apart p (x ∷ xs) (y ∷ ys) h apart =
    let w = heads (bare x) (bare y) (map bare xs) (map bare ys) h in
    (ap (is_same p) (sym (same_place x y w.0)) ∙ apart.0, moved_apart p xs ys w.1 apart.1)

abbrev pub Agrees : AirCell → AirCell → Type 0
Agrees c d = IsTrue (is_at (place_of c) d) → AgreeIn c d

agrees : (c d : AirCell) → bare c ≡ bare d → Agrees c d
agrees c d h = λ at. record { at = ap (λ (x : AirCell). x.at) h; section = ap (λ (x : AirCell). x.section) h; mask = ap (λ (x : AirCell). x.mask) h }

elsewhere : (c d : AirCell) → is_same (place_of c) (place_of d) ≡ false → Agrees c d
elsewhere c d other = λ at. absurd (let both : true ≡ false = sym at ∙ other in cc)

all_elsewhere : (c : AirCell) (ys : List AirCell) → AllByRecursion (λ y. is_same (place_of c) (place_of y) ≡ false) ys → AllByRecursion (Agrees c) ys
all_elsewhere c [] h = tt
all_elsewhere c (y ∷ ys) h = (elsewhere c y h.0, all_elsewhere c ys h.1)

-- one more cell of which the others are apart
one_before : (x y : AirCell) (xs ys : List AirCell) → bare x ≡ bare y → AllByRecursion (λ c. is_same (place_of x) (place_of c) ≡ false) xs
    → AllByRecursion (λ c. AllByRecursion (Agrees c) ys) xs → AllByRecursion (λ c. AllByRecursion (Agrees c) (y ∷ ys)) xs
one_before x y [] ys h apart rest = tt
one_before x y (c ∷ xs) ys h apart rest =
    ((elsewhere c y (ap (is_same (place_of c)) (sym (same_place x y h)) ∙ same_turned (place_of c) (place_of x) ∙ apart.0), rest.0), one_before x y xs ys h apart.1 rest.1)

-- a cell of the one agrees with each cell of the other at its place
pub all_agree : (xs ys : List AirCell) → AreBare xs ys → AreDistinct xs → AllByRecursion (λ c. AllByRecursion (Agrees c) ys) xs
all_agree [] ys h apart = tt
all_agree (x ∷ xs) [] h apart = absurd (cc)
all_agree (x ∷ xs) (y ∷ ys) h apart =
    let w = heads (bare x) (bare y) (map bare xs) (map bare ys) h in
    ((agrees x y w.0, all_elsewhere x ys (moved_apart (place_of x) xs ys w.1 apart.0)), one_before x y xs ys w.0 apart.0 (all_agree xs ys w.1 apart.1))

-- ---- how many are at a place

none_at : (p : CellPlace) (xs : List AirCell) → AllByRecursion (λ x. is_same p (place_of x) ≡ false) xs → count_by (is_at p) xs ≡ 0
none_at p [] h = refl
none_at p (x ∷ xs) h = let rest = none_at p xs h.1 in rw h.0 (omega (arith, rest))

first_counts : (p : CellPlace) (x : AirCell) (xs : List AirCell) → count_by (is_at p) (x ∷ xs) ≡ cond (is_at p x) 1 0 + count_by (is_at p) xs
first_counts p x xs = let both = sum_by-append (λ (c : AirCell). cond (is_at p c) 1 0) (x ∷ []) xs in omega (arith, both)

pub at_most_one : (p : CellPlace) (xs : List AirCell) → AreDistinct xs → count_by (is_at p) xs ≤ 1
at_most_one p [] h = omega arith
at_most_one p (x ∷ xs) h = subst (λ (n : ℕ). n ≤ 1) (sym (first_counts p x xs)) (go (is_same p (place_of x)) refl (at_most_one p xs h.1))
  where
    go : (b : Bool) → is_same p (place_of x) ≡ b → count_by (is_at p) xs ≤ 1 → cond b 1 0 + count_by (is_at p) xs ≤ 1
    go true at few =
        let none : count_by (is_at p) xs ≡ 0 = none_at p xs (subst (λ (q : CellPlace). AllByRecursion (λ y. is_same q (place_of y) ≡ false) xs) (sym (same_is p (place_of x) at)) h.0) in
        omega (arith, none)
    go false at few = omega (arith, few)
