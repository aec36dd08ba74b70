-- The cells of several units may be added one after the other: no unit has two of one place.
use Rattle.std.proofs.Common.{◌≡◌, ℕ, zero, suc, ◌+◌, ◌<◌, ◌≤◌, ◌/◌, ◌%◌, Bool, true, false, cond, IsTrue, List, [], ◌∷◌, ◌++◌, All, refl, ap, sym, ◌∙◌, subst, arith, append_assoc, count_by}
use Rattle.std.proofs.lemmas.List.Elements.{All-nil, All-append, All-push}
use Rattle.std.proofs.lemmas.List.Sums.{sum_by-append}
use Rattle.air_source.specs.declared.events.AirCell.{AirCell}
use Rattle.shared_cell.specs.declared.places.CellPlace.{CellPlace}
use Rattle.shared_cell.specs.declared.values.Mixed.{Mixed}
use Rattle.shared_cell.specs.Places.{place_of, is_same, is_at}
use Rattle.shared_cell.specs.Combined.{Stands, AgreeIn, MayAdd, combined}
use Rattle.shared_cell.proofs.Same.{same_is}
use Rattle.bench_units.specs.Cells.{cell_of, first_cells, units_of}
use Rattle.fh_base.proofs.Orders.{pos_same}

-- a place is that of one cell
pub one_place : (i k : ℕ) → IsTrue (is_same (place_of (cell_of i)) (place_of (cell_of k))) → i ≡ k
one_place i k same =
    let is = same_is (place_of (cell_of i)) (place_of (cell_of k)) same in
    let prb : i % 106 ≡ k % 106 = ap (λ (p : CellPlace). p.prb) is in
    let symbol : i / 106 % 14 ≡ k / 106 % 14 = ap (λ (p : CellPlace). p.symbol) is in
    let slot : i / 1484 % 2 ≡ k / 1484 % 2 = ap (λ (p : CellPlace). p.slot) is in
    let subframe : i / 2968 % 10 ≡ k / 2968 % 10 = ap (λ (p : CellPlace). p.subframe) is in
    let frame : i / 29680 ≡ k / 29680 = pos_same (i / 29680) (k / 29680) (ap (λ (p : CellPlace). p.frame) is) in
    omega (arith, prb, symbol, slot, subframe, frame)

-- how many of some cells have the place of cell k
abbrev held : ℕ → List AirCell → ℕ
held k cells = count_by (is_at (place_of (cell_of k))) cells

held-append : (k : ℕ) (xs ys : List AirCell) → held k (xs ++ ys) ≡ held k xs + held k ys
held-append k xs ys = sum_by-append (λ x. cond (is_at (place_of (cell_of k)) x) 1 0) xs ys

-- none before the k-th
none_before : (k n : ℕ) → n ≤ k → held k (first_cells n) ≡ 0
none_before k zero less = refl
none_before k (suc n) less = go (is_at (place_of (cell_of k)) (cell_of n)) refl (none_before k n (omega (arith, less)))
  where
    step : held k (first_cells (suc n)) ≡ held k (first_cells n) + held k (cell_of n ∷ [])
    step = held-append k (first_cells n) (cell_of n ∷ [])

    go : (b : Bool) → is_at (place_of (cell_of k)) (cell_of n) ≡ b → held k (first_cells n) ≡ 0 → held k (first_cells (suc n)) ≡ 0
    go true e before = let same = one_place k n e in omega (arith, same, less)
    go false e before = let one : held k (cell_of n ∷ []) ≡ 0 = ap (λ (b : Bool). 0 + cond b 1 0) e in omega (arith, before, step, one)

-- at most one of a unit
one_of : (k n : ℕ) → held k (first_cells n) ≤ 1
one_of k zero = omega arith
one_of k (suc n) = go (is_at (place_of (cell_of k)) (cell_of n)) refl (one_of k n)
  where
    step : held k (first_cells (suc n)) ≡ held k (first_cells n) + held k (cell_of n ∷ [])
    step = held-append k (first_cells n) (cell_of n ∷ [])

    go : (b : Bool) → is_at (place_of (cell_of k)) (cell_of n) ≡ b → held k (first_cells n) ≤ 1 → held k (first_cells (suc n)) ≤ 1
    go true e before =
        let same = one_place k n e in
        let none = none_before k n (omega (arith, same)) in
        let one : held k (cell_of n ∷ []) ≡ 1 = ap (λ (b : Bool). 0 + cond b 1 0) e in
        omega (arith, none, step, one)
    go false e before = let one : held k (cell_of n ∷ []) ≡ 0 = ap (λ (b : Bool). 0 + cond b 1 0) e in omega (arith, before, step, one)

-- at most one of each unit
few_of : (k units count : ℕ) → held k (units_of units count) ≤ units
few_of k zero count = omega arith
few_of k (suc units) count = omega (arith, few_of k units count, one_of k count, held-append k (units_of units count) (first_cells count))

abbrev Agrees : ℕ → AirCell → Type 0
Agrees k d = IsTrue (is_at (place_of (cell_of k)) d) → AgreeIn (cell_of k) d

-- all have one time, section and mask
first_agree : (k n : ℕ) → All (Agrees k) (first_cells n)
first_agree k zero = All-nil (Agrees k)
first_agree k (suc n) = All-push (Agrees k) (first_cells n) (cell_of n) (first_agree k n) (λ _. record { at = refl; section = refl; mask = refl })

units_agree : (k units count : ℕ) → All (Agrees k) (units_of units count)
units_agree k zero count = All-nil (Agrees k)
units_agree k (suc units) count = All-append (Agrees k) (units_of units count) (first_cells count) (units_agree k units count) (first_agree k count)

pub may_add : (mixer : List Mixed) (units count k : ℕ) (c : AirCell) → c ≡ cell_of k → units < 7 → Stands mixer (units_of units count ++ first_cells k) → MayAdd mixer c
may_add mixer units count k c is few stands = subst (λ (x : AirCell). MayAdd mixer x) (sym is) (record {
  cells = units_of units count ++ first_cells k;
  stands = stands;
  follows = record {
    side = refl;
    room = omega (arith, few, few_of k units count, one_of k k, held-append k (units_of units count) (first_cells k));
    agrees = All-append (Agrees k) (units_of units count) (first_cells k) (units_agree k units count) (first_agree k k);
  };
})

pub next_cells : (n : ℕ) → first_cells (n + 1) ≡ first_cells n ++ cell_of n ∷ []
next_cells n = let is : n + 1 ≡ suc n = omega arith in ap first_cells is

pub more_cells : (mixer : List Mixed) (units count k : ℕ) (c : AirCell) → c ≡ cell_of k → Stands mixer ((units_of units count ++ first_cells k) ++ c ∷ []) → Stands mixer (units_of units count ++ first_cells (k + 1))
more_cells mixer units count k c is stands =
    subst (λ (x : AirCell). Stands mixer ((units_of units count ++ first_cells k) ++ x ∷ [])) is stands
    ∙ ap combined (append_assoc (units_of units count) (first_cells k) (cell_of k ∷ []) ∙ ap (λ (xs : List AirCell). units_of units count ++ xs) (sym (next_cells k)))
