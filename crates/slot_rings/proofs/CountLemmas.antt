-- How many flags are set, and how many uplink sections the places hold.
use Rattle.std.proofs.Common.{◌≡◌, ℕ, zero, suc, ◌+◌, ◌-◌, ◌*◌, ◌<◌, ◌≤◌, inl, inr, Bool, true, false, List, [], ◌∷◌, length, length-set, map, replicate, get_or, set, refl, ap, sym, ◌∙◌, subst, arith}
use Rattle.std.specs.Prelude.{All}
use Rattle.std.proofs.lemmas.Bool.{cases_Bool}
use Rattle.std.proofs.lemmas.List.{get_or-map, get_or_read, length-replicate, map-set}
use Rattle.std.proofs.lemmas.List.Elements.{All-get_or, All-replicate, All-set, All-weaker}
use Rattle.std.proofs.lemmas.List.Folds.{sum_by-replicate}
use Rattle.std.proofs.lemmas.List.Sums.{get_or-le-sum_by, sum_by-cons, sum_by-le, sum_by-set}
use Rattle.fh_base.specs.declared.values.Slot.{Slot}
use Rattle.unit_model.specs.declared.allocations.Allocation.{Allocation}
use Rattle.slot_rings.specs.Counts.{AreCounted, HasSections, as_number, uplink_sections_in, set_in, set_of}
use Rattle.slot_rings.specs.Places.{PlaceValue, blank, is_place_of}
use Rattle.slot_rings.specs.Rings.{IsRing, RingValue, place_index, place_of, ring_uplink}
use Rattle.slot_rings.proofs.RingLemmas.{index_within, put}
use Rattle.unit_model.specs.declared.uplink.TheConstants.{SLOT_SECTIONS}
use Rattle.fh_base.specs.declared.symbols.TheConstants.{SLOT_SYMBOLS}

-- ---- flags

one_most : (set : Bool) → as_number set ≤ 1
one_most true = omega arith
one_most false = omega arith

row_most : (row : List Bool) → set_of row ≤ length row
row_most [] = omega arith
row_most (x ∷ xs) = omega (arith, sum_by-cons as_number x xs, one_most x, row_most xs)

pub set_most : (flags : List (List Bool)) → All (λ row. length row ≡ SLOT_SYMBOLS) flags → set_in flags ≤ length flags * SLOT_SYMBOLS
set_most flags rows = sum_by-le set_of SLOT_SYMBOLS flags (All-weaker (λ row. length row ≡ SLOT_SYMBOLS) (λ row. set_of row ≤ SLOT_SYMBOLS) (λ row is. omega (arith, row_most row, is)) flags rows)

-- the number of a place is how many of its flags are set
place_is : (flags : List (List Bool)) (places : List ℕ) (count i : ℕ) (row : List Bool) (n : ℕ) → AreCounted flags places count → i < length flags
    → n ≡ get_or places i n → n ≡ set_of (get_or flags i row)
place_is flags places count i row n a within place = place ∙ ap (λ (l : List ℕ). get_or l i n) a.each ∙ get_or-map set_of flags i row n within

-- another row of flags in a place
counted_put : (flags : List (List Bool)) (places : List ℕ) (count c i : ℕ) (row new : List Bool) (n m : ℕ) → AreCounted flags places count → i < length flags
    → row ≡ get_or flags i row → n ≡ get_or places i n → length new ≡ SLOT_SYMBOLS → m ≡ set_of new → c + n ≡ count + m → AreCounted (set flags i new) (set places i m) c
counted_put flags places count c i row new n m a within read place len is moved = record {
  few = omega (arith, length-set flags i new, a.few);
  rows = All-set (λ row. length row ≡ SLOT_SYMBOLS) flags i new len a.rows;
  each = ap (λ (l : List ℕ). set l i m) a.each ∙ ap (λ (k : ℕ). set (map set_of flags) i k) is ∙ sym (map-set set_of flags i new);
  number = omega (arith, sum_by-set set_of flags i new row within, place_is flags places count i row n a within place, moved, a.number, is);
}

-- none is set of any place
pub counted_none : (n : ℕ) (row : List Bool) → n < 1024 → length row ≡ SLOT_SYMBOLS → set_of row ≡ 0 → AreCounted (replicate n row) (replicate n 0) 0
counted_none n row few len none = record {
  few = omega (arith, length-replicate n row, few);
  rows = All-replicate (λ row. length row ≡ SLOT_SYMBOLS) n row len;
  each = each n;
  number = sym (sum_by-replicate set_of n row ∙ none_of n none);
}
  where
    each : (n : ℕ) → replicate n 0 ≡ map set_of (replicate n row)
    each zero = refl
    each (suc n) = rw (none, each n) refl

    none_of : (n : ℕ) {m : ℕ} → m ≡ 0 → n * m ≡ 0
    none_of n e = rw e (omega arith)

row_of : (flags : List (List Bool)) (places : List ℕ) (count i : ℕ) (row : List Bool) → AreCounted flags places count → i < length flags
    → row ≡ get_or flags i row → length row ≡ SLOT_SYMBOLS
row_of flags places count i row a within read = ap length read ∙ All-get_or (λ row. length row ≡ SLOT_SYMBOLS) flags i row within a.rows

pub place_few : (flags : List (List Bool)) (places : List ℕ) (count i : ℕ) (row : List Bool) (n : ℕ) → AreCounted flags places count → i < length flags
    → row ≡ get_or flags i row → n ≡ get_or places i n → n ≤ SLOT_SYMBOLS
place_few flags places count i row n a within read place =
    omega (arith, place_is flags places count i row n a within place, ap set_of read, row_most row, row_of flags places count i row a within read)

-- a flag is set that was not, or cleared that was set
pub counted_more : (flags : List (List Bool)) (places : List ℕ) (count i : ℕ) (row : List Bool) (s n : ℕ) → AreCounted flags places count → i < length flags
    → row ≡ get_or flags i row → n ≡ get_or places i n → s < SLOT_SYMBOLS → get_or row s false ≡ false
    → AreCounted (set flags i (set row s true)) (set places i (n + 1)) (count + 1)
counted_more flags places count i row s n a within read place below off =
    let len = row_of flags places count i row a within read in
    let one : set_of (set row s true) + as_number (get_or row s false) ≡ set_of row + 1 = sum_by-set as_number row s true false (omega (arith, len, below)) in
    let all : n ≡ set_of row = place_is flags places count i row n a within place ∙ sym (ap set_of read) in
    counted_put flags places count (count + 1) i row (set row s true) n (n + 1) a within read place (omega (arith, length-set row s true, len))
    (omega (arith, one, all, ap as_number off)) (omega arith)

pub counted_less : (flags : List (List Bool)) (places : List ℕ) (count i : ℕ) (row : List Bool) (s n : ℕ) → AreCounted flags places count → i < length flags
    → row ≡ get_or flags i row → n ≡ get_or places i n → s < SLOT_SYMBOLS → get_or row s false ≡ true
    → AreCounted (set flags i (set row s false)) (set places i (n - 1)) (count - 1)
counted_less flags places count i row s n a within read place below on =
    let len = row_of flags places count i row a within read in
    let one : set_of (set row s false) + as_number (get_or row s false) ≡ set_of row + 0 = sum_by-set as_number row s false false (omega (arith, len, below)) in
    let all : n ≡ set_of row = place_is flags places count i row n a within place ∙ sym (ap set_of read) in
    let some = get_or-le-sum_by set_of flags i row within in
    counted_put flags places count (count - 1) i row (set row s false) n (n - 1) a within read place (omega (arith, length-set row s false, len))
    (omega (arith, one, all, ap as_number on)) (omega (arith, one, all, ap as_number on, some, ap set_of read, a.number))

-- ---- uplink sections

-- those of a place are some of all, and all are less than fit a number
pub place_most : (r : RingValue) (n i : ℕ) (p : PlaceValue) → HasSections r n → i < length r.places → p ≡ get_or r.places i p → uplink_sections_in p ≤ n
place_most r n i p has within read =
    let one = get_or-le-sum_by uplink_sections_in r.places i p within in
    omega (arith, one, ap uplink_sections_in read, has.number)

pub sections_most : (r : RingValue) (n : ℕ) → HasSections r n → length r.places < 1024 → n < 65536
sections_most r n has few = omega (arith, sum_by-le uplink_sections_in SLOT_SECTIONS r.places has.few, has.number, few)

-- another place at an index
pub sections_put : (r : RingValue) (n m i : ℕ) (p q : PlaceValue) → HasSections r n → i < length r.places → p ≡ get_or r.places i p → uplink_sections_in q ≤ SLOT_SECTIONS
    → m + uplink_sections_in p ≡ n + uplink_sections_in q → HasSections (put r i q) m
sections_put r n m i p q has within read few moved = record {
  few = All-set (λ x. uplink_sections_in x ≤ SLOT_SECTIONS) r.places i q few has.few;
  number = omega (arith, sum_by-set uplink_sections_in r.places i q p within, ap uplink_sections_in read, has.number, moved);
}

-- one that holds the same
pub sections_kept : (r : RingValue) (n i : ℕ) (p q : PlaceValue) → HasSections r n → i < length r.places → p ≡ get_or r.places i p → q.uplink ≡ p.uplink
    → HasSections (put r i q) n
sections_kept r n i p q has within read same =
    let few = All-get_or (λ x. uplink_sections_in x ≤ SLOT_SECTIONS) r.places i p within has.few in
    let still : uplink_sections_in q ≡ uplink_sections_in p = ap (λ (l : List Allocation). length l) same in
    sections_put r n n i p q has within read (omega (arith, few, still, ap uplink_sections_in read)) (omega (arith, still))

empty_list : (l : List Allocation) → length l ≡ 0 → l ≡ []
empty_list [] e = refl
empty_list (x ∷ xs) e = absurd (omega (arith, e))

pub none_held : (r : RingValue) (slot : Slot) → IsRing r → HasSections r 0 → ring_uplink r slot ≡ []
none_held r slot ring has =
    let one = get_or-le-sum_by uplink_sections_in r.places (place_index r slot) blank (index_within r slot ring.some) in
    let none : (place_of r slot).uplink ≡ [] = empty_list (place_of r slot).uplink (omega (arith, one, has.number)) in
    elim (cases_Bool (is_place_of (place_of r slot).slot slot)) [
      | inl own ↦ rw own none
      | inr other ↦ rw other refl
    ]

-- none in a place
pub none_held_at : (r v : RingValue) (slot : Slot) (i : ℕ) (p : PlaceValue) → r ≡ v → i < length r.places → p ≡ get_or r.places i p → place_index v slot ≡ i
    → length p.uplink ≡ 0 → ring_uplink v slot ≡ []
none_held_at r v slot i p same within read at none = subst (λ (x : RingValue). ring_uplink x slot ≡ []) same (elim (cases_Bool (is_place_of (place_of r slot).slot slot)) [
  | inl own ↦ rw own held
  | inr other ↦ rw other refl
])
  where
    here : place_of r slot ≡ p
    here =
        ap (λ (k : ℕ). get_or r.places k blank) (ap (λ (x : RingValue). place_index x slot) same ∙ at)
        ∙ sym (get_or_read r.places i p within read blank)

    held : (place_of r slot).uplink ≡ []
    held = ap (λ (x : PlaceValue). x.uplink) here ∙ empty_list p.uplink none
