-- The cells of a symbol that were told, set as reported.
use Rattle.std.proofs.Common.{◌≡◌, ◌≢◌, ℕ, zero, suc, ◌+◌, ◌<◌, ◌≤◌, ◌==◌, Bool, true, false, not, ◌&&◌, inl, inr, List, [], ◌∷◌, refl, sym, ap, ap₂, ◌∙◌, arith}
use Rattle.std.specs.Prelude.{◌||◌}
use Rattle.std.specs.List.{list_any}
use Rattle.std.proofs.lemmas.Bool.{and_from, and_parts, cases_Bool, cases_eq, cases_lt, eq-eqb, eqb-true, ne_eqb, and_left}
use Rattle.std.proofs.lemmas.List.Folds.{list_any-append}
use Rattle.fh_base.specs.declared.values.Slot.{Slot}
use Rattle.air_source.specs.declared.events.AirCell.{AirCell}
use Rattle.air_source.specs.declared.events.Side.TheVariants.{Ru}
use Rattle.unit_model.specs.Claims.{cell_at, same_slot}
use Rattle.fh_base.specs.Lists.{each}
use Rattle.unit_model.specs.Radiated.{air_cell, used_mask}
use Rattle.unit_model.specs.declared.cells.Cell.{Cell}
use Rattle.unit_model.specs.declared.symbol_start.SymbolStart.{SymbolStart}
use Rattle.slot_rings.specs.Places.{is_in_use}
use Rattle.unit_cells.specs.Cells.{CellsValue, IsCellIn, cells_block, cells_claim, cells_reported}
use Rattle.unit_symbols.specs.DueSymbols.{cell_in, is_told, left_told}
use Rattle.unit_symbols.specs.Symbols.{IsSymbol}
use Rattle.unit_model.proofs.ClaimLemmas.{same_slot_is as slot_is, slot_self as slot_own}
use Rattle.fh_base.proofs.Orders.{or_false, unequal, all_three}

-- ---- tests

or_none : (a b : Bool) → b ≡ false → a ≡ (a || b)
or_none true b e = refl
or_none false b e = sym e

-- a cell that is set as reported if it is in use, and one that is if it is told
same_reported : (reported uses : Bool) → (reported || uses) ≡ (reported || (not reported && uses))
same_reported true uses = refl
same_reported false uses = refl

first_true : (a b : Bool) → a ≡ true → (a && b) ≡ b
first_true true b e = refl
first_true false b e = cc

-- ---- a test of one PRB among the reports of many

any_none : (p : AirCell → Bool) (from n : ℕ) (f : ℕ → List AirCell) → ((j : ℕ) → from ≤ j → j < from + n → list_any p (f j) ≡ false) → list_any p (each from n f) ≡ false
unfolding each
any_none p from zero f none = refl
any_none p from (suc n) f none =
    list_any-append p (f from) (each (from + 1) n f)
    ∙ ap₂ ◌||◌ (none from (omega arith) (omega arith)) (any_none p (from + 1) n f (λ j low high. none j (omega arith) (omega arith)))

any_one : (p : AirCell → Bool) (from n : ℕ) (f : ℕ → List AirCell) (k : ℕ) → from ≤ k → k < from + n → ((j : ℕ) → j ≢ k → list_any p (f j) ≡ false)
    → list_any p (each from n f) ≡ list_any p (f k)
unfolding each
any_one p from zero f k low high others = absurd (omega arith)
any_one p from (suc n) f k low high others = list_any-append p (f from) (each (from + 1) n f) ∙ elim (cases_eq k from) [
  | inl e ↦
      ap₂ ◌||◌ (ap (λ (j : ℕ). list_any p (f j)) (sym e)) (any_none p (from + 1) n f (λ j past within. others j (λ same. omega (arith, past, same, e))))
      ∙ or_false (list_any p (f k))
  | inr ne ↦
      ap₂ ◌||◌ (others from (λ same. ne (sym same))) (any_one p (from + 1) n f k (omega (arith, ne)) (omega arith) others)
]

-- ---- what is told of a cell

pub told_alone : (a : AirCell) (k : ℕ) → a.prb ≡ k → list_any (λ (x : AirCell). x.prb == k) (a ∷ []) ≡ true
told_alone a k e = let f : (a.prb == k) ≡ true = eq-eqb a.prb k e in rw f refl

told_other : (a : AirCell) (prb k : ℕ) → k ≢ prb → a.prb ≡ prb → list_any (λ (x : AirCell). x.prb == k) (a ∷ []) ≡ false
told_other a prb k ne e = let f : (a.prb == k) ≡ false = ne_eqb a.prb k (λ g. ne (sym g ∙ e)) in rw f refl

left_own : (v : CellsValue) (m : SymbolStart) (k : ℕ) → list_any (λ (x : AirCell). x.prb == k) (left_told v m k)
    ≡ (not (cells_reported v (cell_in m k)) && is_in_use (cells_claim v (cell_in m k)))
left_own v m k = elim (cases_Bool (cells_reported v (cell_in m k))) [
  | inl reported ↦ rw reported refl
  | inr fresh ↦ rw fresh (elim (cases_Bool (used_mask (cells_claim v (cell_in m k)) == 0)) [
    | inl idle ↦ rw idle refl
    | inr used ↦ rw used (told_alone (air_cell Ru m.endpoint (cell_in m k) m.start.0 (cells_claim v (cell_in m k)) (cells_block v (cell_in m k))) k refl)
  ])
]

left_elsewhere : (v : CellsValue) (m : SymbolStart) (prb k : ℕ) → k ≢ prb → list_any (λ (x : AirCell). x.prb == k) (left_told v m prb) ≡ false
left_elsewhere v m prb k ne = elim (cases_Bool (cells_reported v (cell_in m prb))) [
  | inl reported ↦ rw reported refl
  | inr fresh ↦ rw fresh (elim (cases_Bool (used_mask (cells_claim v (cell_in m prb)) == 0)) [
    | inl idle ↦ rw idle refl
    | inr used ↦ rw used (told_other (air_cell Ru m.endpoint (cell_in m prb) m.start.0 (cells_claim v (cell_in m prb)) (cells_block v (cell_in m prb))) prb k ne refl)
  ])
]

module _ (v : CellsValue) (m : SymbolStart) (n k : ℕ) where
  told_below : k < n → list_any (λ (x : AirCell). x.prb == k) (each 0 n (left_told v m))
      ≡ (not (cells_reported v (cell_in m k)) && is_in_use (cells_claim v (cell_in m k)))
  told_below below =
      any_one (λ (x : AirCell). x.prb == k) 0 n (left_told v m) k (omega arith) (omega (arith, below)) (λ j ne. left_elsewhere v m j k (λ same. ne (sym same)))
      ∙ left_own v m k

  told_behind : n ≤ k → list_any (λ (x : AirCell). x.prb == k) (each 0 n (left_told v m)) ≡ false
  told_behind behind =
      any_none (λ (x : AirCell). x.prb == k) 0 n (left_told v m) (λ j low high. left_elsewhere v m j k (λ same. omega (arith, same, high, behind)))

-- ---- a cell of the symbol

abbrev of_symbol : SymbolStart → Cell → Bool
of_symbol m cell = (cell.ep == m.ep) && (same_slot cell.slot m.slot && (cell.symbol == m.symbol))

record IsOfSymbol (m : SymbolStart) (cell : Cell) : Type 0 where
  ep_is : cell.ep ≡ m.ep
  slot_is : cell.slot ≡ m.slot
  symbol_is : cell.symbol ≡ m.symbol

of_parts : (m : SymbolStart) (cell : Cell) → of_symbol m cell ≡ true → IsOfSymbol m cell
of_parts m cell own =
    let p = and_parts (cell.ep == m.ep) _ own in
    let q = and_parts (same_slot cell.slot m.slot) _ p.1 in
    record { ep_is = eqb-true _ _ p.0; slot_is = slot_is cell.slot m.slot q.0; symbol_is = eqb-true _ _ q.1 }

of_own : (m : SymbolStart) (cell : Cell) → cell.ep ≡ m.ep → cell.slot ≡ m.slot → cell.symbol ≡ m.symbol → of_symbol m cell ≡ true
of_own m cell p q r =
    and_from (cell.ep == m.ep) _ (eq-eqb _ _ p)
    (and_from (same_slot cell.slot m.slot) _ (ap (same_slot cell.slot) (sym q) ∙ slot_own cell.slot) (eq-eqb _ _ r))

cell_is : (m : SymbolStart) (cell : Cell) → cell.down ≡ true → IsOfSymbol m cell → cell ≡ cell_in m cell.prb
cell_is m cell down is =
    ap (λ (x : ℕ). cell_at x cell.down cell.slot cell.symbol cell.prb) is.ep_is
    ∙ ap (λ (x : Bool). cell_at m.ep x cell.slot cell.symbol cell.prb) down
    ∙ ap (λ (x : Slot). cell_at m.ep true x cell.symbol cell.prb) is.slot_is
    ∙ ap (λ (x : ℕ). cell_at m.ep true m.slot x cell.prb) is.symbol_is

-- ---- what is reported

-- where the cells in use of the first n PRBs are set as reported and nothing else, those are that were left there
pub used_reported : (m : SymbolStart) (n : ℕ) (old new : CellsValue)
    → ((prb : ℕ) → prb < n → cells_reported new (cell_in m prb) ≡ (cells_reported old (cell_in m prb) || is_in_use (cells_claim old (cell_in m prb))))
    → ((cell : Cell) → IsCellIn old cell → (cell.ep ≡ m.ep → cell.slot ≡ m.slot → cell.symbol ≡ m.symbol → n ≤ cell.prb) → cells_reported new cell ≡ cells_reported old cell)
    → (cell : Cell) → IsCellIn old cell → cell.down ≡ true → cells_reported new cell ≡ (cells_reported old cell || is_told m (each 0 n (left_told old m)) cell)
used_reported m n old new here others cell is down = elim (cases_Bool (of_symbol m cell)) [
  | inr other ↦
      others cell is (λ p q r. absurd (unequal (of_symbol m cell) other (of_own m cell p q r)))
      ∙ or_none (cells_reported old cell) _ (parts ∙ and_left (of_symbol m cell) any other)
  | inl own ↦ elim (cases_lt cell.prb n) [
    | inr behind ↦
        others cell is (λ p q r. behind)
        ∙ or_none (cells_reported old cell) _ (parts ∙ first_true (of_symbol m cell) any own ∙ told_behind old m n cell.prb behind)
    | inl below ↦
        let at : cell ≡ cell_in m cell.prb = cell_is m cell down (of_parts m cell own) in
        ap (cells_reported new) at ∙ here cell.prb below
        ∙ same_reported (cells_reported old (cell_in m cell.prb)) (is_in_use (cells_claim old (cell_in m cell.prb)))
        ∙ ap₂ ◌||◌ (ap (cells_reported old) (sym at)) (sym (parts ∙ first_true (of_symbol m cell) any own ∙ told_below old m n cell.prb below))
  ]
]
  where
    any : Bool
    any = list_any (λ (x : AirCell). x.prb == cell.prb) (each 0 n (left_told old m))

    parts : is_told m (each 0 n (left_told old m)) cell ≡ (of_symbol m cell && any)
    parts = all_three (cell.ep == m.ep) (same_slot cell.slot m.slot) (cell.symbol == m.symbol) any

pub symbol_cell : (v : CellsValue) (m : SymbolStart) (prb : ℕ) → IsSymbol v m → prb < m.endpoint.prbs → IsCellIn v (cell_in m prb)
symbol_cell v m prb is below = record { endpoint = m.endpoint; at = is.at; slot_is = is.slot_is; symbol = is.symbol_is; prb = below }
