-- For callers: what is left after cells of a symbol were reported.
use Rattle.std.proofs.Common.{◌≡◌, ℕ, zero, suc, ◌+◌, ◌<◌, ◌≤◌, ◌==◌, Bool, true, false, not, ◌&&◌, inl, inr, List, refl, sym, ap, ◌∙◌, arith, Option}
use Rattle.std.specs.List.{list_any}
use Rattle.std.proofs.lemmas.Bool.{and_from, cases_Bool, cases_eq, eq-eqb}
use Rattle.std.proofs.lemmas.List.Folds.{list_any-append}
use Rattle.air_source.specs.declared.events.AirCell.{AirCell}
use Rattle.air_source.specs.declared.events.Side.TheVariants.{Ru}
use Rattle.unit_model.specs.Claims.{same_slot}
use Rattle.fh_base.specs.Lists.{each}
use Rattle.unit_model.specs.Radiated.{air_cell, used_mask}
use Rattle.unit_model.specs.declared.cells.Claim.{Claim}
use Rattle.unit_model.specs.declared.symbol_start.SymbolStart.{SymbolStart}
use Rattle.slot_rings.specs.Places.{is_due}
use Rattle.slot_rings.proofs.RangeLemmas.{some_from}
use Rattle.unit_cells.specs.Cells.{CellsValue, cells_block, cells_claim, cells_reported}
use Rattle.unit_cells.specs.Keeping.{SameKnown}
use Rattle.unit_symbols.specs.DueSymbols.{ReportsTold, cell_in, is_left, is_told, left_at, left_told}
use Rattle.unit_symbols.specs.Symbols.{IsSymbol}
use Rattle.unit_symbols.proofs.ReportedLemmas.{symbol_cell, told_alone}
use Rattle.unit_model.proofs.ClaimLemmas.{slot_self as slot_own}
use Rattle.fh_base.proofs.Orders.{or_second}

same_claims : (old new : CellsValue) (m : SymbolStart) (prb : ℕ) → SameKnown old new → cells_claim new (cell_in m prb) ≡ cells_claim old (cell_in m prb)
same_claims old new m prb same = λ i re. same.claims (cell_in m prb) re i

-- ---- of the symbol itself

pub any_each : (p : AirCell → Bool) (from n : ℕ) (f : ℕ → List AirCell) (k : ℕ) → from ≤ k → k < from + n → list_any p (f k) ≡ true → list_any p (each from n f) ≡ true
unfolding each
any_each p from zero f k low high any = absurd (omega arith)
any_each p from (suc n) f k low high any = list_any-append p (f from) (each (from + 1) n f) ∙ elim (cases_eq k from) [
  | inl e ↦ let here : list_any p (f from) ≡ true = ap (λ (j : ℕ). list_any p (f j)) (sym e) ∙ any in rw here refl
  | inr ne ↦ or_second (list_any p (f from)) _ (any_each p (from + 1) n f k (omega (arith, ne)) (omega arith) any)
]

left_here : (v : CellsValue) (m : SymbolStart) (k : ℕ) → cells_reported v (cell_in m k) ≡ false → (used_mask (cells_claim v (cell_in m k)) == 0) ≡ false
    → list_any (λ (x : AirCell). x.prb == k) (left_told v m k) ≡ true
left_here v m k fresh used =
    rw (fresh, used) (told_alone (air_cell Ru m.endpoint (cell_in m k) m.start.0 (cells_claim v (cell_in m k)) (cells_block v (cell_in m k))) k refl)

told_here : (v : CellsValue) (m : SymbolStart) (k : ℕ) → k < m.endpoint.prbs → list_any (λ (x : AirCell). x.prb == k) (left_told v m k) ≡ true
    → is_told m (left_at v m) (cell_in m k) ≡ true
unfolding left_at
told_here v m k below any =
    and_from (m.ep == m.ep) _ (eq-eqb m.ep m.ep refl)
    (and_from (same_slot m.slot m.slot) _ (slot_own m.slot)
    (and_from (m.symbol == m.symbol) _ (eq-eqb m.symbol m.symbol refl)
    (any_each (λ (x : AirCell). x.prb == k) 0 m.endpoint.prbs (left_told v m) k (omega arith) (omega (arith, below)) any)))

undue_idle : (idle reported : Bool) → idle ≡ true → (not idle && not reported) ≡ false
undue_idle true reported e = refl
undue_idle false reported e = cc

undue_reported : (idle reported : Bool) → reported ≡ true → (not idle && not reported) ≡ false
undue_reported true reported e = refl
undue_reported false true e = refl
undue_reported false false e = cc

here_reported : (m : SymbolStart) (old new : CellsValue) (k : ℕ) → IsSymbol old m → ReportsTold m (left_at old m) old new → k < m.endpoint.prbs
    → (used_mask (cells_claim old (cell_in m k)) == 0) ≡ false → cells_reported new (cell_in m k) ≡ true
here_reported m old new k is reports below used =
    let was_reported = reports.reports (cell_in m k) (symbol_cell old m k is below) refl in elim (cases_Bool (cells_reported old (cell_in m k))) [
      | inl reported ↦ was_reported ∙ (rw reported refl)
      | inr fresh ↦ was_reported ∙ or_second (cells_reported old (cell_in m k)) _ (told_here old m k below (left_here old m k fresh used))
    ]

-- after a report of all that was left, nothing is left
pub left_after : (m : SymbolStart) (old new : CellsValue) → IsSymbol old m → ReportsTold m (left_at old m) old new → is_left new m ≡ false
left_after m old new is reports =
    some_from 0 m.endpoint.prbs (λ k. is_due (cells_claim new (cell_in m k)) (cells_reported new (cell_in m k))) (λ k low high.
    let same : cells_claim new (cell_in m k) ≡ cells_claim old (cell_in m k) = same_claims old new m k reports.known in
    let masks : (used_mask (cells_claim new (cell_in m k)) == 0) ≡ (used_mask (cells_claim old (cell_in m k)) == 0) = ap (λ (c : ℕ → Option Claim). used_mask c == 0) same in
    elim (cases_Bool (used_mask (cells_claim old (cell_in m k)) == 0)) [
      | inl idle ↦ undue_idle _ (cells_reported new (cell_in m k)) (masks ∙ idle)
      | inr used ↦ undue_reported (used_mask (cells_claim new (cell_in m k)) == 0) _ (here_reported m old new k is reports (omega (arith, high)) used)
    ])
