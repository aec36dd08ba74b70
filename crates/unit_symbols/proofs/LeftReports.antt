-- For callers: where nothing is left of a symbol.
use Rattle.std.proofs.Common.{◌≡◌, ℕ, ◌<◌, ◌==◌, Bool, true, false, not, ◌&&◌, inl, inr, [], refl, ap, ◌∙◌, arith, Option, None}
use Rattle.std.proofs.lemmas.Bool.{cases_Bool}
use Rattle.unit_model.specs.Radiated.{used_below, used_mask}
use Rattle.unit_model.specs.declared.cells.Claim.{Claim}
use Rattle.unit_model.specs.declared.symbol_start.SymbolStart.{SymbolStart}
use Rattle.slot_rings.specs.Places.{is_due}
use Rattle.unit_cells.specs.Cells.{CellsValue, cells_claim, cells_reported, cells_has, ring_of}
use Rattle.unit_cells.proofs.TimeLemmas.{no_claim_from as unclaimed}
use Rattle.unit_symbols.specs.DueSymbols.{cell_in, is_left, left_at, left_told}
use Rattle.unit_model.proofs.ClaimLemmas.{some_not as some_at}
use Rattle.fh_base.proofs.EachLemmas.{each_none}
use Rattle.fh_base.proofs.CommonLemmas.{each_same}

-- ---- of one cell

left_idle : (v : CellsValue) (m : SymbolStart) (prb : ℕ) → (used_mask (cells_claim v (cell_in m prb)) == 0) ≡ true → left_told v m prb ≡ []
left_idle v m prb idle = elim (cases_Bool (cells_reported v (cell_in m prb))) [ inl reported ↦ rw reported refl | inr fresh ↦ rw (fresh, idle) refl ]

left_reported : (v : CellsValue) (m : SymbolStart) (prb : ℕ) → cells_reported v (cell_in m prb) ≡ true → left_told v m prb ≡ []
left_reported v m prb reported = rw reported refl

due_parts : (idle reported : Bool) → (not idle && not reported) ≡ false → idle ≡ false → reported ≡ true
due_parts idle true e p = refl
due_parts true false e p = cc
due_parts false false e p = cc

left_undue : (v : CellsValue) (m : SymbolStart) (prb : ℕ) → is_due (cells_claim v (cell_in m prb)) (cells_reported v (cell_in m prb)) ≡ false → left_told v m prb ≡ []
left_undue v m prb undue = elim (cases_Bool (used_mask (cells_claim v (cell_in m prb)) == 0)) [
  | inl idle ↦ left_idle v m prb idle
  | inr used ↦ left_reported v m prb (due_parts (used_mask (cells_claim v (cell_in m prb)) == 0) (cells_reported v (cell_in m prb)) undue used)
]

-- ---- of a symbol

none_left : (v : CellsValue) (m : SymbolStart) → ((prb : ℕ) → prb < m.endpoint.prbs → left_told v m prb ≡ []) → left_at v m ≡ []
unfolding left_at
none_left v m none =
    each_same 0 m.endpoint.prbs (left_told v m) (λ prb. []) (λ prb low high. none prb (omega (arith, high)))
    ∙ each_none 0 m.endpoint.prbs (λ prb. []) (λ prb. refl)

-- where no cell of the symbol is in use that was not reported
pub nothing_left : (v : CellsValue) (m : SymbolStart) → is_left v m ≡ false → left_at v m ≡ []
nothing_left v m none =
    none_left v m (λ prb below. left_undue v m prb
    (some_at 0 m.endpoint.prbs (λ k. is_due (cells_claim v (cell_in m k)) (cells_reported v (cell_in m k))) prb none (omega arith) (omega (arith, below))))

-- nothing is in use where nothing is claimed
used_none : (claims : ℕ → Option Claim) → ((re : ℕ) → claims re ≡ None) → used_mask claims ≡ 0
unfolding used_below
used_none claims none = ap (λ (c : ℕ → Option Claim). used_below c 12) (let e : claims ≡ (λ re. None) = λ i re. none re i in e) ∙ refl

-- where its slot has no place
pub nothing_without_place : (v : CellsValue) (m : SymbolStart) → cells_has v m.ep m.slot ≡ false → left_at v m ≡ []
nothing_without_place v m none =
    none_left v m (λ prb below. left_idle v m prb
    (ap (λ (mask : ℕ). mask == 0) (used_none (cells_claim v (cell_in m prb)) (λ re. unclaimed (ring_of v m.ep) (cell_in m prb) re none))))
