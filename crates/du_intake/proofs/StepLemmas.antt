-- The cursor goes on, cell by cell, and so does the report.
use Rattle.std.proofs.Common.{◌≡◌, ℕ, ℤ, ◌<◌, ◌≤◌, Bool, true, false, not, ◌&&◌, ◌||◌, List, Option, Some, None, inl, inr, refl, sym, ap, ◌∙◌, subst}
use Rattle.std.specs.Prelude.{nat_lt, IfSome}
use Rattle.std.proofs.lemmas.Bool.{cases_Bool, or_left}
use Rattle.std.proofs.Math.Nat.{lt_of_lt_of_le}
use Rattle.window_config.specs.declared.config.Config.{Config}
use Rattle.window_config.specs.declared.endpoints.EndpointConfig.{EndpointConfig}
use Rattle.unit_model.specs.Order.{comes_before}
use Rattle.unit_model.specs.Standing.{History, IsCell}
use Rattle.unit_model.specs.Starts.{start_at}
use Rattle.unit_model.specs.declared.allocations.Allocation.{Allocation}
use Rattle.unit_model.specs.declared.cells.Cell.{Cell}
use Rattle.unit_model.specs.declared.symbol_start.SymbolStart.{SymbolStart}
use Rattle.unit_laws.proofs.FarLemmas.{endpoints_equal}
use Rattle.unit_memory.specs.declared.memory.UnitMemory.{UnitMemory}
use Rattle.unit_symbols.proofs.OrderLemmas.{comes_trans}
use Rattle.unit_laws.proofs.BeforeLemmas.{same_place}
use Rattle.du_intake.specs.Cursors.{CellCursor, IsNextPlannedSymbol, is_behind}
use Rattle.du_intake.specs.Units.{IntakeKeeps}
use Rattle.du_intake.proofs.CellLemmas.{cursor_at, own_behind, own_start, swept}
use Rattle.du_intake.proofs.UnitLemmas.{found_behind}
use Rattle.du_intake.proofs.UsedLemmas.{used_named}
use Rattle.unit_symbols.specs.Searches.{IsNotBefore}

other_ahead : (a b x : Bool) → a ≡ false → b ≡ true → (a || (not b && x)) ≡ false
other_ahead a b x h k = rw (h, k) refl

-- all that is before the next symbol is before a cursor at its first PRB
behind_then : (next x : SymbolStart) (p : ℕ) (new : Option SymbolStart) → (comes_before x next ≡ true) → IfSome new (λ f. comes_before next f ≡ true) → is_behind new 0 x p ≡ true
behind_then next x p None before after = refl
behind_then next x p (Some f) before after = or_left (comes_before x f) _ (comes_trans x next f before after)

behind_own : (next x : SymbolStart) (p : ℕ) (new : Option SymbolStart) → x ≡ next → IfSome new (λ f. comes_before next f ≡ true) → is_behind new 0 x p ≡ true
behind_own next x p None same after = refl
behind_own next x p (Some f) same after = or_left (comes_before x f) _ (ap (λ (y : SymbolStart). comes_before y f) same ∙ after)

step_reports : (next x : SymbolStart) (n p : ℕ) (new : Option SymbolStart) → IfSome new (λ f. comes_before next f ≡ true) → (comes_before next x ≡ true → IsNotBefore x new)
    → (comes_before x next ≡ false → comes_before next x ≡ false → (p < n) × (x ≡ next)) → is_behind (Some next) n x p ≡ is_behind new 0 x p
step_reports next x n p new after first here = elim (cases_Bool (comes_before x next)) [
  | inl a ↦ or_left (comes_before x next) _ a ∙ sym (behind_then next x p new a after)
  | inr a ↦ elim (cases_Bool (comes_before next x)) [
    | inl b ↦ other_ahead (comes_before x next) (comes_before next x) (nat_lt p n) a b ∙ sym (found_behind x p new (first b))
    | inr b ↦ own_behind (comes_before x next) (comes_before next x) p n a b (here a b).0 ∙ sym (behind_own next x p new (here a b).1 after)
  ]
]

module _ (c : Config) (planned : List Allocation) (m : UnitMemory) (clock : ℤ) (h : History) (next : SymbolStart) (n : ℕ)
    (k : IntakeKeeps c planned m clock (cursor_at next n) h) where
  -- of the cursor's symbol
  at_place : (e : EndpointConfig) (cell : Cell) → IsCell c e cell → comes_before (start_at cell.ep e cell.slot cell.symbol) next ≡ false
      → comes_before next (start_at cell.ep e cell.slot cell.symbol) ≡ false → next.endpoint.prbs ≤ n → (cell.prb < n) × (start_at cell.ep e cell.slot cell.symbol ≡ next)
  at_place e cell is a b over =
      let s = swept c planned m clock h next n k in
      let x = start_at cell.ep e cell.slot cell.symbol in
      let place = same_place x next a b in
      let same : e ≡ next.endpoint = endpoints_equal c.endpoints cell.ep next.ep e next.endpoint is.endpoint s.endpoint place.ep in (
        lt_of_lt_of_le (subst (λ (f : EndpointConfig). cell.prb < f.prbs) same is.prb) over,
        ap (λ (i : ℕ). start_at i e cell.slot cell.symbol) place.ep
            ∙ ap (λ (f : EndpointConfig). start_at next.ep f cell.slot cell.symbol) same
            ∙ ap (λ t. start_at next.ep next.endpoint t cell.symbol) place.slot_is
            ∙ ap (λ (i : ℕ). start_at next.ep next.endpoint next.slot i) place.symbol ∙ own_start c planned m clock h next n k,
      )

  pub keeps_symbol : (new : CellCursor) → next.endpoint.prbs ≤ n → IsNextPlannedSymbol planned (Some next) new.next → new.prb ≡ 0 → IntakeKeeps c planned m clock new h
  keeps_symbol new over is zero = record {
    holds = k.holds;
    clock_is = k.clock_is;
    time = k.time;
    begun = k.begun;
    past = k.past;
    told = k.told;
    differ = k.differ;
    owed = k.owed;
    given = k.given;
    plan = k.plan;
    reports = λ e cell in_c down used.
        let x = start_at cell.ep e cell.slot cell.symbol in
        k.reports e cell in_c down used
        ∙ step_reports next x n cell.prb new.next is.after
        (λ later. is.first x (used_named c planned e cell k.plan in_c.endpoint used) later)
        (λ a b. at_place e cell in_c a b over)
        ∙ ap (λ (i : ℕ). is_behind new.next i x cell.prb) (sym zero);
    named = is.named;
  }
