-- The intake stands for its history as its cells are reported.
use Rattle.std.proofs.Common.{◌≡◌, ℕ, ℤ, ◌+◌, ◌^◌, ◌<◌, ◌≤◌, ◌+ℤ◌, ◌≤ℤ◌, ◌<ℤ◌, Bool, true, false, ◌==◌, List, [], ◌∷◌, length, get_or, Option, Some, refl, sym, ap, ap₂, ◌∙◌, subst, arith}
use Rattle.std.specs.Prelude.{if◌then◌else◌, slice_get, IfSome}
use Rattle.std.proofs.lemmas.Bool.{eqb-true}
use Rattle.std.proofs.lemmas.Option.{MatchOption-at_some}
use Rattle.std.specs.Int.Signed.{clash_ℤ}
use Rattle.fh_base.specs.Air.{air_of}
use Rattle.air_source.specs.declared.events.AirCell.{AirCell}
use Rattle.air_source.specs.declared.events.Event.{Event}
use Rattle.air_source.specs.declared.events.Event.TheVariants.{Cell as Reported}
use Rattle.air_source.specs.declared.events.Side.TheVariants.{Du}
use Rattle.window_config.specs.declared.config.Config.{Config}
use Rattle.unit_model.specs.Claims.{claim_at}
use Rattle.window_config.specs.declared.endpoints.EndpointConfig.{EndpointConfig}
use Rattle.unit_model.specs.Proper.{IsAt, IsSlot}
use Rattle.unit_model.specs.Radiated.{air_cell, cell_id, report_of, samples_under, used_mask, wait_of}
use Rattle.unit_model.specs.Standing.{History, heard}
use Rattle.unit_model.specs.declared.allocations.Allocation.{Allocation}
use Rattle.unit_model.specs.declared.cells.Block.{Block}
use Rattle.unit_model.specs.declared.cells.Cell.{Cell}
use Rattle.unit_model.specs.declared.cells.Claim.{Claim}
use Rattle.unit_model.specs.declared.symbol_start.SymbolStart.{SymbolStart}
use Rattle.unit_cells.specs.Cells.{cells_block, endpoints_of}
use Rattle.unit_cells.proofs.KeepLemmas.{at_rings}
use Rattle.unit_symbols.specs.DueSymbols.{CountsTold}
use Rattle.unit_laws.proofs.UnitLemmas.{heard_none}
use Rattle.du_intake.specs.Calls.{IntakeStandsFor, cursor_in, next_in}
use Rattle.du_intake.specs.Closing.{Closes, ClosesSome, IntakeGoesOn, HasClaimed, IsClaimedFrom, IntakeStandsForSome, StaysAt, IntakeStopsAtDue, at_prb}
use Rattle.du_intake.specs.Cursors.{CellCursor, HasStillLeft, IsNamed, IsNextPlannedSymbol, uplink_cell_in}
use Rattle.du_intake.specs.Rows.{IsRowOf, claim_of_planned, no_claim}
use Rattle.du_intake.specs.Symbols.{lines_in, symbol_at}
use Rattle.du_intake.specs.Units.{IntakeKeeps, intake_due_of}
use Rattle.du_intake.specs.declared.claims.PlannedClaim.{PlannedClaim}
use Rattle.du_intake.specs.declared.plan.UplinkPlan.{UplinkPlan}
use Rattle.du_intake.specs.declared.unit.Intake.{Intake}
use Rattle.du_intake.proofs.CellLemmas.{block_is, cursor_at, due_goes, due_is, keeps_told, keeps_unplanned, slot_is, swept, told_cell, with_counters}
use Rattle.du_intake.proofs.ListLemmas.{some_same}
use Rattle.du_intake.proofs.NextLemmas.{next_symbol, row_claims}
use Rattle.du_intake.proofs.RowLemmas.{ids_same}
use Rattle.du_intake.proofs.StepLemmas.{keeps_symbol}
use Rattle.du_intake.proofs.UnitLemmas.{stands}
use Rattle.du_intake.proofs.UsedLemmas.{named_left}
use Rattle.unit_laws.proofs.ReportLemmas.{used_same}
use Rattle.fh_base.proofs.Orders.{not_zero}

-- at the next symbol
abbrev pub over_unit : Intake → Intake
over_unit u = record {
  memory = u.memory;
  clock = u.clock;
  plan = u.plan;
  row = u.row;
  place = record { symbol = u.place.symbol + 1; prb = 0 };
  wait = u.wait;
}

-- with other counters, at a PRB of its symbol
abbrev pub counted_unit : Intake → List ℕ → ℕ → Intake
counted_unit u counters prb = record {
  memory = with_counters u.memory counters;
  clock = u.clock;
  plan = u.plan;
  row = u.row;
  place = record { symbol = u.place.symbol; prb = prb };
  wait = u.wait;
}

one_of : (none : Bool) (x a : AirCell) → x ∷ [] ≡ (let xs : List AirCell = if none then [] else a ∷ [] in xs) → (none ≡ false) × (x ≡ a)
one_of true x a h = absurd cc
one_of false x a h = (refl, cc)

none_of : (none : Bool) (a : AirCell) → [] ≡ (let xs : List AirCell = if none then [] else a ∷ [] in xs) → none ≡ true
none_of true a h = refl
none_of false a h = absurd cc

-- what the unit answers by what it keeps
pub standing : (c : Config) (planned : List Allocation) (u : Intake) (h : History) → Closes c planned u h → IfSome (next_in u) (HasStillLeft planned u.place.prb) → IntakeStandsFor c planned u h
standing c planned u h all left =
    stands c planned u.memory u.clock.0 (cursor_in u) h all.kept u.plan (length u.row.items) u.wait.0 all.plan_is all.room_is all.wait_is left

pub closing : (c : Config) (planned : List Allocation) (u : Intake) (h : History) → IntakeStandsFor c planned u h → Closes c planned u h
closing c planned u h all = record { kept = all.kept; wait_is = all.wait_is; plan_is = all.plan_is; room_is = all.room_is }

pub closing_some : (u : Intake) → IntakeStandsForSome u → ClosesSome u
closing_some u some = record { config = some.config; planned = some.planned; history = some.history; closes = closing some.config some.planned u some.history some.stands }

-- ---- what stays

pub stays_next : (old new : Intake) → StaysAt old new → next_in new ≡ next_in old
stays_next old new same =
    ap (λ (es : List EndpointConfig). symbol_at es new.plan new.place.symbol) same.endpoints
    ∙ ap (λ (p : UplinkPlan). symbol_at old.memory.endpoints.items p new.place.symbol) same.plan
    ∙ ap (λ (k : ℕ). symbol_at old.memory.endpoints.items old.plan k) same.symbol

pub stays_claimed : (old new : Intake) → StaysAt old new → HasClaimed old → HasClaimed new
stays_claimed old new same was_claimed s at =
    let there : slice_get old.plan.symbols.items old.place.symbol ≡ Some s =
    sym (ap (λ (p : UplinkPlan). slice_get p.symbols.items new.place.symbol) same.plan ∙ ap (slice_get old.plan.symbols.items) same.symbol) ∙ at in
    subst (λ (p : UplinkPlan). IsRowOf (lines_in p.lines.items s) s.symbol new.row.items) (sym same.plan)
    (subst (IsRowOf (lines_in old.plan.lines.items s) s.symbol) (sym same.row) (was_claimed s there))

pub stays_both : (a b d : Intake) → StaysAt a b → StaysAt b d → StaysAt a d
stays_both a b d one two = record {
  endpoints = two.endpoints ∙ one.endpoints;
  clock = two.clock ∙ one.clock;
  plan = two.plan ∙ one.plan;
  row = two.row ∙ one.row;
  symbol = two.symbol ∙ one.symbol;
  wait = two.wait ∙ one.wait;
}

-- a unit whose row was written
pub closes_claimed : (c : Config) (planned : List Allocation) (old new : Intake) (h : History) → IsClaimedFrom old new → length new.row.items ≡ length old.row.items
    → Closes c planned old h → Closes c planned new h
closes_claimed c planned old new h is same all =
    subst (λ (u : Intake). Closes c planned u h) (sym is)
    (record { kept = all.kept; wait_is = all.wait_is; plan_is = all.plan_is; room_is = (let r = all.room_is in omega (arith, r, same)) })

-- ---- one cell

-- the report of the cell of a symbol at a PRB, by a claim
abbrev pub report_by : Intake → SymbolStart → ℕ → PlannedClaim → List AirCell
report_by u next prb claim =
    report_of Du next.endpoint (uplink_cell_in next prb) next.start.0 (claim_of_planned claim) (cells_block u.memory.cells (uplink_cell_in next prb))

same_report : (e : EndpointConfig) (cell : Cell) (start : ℤ) (f g : ℕ → Option Claim) (block : Option Block) → used_mask f ≡ used_mask g → cell_id f ≡ cell_id g
    → air_cell Du e cell start f block ≡ air_cell Du e cell start g block
same_report e cell start f g block used id =
    ap₂ (λ (i m : ℕ). (let a : AirCell = record {
      side = Du;
      at = record { 0 = start };
      id = e.id;
      slot = cell.slot;
      symbol = cell.symbol;
      prb = cell.prb;
      section = i;
      mask = m;
      block = samples_under i block;
    } in a)) id used

module _ (c : Config) (planned : List Allocation) (u : Intake) (h : History) (next : SymbolStart) (prb : ℕ) (all : Closes c planned (at_prb u prb) h) (is : next_in u ≡ Some next) where
  pub kept_at : IntakeKeeps c planned u.memory u.clock.0 (cursor_at next prb) h
  kept_at = subst (λ (x : CellCursor). IntakeKeeps c planned u.memory u.clock.0 x h) (ap (λ (o : Option SymbolStart). let r : CellCursor = record { next = o; prb = prb } in r) is) all.kept

  -- its symbol in the configuration
  pub own_symbol : symbol_at c.endpoints u.plan u.place.symbol ≡ Some next
  own_symbol = ap (λ (es : List EndpointConfig). symbol_at es u.plan u.place.symbol) (sym all.kept.holds.endpoints) ∙ is

  pub own_endpoint : IsAt (endpoints_of u.memory.cells) next.ep next.endpoint
  own_endpoint = at_rings Du c u.memory.cells next.ep next.endpoint all.kept.holds.of (swept c planned u.memory u.clock.0 h next prb kept_at).endpoint

  pub own_slot : IsSlot next.endpoint.numerology next.slot
  own_slot = slot_is c planned u.memory u.clock.0 h next prb kept_at

  -- what the row has of it
  pub claim_few : HasClaimed u → (claim : PlannedClaim) → claim ≡ get_or u.row.items prb no_claim → claim.mask < 2 ^ 12
  claim_few was_claimed claim same = subst (λ (x : PlannedClaim). x.mask < 2 ^ 12) (sym same) (row_claims c planned u.plan all.plan_is u.place.symbol next u.row.items own_symbol was_claimed prb).0

  pub claim_claims : HasClaimed u → (claim : PlannedClaim) → claim ≡ get_or u.row.items prb no_claim → (re : ℕ) → claim_of_planned claim re ≡ claim_at planned (uplink_cell_in next prb) re
  claim_claims was_claimed claim same re =
      ap (λ (x : PlannedClaim). claim_of_planned x re) same ∙ (row_claims c planned u.plan all.plan_is u.place.symbol next u.row.items own_symbol was_claimed prb).1 re

  -- the unit at the next PRB
  closes_at : (counters : List ℕ) (h2 : History) → IntakeKeeps c planned (with_counters u.memory counters) u.clock.0 (cursor_at next (prb + 1)) h2 → Closes c planned (counted_unit u counters (prb + 1)) h2
  closes_at counters h2 k = record {
    kept = subst (λ (x : CellCursor). IntakeKeeps c planned (with_counters u.memory counters) u.clock.0 x h2)
        (ap (λ (o : Option SymbolStart). let r : CellCursor = record { next = o; prb = prb + 1 } in r) (sym is)) k;
    wait_is = all.wait_is;
    plan_is = all.plan_is;
    room_is = all.room_is;
  }

  by_wait : (to : ℤ) → (next.start.0 +ℤ u.wait.0) ≤ℤ to → (next.start.0 +ℤ wait_of Du c.delays) ≤ℤ to
  by_wait to order = subst (λ (w : ℤ). (next.start.0 +ℤ w) ≤ℤ to) all.wait_is order

  -- its moment is reached
  pub not_late : (to : ℤ) (n : ℕ) → (next.start.0 +ℤ u.wait.0) ≤ℤ to → (f : SymbolStart) → next_in u ≡ Some f → to <ℤ (f.start.0 +ℤ u.wait.0) → HasStillLeft planned n f
  not_late to n order f at late =
      let same : f ≡ next = some_same (next_in u) f next at is in
      absurd (clash_ℤ (subst (λ (x : SymbolStart). to <ℤ (x.start.0 +ℤ u.wait.0)) same late) order)

  module _ (claim : PlannedClaim) (within : prb < next.endpoint.prbs) (claims : (re : ℕ) → claim_of_planned claim re ≡ claim_at planned (uplink_cell_in next prb) re) where
    abbrev own_report : List AirCell
    own_report = report_by u next prb claim

    used_same_claim : used_mask (claim_of_planned claim) ≡ used_mask (claim_at planned (uplink_cell_in next prb))
    used_same_claim = used_same (claim_of_planned claim) (claim_at planned (uplink_cell_in next prb)) 12 (λ re below. claims re)

    used_of : (cell : AirCell) → cell ∷ [] ≡ own_report → 0 < used_mask (claim_at planned (uplink_cell_in next prb))
    used_of cell one =
        subst (λ (n : ℕ). 0 < n) used_same_claim (not_zero (used_mask (claim_of_planned claim)) (one_of (used_mask (claim_of_planned claim) == 0) cell _ one).0)

    -- what is handed to the air is what is told
    told_is : (cell : AirCell) → cell ∷ [] ≡ own_report → cell ≡ told_cell c planned u.memory u.clock.0 h next prb kept_at
    told_is cell one =
        let e = next.endpoint in
        (one_of (used_mask (claim_of_planned claim) == 0) cell _ one).1
        ∙ same_report e (uplink_cell_in next prb) next.start.0 (claim_of_planned claim) (claim_at planned (uplink_cell_in next prb)) (cells_block u.memory.cells (uplink_cell_in next prb)) used_same_claim
        (ids_same (claim_of_planned claim) (claim_at planned (uplink_cell_in next prb)) 0 12 claims)
        ∙ ap (λ (t : ℤ). air_cell Du e (uplink_cell_in next prb) t (claim_at planned (uplink_cell_in next prb)) (cells_block u.memory.cells (uplink_cell_in next prb)))
        (sym (swept c planned u.memory u.clock.0 h next prb kept_at).starts)
        ∙ ap (λ (b : Option Block). air_cell Du e (uplink_cell_in next prb) (air_of e.numerology next.slot next.symbol) (claim_at planned (uplink_cell_in next prb)) b)
        (block_is c planned u.memory u.clock.0 h next prb kept_at within (used_of cell one))

    pub goes_told : {A : Type 0} (grew : A → List Event → A → Type 0) (to : ℤ) (cell : AirCell) (counters : List ℕ) (before after : A)
        → (next.start.0 +ℤ u.wait.0) ≤ℤ to → cell ∷ [] ≡ own_report → CountsTold (cell ∷ []) u.memory.counters counters
        → grew before (Reported cell ∷ []) after → IntakeGoesOn grew c planned h to (counted_unit u counters (prb + 1)) before after
    goes_told grew to cell counters before after order one counted heard_it =
        let used = used_of cell one in
        let same = told_is cell one in
        let k : IntakeKeeps c planned (with_counters u.memory counters) u.clock.0 (cursor_at next (prb + 1)) (heard h (cell ∷ [])) =
        subst (λ (x : AirCell). IntakeKeeps c planned (with_counters u.memory counters) u.clock.0 (cursor_at next (prb + 1)) (heard h (x ∷ []))) (sym same)
        (keeps_told c planned u.memory u.clock.0 h next prb kept_at within used counters (subst (λ (x : AirCell). CountsTold (x ∷ []) u.memory.counters counters) same counted)) in
        record {
          told = cell ∷ [];
          is =
              subst (λ (x : AirCell). intake_due_of c planned h to ≡ x ∷ intake_due_of c planned (heard h (x ∷ [])) to) (sym same)
              (due_goes c planned u.memory u.clock.0 h next prb kept_at within used to (by_wait to order));
          closes = closes_at counters (heard h (cell ∷ [])) k;
          left = not_late to (prb + 1) order;
          heard_is = heard_it;
        }

    pub goes_unplanned : {A : Type 0} (grew : A → List Event → A → Type 0) → ((a : A) → grew a [] a) → (to : ℤ) (air : A)
        → (next.start.0 +ℤ u.wait.0) ≤ℤ to → [] ≡ own_report → IntakeGoesOn grew c planned h to (at_prb u (prb + 1)) air air
    goes_unplanned grew empty to air order none =
        let unused : used_mask (claim_at planned (uplink_cell_in next prb)) ≡ 0 =
        sym used_same_claim ∙ eqb-true (used_mask (claim_of_planned claim)) 0 (none_of (used_mask (claim_of_planned claim) == 0) _ none) in
        record {
          told = [];
          is = ap (λ (x : History). intake_due_of c planned x to) (sym (heard_none h));
          closes = closes_at u.memory.counters (heard h []) (subst (IntakeKeeps c planned u.memory u.clock.0 (cursor_at next (prb + 1))) (sym (heard_none h))
              (keeps_unplanned c planned u.memory u.clock.0 h next prb kept_at unused));
          left = not_late to (prb + 1) order;
          heard_is = empty air;
        }

    left_here : 0 < used_mask (claim_at planned (uplink_cell_in next prb)) → (o : Option SymbolStart) → o ≡ Some next → IfSome o (HasStillLeft planned prb)
    left_here used o e = subst (λ (x : Option SymbolStart). IfSome x (HasStillLeft planned prb)) (sym e) (record { prb = prb; low = no_less prb; below = within; used = used })
      where
        no_less : (n : ℕ) → n ≤ n
        no_less n = omega arith

    pub stops_here : {A : Type 0} (grew : A → List Event → A → Type 0) (stopped : A → Event → A → Type 0) → ((a : A) → grew a [] a) → (to : ℤ) (cell : AirCell)
        (counters : List ℕ) (before after : A) → (next.start.0 +ℤ u.wait.0) ≤ℤ to → cell ∷ [] ≡ own_report → counters ≡ u.memory.counters
        → stopped before (Reported cell) after → IntakeStopsAtDue grew stopped c planned h to (counted_unit u counters prb) before after
    stops_here grew stopped empty to cell counters before after order one counts stop =
        let used = used_of cell one in
        let d = due_is c planned u.memory u.clock.0 h next prb kept_at within used to (by_wait to order) in
        record {
          told = [];
          cell = cell;
          rest = d.0;
          is = d.1 ∙ ap (λ (x : AirCell). x ∷ d.0) (sym (told_is cell one));
          stands =
              subst (λ (xs : List ℕ). IntakeStandsFor c planned (counted_unit u xs prb) (heard h [])) (sym counts)
              (subst (IntakeStandsFor c planned (at_prb u prb)) (sym (heard_none h)) (standing c planned (at_prb u prb) h all (left_here used (next_in u) is)));
          middle = before;
          heard_is = empty before;
          stop = stop;
        }

  -- ---- the symbol is done

  pub next_after : IsNextPlannedSymbol planned (Some next) (symbol_at u.memory.endpoints.items u.plan (u.place.symbol + 1))
  next_after =
      subst (λ (es : List EndpointConfig). IsNextPlannedSymbol planned (Some next) (symbol_at es u.plan (u.place.symbol + 1))) (sym all.kept.holds.endpoints)
      (next_symbol c planned u.plan all.plan_is u.place.symbol next own_symbol)

  pub closes_over : next.endpoint.prbs ≤ prb → Closes c planned (over_unit u) h
  closes_over over = record {
    kept = keeps_symbol c planned u.memory u.clock.0 h next prb kept_at (cursor_in (over_unit u)) over next_after refl;
    wait_is = all.wait_is;
    plan_is = all.plan_is;
    room_is = all.room_is;
  }

  pub left_over : (f : SymbolStart) → next_in (over_unit u) ≡ Some f → HasStillLeft planned 0 f
  left_over f e = named_left c planned f all.kept.plan (MatchOption-at_some (Unit {0}) (IsNamed planned) f e next_after.named)
