-- The order in which symbols are told, and what is left once the first of them was reported.
use Rattle.std.proofs.Common.{◌≡◌, ℕ, zero, suc, ℤ, ◌+◌, ◌<◌, ◌≤◌, Bool, true, false, not, ◌&&◌, ◌||◌, ◌==◌, List, refl, sym, ap, ◌∙◌, subst, arith, inl, inr}
use Rattle.std.proofs.lemmas.Bool.{cases_Bool, both_ways}
use Rattle.unit_model.specs.Claims.{cell_at}
use Rattle.unit_model.specs.Proper.{IsAt}
use Rattle.fh_base.specs.declared.values.Slot.{Slot}
use Rattle.air_source.specs.declared.events.AirCell.{AirCell}
use Rattle.window_config.specs.declared.endpoints.EndpointConfig.{EndpointConfig}
use Rattle.fh_base.specs.Lists.{some}
use Rattle.unit_model.specs.Order.{comes_before}
use Rattle.unit_model.specs.Radiated.{used_mask}
use Rattle.unit_model.specs.declared.cells.Cell.{Cell}
use Rattle.unit_model.specs.declared.symbol_start.SymbolStart.{SymbolStart}
use Rattle.unit_laws.proofs.FarLemmas.{endpoints_equal}
use Rattle.unit_laws.proofs.UnitLemmas.{small_is}
use Rattle.unit_laws.proofs.BeforeLemmas.{IsSamePlace, same_place}
use Rattle.slot_rings.specs.Places.{is_due}
use Rattle.unit_cells.specs.Cells.{CellsValue, cells_claim, cells_reported, endpoints_of}
use Rattle.unit_symbols.specs.DueSymbols.{ReportsTold, cell_in, is_left, is_told, left_at}
use Rattle.unit_symbols.specs.Symbols.{IsSymbol}
use Rattle.unit_symbols.proofs.AfterLemmas.{left_after}
use Rattle.unit_symbols.proofs.ReportedLemmas.{symbol_cell}
use Rattle.ru_buffers.specs.Reporting.{IsFirstLeft, IsLeftAfter}
use Rattle.unit_laws.proofs.ReportLemmas.{used_same}

-- ---- what is left

some_weaker : (from n : ℕ) (p q : ℕ → Bool) → ((k : ℕ) → from ≤ k → k < from + n → p k ≡ true → q k ≡ true) → some from n p ≡ true → some from n q ≡ true
unfolding some
some_weaker from zero p q f h = h
some_weaker from (suc n) p q f h =
    either (p from) (some (from + 1) n p) (q from) (some (from + 1) n q) (f from (omega arith) (omega arith))
    (some_weaker (from + 1) n p q (λ k above below. f k (omega arith) (omega arith))) h
  where
    either : (a b x y : Bool) → (a ≡ true → x ≡ true) → (b ≡ true → y ≡ true) → (a || b) ≡ true → (x || y) ≡ true
    either true b true y f g h = refl
    either true b false y f g h = absurd (no (f refl))
      where
        no : false ≡ true → ⊥
        no e = cc
    either false true true y f g h = refl
    either false true false y f g h = g refl
    either false false x y f g h = cc

due_mono : (used old told new : Bool) → new ≡ (old || told) → (not used && not new) ≡ true → (not used && not old) ≡ true
due_mono true old told new e h = h
due_mono false true told new e h = absurd (no new told e h)
  where
    no : (n t : Bool) → n ≡ (true || t) → (not false && not n) ≡ true → ⊥
    no true t e h = cc
    no false t e h = cc
due_mono false false told new e h = refl

used_is : (old new : CellsValue) (cell : Cell) → ((re : ℕ) → cells_claim new cell re ≡ cells_claim old cell re) → used_mask (cells_claim new cell) ≡ used_mask (cells_claim old cell)
used_is old new cell same = used_same (cells_claim new cell) (cells_claim old cell) 12 (λ re below. same re)

module _ (m : SymbolStart) (told : List AirCell) (old new : CellsValue) (reports : ReportsTold m told old new) where
  -- a symbol of which something is left now had something left before
  pub left_before : (x : SymbolStart) → IsSymbol new x → is_left new x ≡ true → (IsSymbol old x) × (is_left old x ≡ true)
  left_before x is h =
      let was : IsSymbol old x = record {
        at = subst (λ (es : List EndpointConfig). IsAt es x.ep x.endpoint) reports.endpoints is.at;
        slot_is = is.slot_is;
        symbol_is = is.symbol_is;
        starts = is.starts;
        has = sym (reports.known.places x.ep x.slot) ∙ is.has;
      } in (
        was,
        some_weaker 0 x.endpoint.prbs (λ prb. is_due (cells_claim new (cell_in x prb)) (cells_reported new (cell_in x prb)))
            (λ prb. is_due (cells_claim old (cell_in x prb)) (cells_reported old (cell_in x prb)))
            (λ prb above below due.
            due_mono (used_mask (cells_claim old (cell_in x prb)) == 0) (cells_reported old (cell_in x prb)) (is_told m told (cell_in x prb)) (cells_reported new (cell_in x prb))
            (reports.reports (cell_in x prb) (symbol_cell old x prb was (small_is prb x.endpoint.prbs below)) refl)
            (ap (λ (u : ℕ). not (u == 0) && not (cells_reported new (cell_in x prb))) (sym (used_is old new (cell_in x prb) (reports.known.claims (cell_in x prb)))) ∙ due)) h,
      )

-- the same symbol, by its place
abbrev due_at : CellsValue → SymbolStart → ℕ → Slot → ℕ → Bool
due_at v m ep slot symbol = some 0 m.endpoint.prbs (λ prb. is_due (cells_claim v (cell_at ep true slot symbol prb)) (cells_reported v (cell_at ep true slot symbol prb)))

as_same : (v : CellsValue) (m x : SymbolStart) → IsSymbol v m → IsSymbol v x → IsSamePlace x m → is_left v x ≡ is_left v m
as_same v m x is_m is_x same =
    let endpoint : x.endpoint ≡ m.endpoint = endpoints_equal (endpoints_of v) x.ep m.ep x.endpoint m.endpoint is_x.at is_m.at same.ep in
    ap (λ (e : EndpointConfig). some 0 e.prbs (λ prb. is_due (cells_claim v (cell_in x prb)) (cells_reported v (cell_in x prb)))) endpoint
    ∙ ap (λ (i : ℕ). due_at v m i x.slot x.symbol) same.ep ∙ ap (λ (s : Slot). due_at v m m.ep s x.symbol) same.slot_is
    ∙ ap (λ (y : ℕ). due_at v m m.ep m.slot y) same.symbol

-- what is left after the first symbol was reported is of symbols that are after it
pub rest_after : (clock : ℤ) (m : SymbolStart) (old new : CellsValue) → IsFirstLeft old clock m → ReportsTold m (left_at old m) old new
    → (x : SymbolStart) → IsLeftAfter new clock x → comes_before m x ≡ true
rest_after clock m old new first reports x left =
    let was = left_before m (left_at old m) old new reports x left.symbol left.left in
    elim (cases_Bool (comes_before m x)) [
      | inl after ↦ after
      | inr not_after ↦
          let now : IsSymbol new m = record {
            at = subst (λ (es : List EndpointConfig). IsAt es m.ep m.endpoint) (sym reports.endpoints) first.symbol.at;
            slot_is = first.symbol.slot_is;
            symbol_is = first.symbol.symbol_is;
            starts = first.symbol.starts;
            has = reports.known.places m.ep m.slot ∙ first.symbol.has;
          } in
          let same = same_place x m (first.first x (record { symbol = was.0; after = left.after; left = was.1 })) not_after in
          absurd (both_ways (is_left new x) (as_same new m x now left.symbol same ∙ left_after m old new first.symbol reports) left.left)
    ]
