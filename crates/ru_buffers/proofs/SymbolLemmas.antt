-- What is left of one symbol, by look-up.
use Rattle.std.proofs.Common.{◌≡◌, ℕ, ℤ, pos, zero, suc, ◌+◌, ◌<◌, ◌≤ℤ◌, ◌<ℤ◌, Bool, true, false, not, ◌&&◌, List, [], ◌⊎◌, inl, inr, refl, sym, ap, ◌∙◌, subst, arith}
use Rattle.std.specs.Prelude.{All, Option, ◌==◌, ◌^◌, if◌then◌else◌, filter}
use Rattle.std.specs.List.{list_any}
use Rattle.std.proofs.lemmas.Bool.{cases_Bool}
use Rattle.std.proofs.lemmas.List.Elements.{All-weaker}
use Rattle.fh_base.specs.Air.{air_of}
use Rattle.fh_base.specs.Numbering.{symbols_of}
use Rattle.fh_base.specs.declared.values.Slot.{Slot}
use Rattle.air_source.specs.declared.events.AirCell.{AirCell}
use Rattle.air_source.specs.declared.events.Side.TheVariants.{Ru}
use Rattle.window_config.specs.Limits.{IsWithinLimits}
use Rattle.window_config.specs.Rings.{ru_reach_of}
use Rattle.window_config.specs.declared.config.Config.{Config}
use Rattle.window_config.specs.declared.endpoints.EndpointConfig.{EndpointConfig}
use Rattle.unit_model.specs.Blocks.{block_at}
use Rattle.unit_model.specs.Claims.{claim_at}
use Rattle.fh_base.specs.Lists.{each, some}
use Rattle.unit_model.specs.Proper.{IsAt, IsProperData, IsSlot}
use Rattle.unit_model.specs.Radiated.{air_cell, cell_report, first_clock, report_of, symbol_report, used_mask}
use Rattle.unit_model.specs.Reports.{accepted_of, data_of, ru_known, timely_of}
use Rattle.unit_model.specs.Standing.{IsCell, IsLiveAt, cell_heard, still_reported, History}
use Rattle.unit_model.specs.declared.cells.Block.{Block}
use Rattle.unit_model.specs.declared.cells.Cell.{Cell}
use Rattle.unit_model.specs.declared.cells.Claim.{Claim}
use Rattle.unit_model.specs.declared.symbol_start.SymbolStart.{SymbolStart}
use Rattle.unit_laws.specs.Far.{IsFar}
use Rattle.unit_model.specs.Swept.{IsSwept}
use Rattle.unit_laws.specs.Ticks.{IsLiveSlot}
use Rattle.unit_laws.proofs.AheadLemmas.{no_reports_ahead}
use Rattle.unit_laws.proofs.DueLemmas.{unheard}
use Rattle.unit_laws.proofs.HistoryLemmas.{data_are_proper}
use Rattle.unit_laws.proofs.LookupLemmas.{reported_by_lookup}
use Rattle.unit_laws.proofs.ReportLemmas.{report_same}
use Rattle.unit_model.proofs.SweepLemmas.{each_related}
use Rattle.unit_laws.proofs.TickLemmas.{starts_later, still_nothing}
use Rattle.slot_rings.specs.Places.{is_due}
use Rattle.unit_cells.specs.Cells.{CellsValue, cells_block, cells_claim, cells_reported, cells_has}
use Rattle.unit_cells.specs.Told.{IsTold}
use Rattle.unit_cells.proofs.KeepLemmas.{at_rings}
use Rattle.unit_cells.proofs.TimeLemmas.{far_no_place, live_at}
use Rattle.unit_cells.proofs.ToldLemmas.{told_whole}
use Rattle.unit_symbols.specs.declared.cursor.JobCursor.{JobCursor}
use Rattle.unit_memory.specs.declared.memory.UnitMemory.{UnitMemory}
use Rattle.unit_symbols.specs.DueSymbols.{cell_in, is_left, left_at, left_told}
use Rattle.unit_symbols.specs.Symbols.{IsSymbol}
use Rattle.ru_buffers.specs.Units.{RadioKeeps}
use Rattle.unit_model.proofs.BlockLemmas.{all_timely}
use Rattle.unit_laws.proofs.UnitLemmas.{whole_data}
use Rattle.unit_laws.proofs.HistoryLists.{kept_one, filter_kept, both_nothing, one_unless}
use Rattle.unit_symbols.proofs.LeftReports.{nothing_without_place, nothing_left}
use Rattle.ru_buffers.proofs.SlotLemmas.{swept_slot}
use Rattle.fh_base.proofs.Orders.{weak, neither_2 as neither, at_most}

-- ---- times

-- a symbol that starts later is of a slot that is live, or not live yet
pub live_or_ahead : (c : Config) (since t : ℤ) (e : EndpointConfig) (slot : Slot) (symbol : ℕ) → IsWithinLimits c.delays → since ≤ℤ t
    → symbol < symbols_of e.numerology → air_of e.numerology slot symbol ≡ t
    → IsLiveSlot c.delays e since slot ⊎ IsFar e.numerology (ru_reach_of c.delays) since slot
live_or_ahead c since t e slot symbol limits order small starts =
    let d = c.delays in
    starts_later e.numerology (ru_reach_of d) since slot symbol (at_most (pos 0) d.ta3.min d.ta3.max limits.ta3.low limits.ta3.order) small
    (subst (λ (x : ℤ). since ≤ℤ x) (sym starts) order)

-- and where it is live, the time of its frame can be told
pub live_slot : (c : Config) (since : ℤ) (es : List EndpointConfig) (ep : ℕ) (e : EndpointConfig) (slot : Slot) (symbol : ℕ) (tick : ℤ) → IsWithinLimits c.delays
    → since ≤ℤ pos (2 ^ 53) → first_clock ≤ℤ tick → IsSwept es ep e slot symbol tick → IsLiveSlot c.delays e since slot → IsSlot e.numerology slot
live_slot c since es ep e slot symbol tick limits early late swept live = swept_slot c.delays es ep e slot symbol tick since limits swept late early live

-- ---- what is told of one cell

one_cell : (e : EndpointConfig) (cell : Cell) (start : ℤ) (claims : ℕ → Option Claim) (block : Option Block) (heard : List AirCell) (reported_so : Bool)
    → cell.down ≡ true → reported_so ≡ list_any (cell_heard e cell) heard
    → filter (unheard heard) (report_of Ru e cell start claims block) ≡ (if reported_so then [] else report_of Ru e cell start claims block)
one_cell e cell start claims block heard reported_so down is =
    kept_one (unheard heard) (used_mask claims == 0) reported_so (air_cell Ru e cell start claims block)
    (ap not (reported_by_lookup Ru e cell start claims block heard down ∙ sym is))

-- ---- is something left?

unspent : (none reported_so : Bool) (a : AirCell) → (if reported_so then [] else one_unless none a) ≡ [] → (not none && not reported_so) ≡ false
unspent true reported_so a h = refl
unspent false true a h = refl
unspent false false a h = absurd cc

each_unspent : (from n : ℕ) (p : ℕ → Bool) (f : ℕ → List AirCell) → ((k : ℕ) → f k ≡ [] → p k ≡ false) → each from n f ≡ [] → some from n p ≡ false
unfolding some each
each_unspent from zero p f none h = refl
each_unspent from (suc n) p f none h =
    let parts = both_nothing (f from) (each (from + 1) n f) h in
    neither (p from) (some (from + 1) n p) (none from parts.0) (each_unspent (from + 1) n p f none parts.1)

abbrev left_cell : CellsValue → SymbolStart → ℕ → AirCell
left_cell v s prb = air_cell Ru s.endpoint (cell_in s prb) s.start.0 (cells_claim v (cell_in s prb)) (cells_block v (cell_in s prb))

abbrev due_in : CellsValue → SymbolStart → ℕ → Bool
due_in v s prb = is_due (cells_claim v (cell_in s prb)) (cells_reported v (cell_in s prb))

pub none_is_left : (v : CellsValue) (s : SymbolStart) → left_at v s ≡ [] → is_left v s ≡ false
unfolding left_at
none_is_left v s none =
    each_unspent 0 s.endpoint.prbs (due_in v s) (left_told v s)
    (λ prb. unspent (used_mask (cells_claim v (cell_in s prb)) == 0) (cells_reported v (cell_in s prb)) (left_cell v s prb)) none

-- ---- data that are told whole

pub all_told : (c : Config) (m : UnitMemory) (clock : ℤ) (cursor : JobCursor) (h : History) → RadioKeeps c m clock cursor h → All IsTold (timely_of Ru c h.arrivals)
all_told c m clock cursor h keeps =
    all_timely IsTold Ru c.delays (data_of Ru c h.arrivals)
    (All-weaker (IsProperData c.endpoints) IsTold (whole_data c.endpoints) (data_of Ru c h.arrivals)
    (data_are_proper Ru c cursor.since.0 h.arrivals keeps.holds.came keeps.holds.times))

-- ---- a symbol of a live slot

module _ (c : Config) (m : UnitMemory) (clock : ℤ) (cursor : JobCursor) (h : History) (keeps : RadioKeeps c m clock cursor h) (s : SymbolStart)
    (at : IsAt c.endpoints s.ep s.endpoint) (slot_is : IsSlot s.endpoint.numerology s.slot) (small : s.symbol < symbols_of s.endpoint.numerology)
    (live : IsLiveSlot c.delays s.endpoint cursor.since.0 s.slot) where
  pub cell_is : (prb : ℕ) → prb < s.endpoint.prbs → IsCell c s.endpoint (cell_in s prb)
  cell_is prb below = record { endpoint = at; slot = slot_is; symbol = small; prb = below }

  pub live_here : IsLiveAt c cursor.since.0 s.ep s.slot
  live_here = live_at Ru c cursor.since.0 s.endpoint s.ep s.slot at live

  pub claims_are : (prb re : ℕ) → prb < s.endpoint.prbs → re < 12 → cells_claim m.cells (cell_in s prb) re ≡ claim_at (accepted_of c h.arrivals) (cell_in s prb) re
  claims_are prb re below few = keeps.holds.keeps.claims s.endpoint (cell_in s prb) re (cell_is prb below) live_here few

  blocks_are : (prb : ℕ) → prb < s.endpoint.prbs → cells_block m.cells (cell_in s prb) ≡ block_at (timely_of Ru c h.arrivals) (cell_in s prb)
  blocks_are prb below =
      keeps.holds.keeps.blocks s.endpoint (cell_in s prb) (cell_is prb below) refl live_here
      ∙ told_whole (timely_of Ru c h.arrivals) (cell_in s prb) (all_told c m clock cursor h keeps)

  told_of_prb : (prb : ℕ) → prb < s.endpoint.prbs → air_of s.endpoint.numerology s.slot s.symbol ≡ s.start.0
      → filter (unheard h.reported) (cell_report Ru (ru_known c h.arrivals) s.ep s.endpoint s.slot s.symbol prb) ≡ left_told m.cells s prb
  told_of_prb prb below starts =
      let cell = cell_in s prb in
      let k = ru_known c h.arrivals in
      let reported_so = cells_reported m.cells cell in
      let start = air_of s.endpoint.numerology s.slot s.symbol in
      one_cell s.endpoint cell start (k.claims cell) (k.blocks cell) h.reported reported_so refl (keeps.reports s.endpoint cell (cell_is prb below) refl live_here)
      ∙ ap (λ (xs : List AirCell). if reported_so then [] else xs)
      (report_same Ru s.endpoint cell start (k.claims cell) (cells_claim m.cells cell) (k.blocks cell) (cells_block m.cells cell)
      (λ re few. sym (claims_are prb re below few)) (sym (blocks_are prb below)))
      ∙ ap (λ (t : ℤ). if reported_so then [] else report_of Ru s.endpoint cell t (cells_claim m.cells cell) (cells_block m.cells cell)) starts

  pub live_lookup : air_of s.endpoint.numerology s.slot s.symbol ≡ s.start.0
      → still_reported Ru (ru_known c h.arrivals) h.reported s.ep s.endpoint s.slot s.symbol ≡ left_at m.cells s
  unfolding still_reported symbol_report left_at
  live_lookup starts =
      let k = ru_known c h.arrivals in
      each_related (λ xs ys. filter (unheard h.reported) xs ≡ ys) (filter_kept (unheard h.reported)) 0 s.endpoint.prbs
      (cell_report Ru k s.ep s.endpoint s.slot s.symbol) (left_told m.cells s) (λ prb above below. told_of_prb prb (small_is prb s.endpoint.prbs below) starts)
    where
      small_is : (k n : ℕ) → k < 0 + n → k < n
      small_is k n h = omega arith

-- ---- any symbol that starts after the clock

module _ (c : Config) (m : UnitMemory) (clock : ℤ) (cursor : JobCursor) (h : History) (keeps : RadioKeeps c m clock cursor h) where
  pub clock_first : first_clock ≤ℤ clock
  clock_first = subst (λ (t : ℤ). first_clock ≤ℤ t) (sym keeps.clock_is) (at_most first_clock cursor.since.0 h.clock keeps.begun keeps.since)

  pub since_clock : cursor.since.0 ≤ℤ clock
  since_clock = subst (λ (t : ℤ). cursor.since.0 ≤ℤ t) (sym keeps.clock_is) keeps.since

  module _ (s : SymbolStart) (swept : IsSwept c.endpoints s.ep s.endpoint s.slot s.symbol s.start.0) (later : clock <ℤ s.start.0) where
    -- its slot is live, or not live yet
    pub found : IsLiveSlot c.delays s.endpoint cursor.since.0 s.slot ⊎ IsFar s.endpoint.numerology (ru_reach_of c.delays) cursor.since.0 s.slot
    found =
        live_or_ahead c cursor.since.0 s.start.0 s.endpoint s.slot s.symbol keeps.holds.config.delays (at_most cursor.since.0 clock s.start.0 since_clock (weak clock s.start.0 later))
        swept.symbol_is swept.starts

    pub slot_told : IsLiveSlot c.delays s.endpoint cursor.since.0 s.slot → IsSlot s.endpoint.numerology s.slot
    slot_told live =
        live_slot c cursor.since.0 c.endpoints s.ep s.endpoint s.slot s.symbol s.start.0 keeps.holds.config.delays
        (at_most cursor.since.0 h.clock (pos (2 ^ 53)) keeps.since keeps.time.high) (at_most first_clock clock s.start.0 clock_first (weak clock s.start.0 later)) swept live

    pub nothing_ahead : IsFar s.endpoint.numerology (ru_reach_of c.delays) cursor.since.0 s.slot
        → still_reported Ru (ru_known c h.arrivals) h.reported s.ep s.endpoint s.slot s.symbol ≡ []
    nothing_ahead far =
        still_nothing (ru_known c h.arrivals) h.reported s.ep s.endpoint s.slot s.symbol
        (no_reports_ahead Ru c cursor.since.0 h.arrivals s.endpoint s.ep s.slot s.symbol keeps.holds.config.delays keeps.holds.came swept.endpoint far)

    pub no_place_ahead : IsFar s.endpoint.numerology (ru_reach_of c.delays) cursor.since.0 s.slot → cells_has m.cells s.ep s.slot ≡ false
    no_place_ahead far =
        far_no_place Ru c cursor.since.0 m.cells (accepted_of c h.arrivals) (timely_of Ru c h.arrivals) s.endpoint s.ep s.slot keeps.holds.keeps swept.endpoint far

    pub looked_up : still_reported Ru (ru_known c h.arrivals) h.reported s.ep s.endpoint s.slot s.symbol ≡ left_at m.cells s
    looked_up = elim found [
      | inl live ↦ live_lookup c m clock cursor h keeps s swept.endpoint (slot_told live) swept.symbol_is live swept.starts
      | inr far ↦ nothing_ahead far ∙ sym (nothing_without_place m.cells s (no_place_ahead far))
    ]

    -- where it is none of which something is left, nothing is told of it
    pub quiet : (IsSymbol m.cells s → is_left m.cells s ≡ true → ⊥) → still_reported Ru (ru_known c h.arrivals) h.reported s.ep s.endpoint s.slot s.symbol ≡ []
    quiet never = elim found [
      | inr far ↦ nothing_ahead far
      | inl live ↦ elim (cases_Bool (cells_has m.cells s.ep s.slot)) [
        | inr none ↦ looked_up ∙ nothing_without_place m.cells s none
        | inl has ↦ elim (cases_Bool (is_left m.cells s)) [
          | inr none ↦ looked_up ∙ nothing_left m.cells s none
          | inl left ↦ absurd (never (record {
            at = at_rings Ru c m.cells s.ep s.endpoint keeps.holds.of swept.endpoint;
            slot_is = slot_told live;
            symbol_is = swept.symbol_is;
            starts = sym swept.starts;
            has = has;
          }) left)
        ]
      ]
    ]
