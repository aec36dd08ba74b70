-- The planned cell at the cursor: what is told of it, and what the intake keeps once it was told, or where none is planned.
use Rattle.std.proofs.Common.{◌≡◌, ℕ, ℤ, pos, ◌+◌, ◌-◌, ◌<◌, ◌+ℤ◌, ◌-ℤ◌, ◌*◌, ◌≤ℤ◌, Bool, true, false, not, ◌&&◌, ◌||◌, ◌==◌, List, [], ◌∷◌, ◌++◌, filter, Some, inl, inr, refl, sym, ap, ap₂, ◌∙◌, subst, arith}
use Rattle.std.specs.Prelude.{nat_lt, if◌then◌else◌}
use Rattle.std.specs.List.{list_any}
use Rattle.std.proofs.lemmas.Bool.{and_from, and_parts, cases_Bool, eq-eqb, eqb-true}
use Rattle.std.proofs.lemmas.Bool.Decides.{nat_tests}
use Rattle.std.proofs.lemmas.Int.{ints, by_lt_z}
use Rattle.std.proofs.lemmas.List.Elements.{All-nil, All-append, All-cons}
use Rattle.std.proofs.lemmas.List.Folds.{list_any-append}
use Rattle.std.specs.Int.Signed.{≤ℤ_refl}
use Rattle.fh_base.specs.Air.{air_of, span_of}
use Rattle.fh_base.specs.Kinds.{kind_start}
use Rattle.fh_base.specs.declared.values.Slot.{Slot}
use Rattle.fh_base.proofs.Order.{symbol_in_span, symbols_in_order}
use Rattle.air_source.specs.declared.events.AirCell.{AirCell}
use Rattle.air_source.specs.declared.events.Side.TheVariants.{Du}
use Rattle.window_config.specs.Rings.{IsLive}
use Rattle.window_config.specs.Windows.{ticks_of_ns}
use Rattle.window_config.specs.declared.config.Config.{Config}
use Rattle.window_config.specs.declared.endpoints.EndpointConfig.{EndpointConfig}
use Rattle.unit_model.specs.Claims.{claim_at, same_slot, same_way}
use Rattle.unit_model.specs.Counts.{cells_counted}
use Rattle.fh_base.specs.Lists.{each}
use Rattle.unit_model.specs.Order.{comes_before}
use Rattle.unit_model.specs.Proper.{IsAt, IsSlot}
use Rattle.unit_model.specs.Radiated.{Known, air_cell, first_clock, used_mask, wait_of}
use Rattle.unit_model.specs.Reports.{arrivals_counted, du_known, timely_of}
use Rattle.unit_model.specs.Standing.{History, IsCell, IsOwed, cell_heard, due, heard, past_of, still_reported}
use Rattle.unit_model.specs.Starts.{start_at}
use Rattle.unit_model.specs.Sweeps.{OfSymbol}
use Rattle.unit_model.specs.declared.allocations.Allocation.{Allocation}
use Rattle.unit_model.specs.declared.cells.Cell.{Cell}
use Rattle.unit_model.specs.declared.symbol_start.SymbolStart.{SymbolStart}
use Rattle.unit_model.specs.Swept.{IsSwept}
use Rattle.unit_laws.proofs.DueLemmas.{due_begins, due_in_pieces, due_left, heard_differ, unheard}
use Rattle.unit_laws.proofs.FarLemmas.{endpoints_equal}
use Rattle.unit_cells.specs.Cells.{cells_block}
use Rattle.unit_cells.proofs.TimeLemmas.{live_at}
use Rattle.unit_cells.proofs.ToldLemmas.{told_whole}
use Rattle.unit_laws.specs.First.{IsSweptIn, told_of}
use Rattle.unit_laws.proofs.FirstLemmas.{first_is_first}
use Rattle.unit_laws.proofs.HistoryTicks.{last_before}
use Rattle.unit_laws.proofs.UnitLemmas.{same_ids, not_both}
use Rattle.unit_laws.proofs.HistoryLists.{one_of_two}
use Rattle.plan_model.proofs.TimeLemmas.{by_then}
use Rattle.unit_memory.specs.Memory.{Holds}
use Rattle.unit_memory.specs.declared.memory.UnitMemory.{UnitMemory}
use Rattle.unit_memory.proofs.HoldLemmas.{holds_later}
use Rattle.unit_symbols.specs.DueSymbols.{CountsTold}
use Rattle.unit_symbols.proofs.OrderLemmas.{not_before_itself}
use Rattle.unit_symbols.proofs.CountLemmas.{stand_told}
use Rattle.unit_laws.proofs.BeforeLemmas.{same_place}
use Rattle.du_intake.specs.Cursors.{CellCursor, uplink_cell_in, is_behind}
use Rattle.du_intake.specs.Units.{IntakeKeeps, intake_due_of}
use Rattle.du_intake.proofs.DueLemmas.{begun_late, by_cells, cells_left, each_nothing, next_swept, nothing_if, one_cell, own_not_behind, quiet, used_cell, wait_bounds}
use Rattle.du_intake.proofs.UnitLemmas.{all_told}
use Rattle.unit_model.proofs.ClaimLemmas.{same_slot_is as slots_equal, slot_self as slot_own}
use Rattle.fh_base.proofs.Orders.{not_none, not_zero, at_most}
use Rattle.air_source.specs.Units.{is_down}
use Rattle.fh_base.specs.declared.symbols.TheConstants.{SUBFRAME}
use Rattle.fh_base.proofs.EachLemmas.{each_more, each_split}

-- ---- tests

behind_more : (a b t : Bool) (p n : ℕ) → (t ≡ true → (a ≡ false) × ((b ≡ false) × (p ≡ n))) → (a ≡ false → b ≡ false → p ≡ n → t ≡ true)
    → (a || (not b && nat_lt p (n + 1))) ≡ ((a || (not b && nat_lt p n)) || (t || false))
behind_more true b t p n h k = refl
behind_more false true true p n h k = let w = h refl in absurd (both_ways w.1.0)
  where
    both_ways : true ≡ false → ⊥
    both_ways e = cc
behind_more false true false p n h k = refl
behind_more false false true p n h k = let w = h refl in one_more p n w.1.1
  where
    one_more : (p n : ℕ) → p ≡ n → nat_lt p (n + 1) ≡ (nat_lt p n || true)
    one_more p n e = grind (arith, nat_tests)
behind_more false false false p n h k = same p n (λ e. both_ways (k refl refl e))
  where
    both_ways : false ≡ true → ⊥
    both_ways e = cc

    same : (p n : ℕ) → (p ≡ n → ⊥) → nat_lt p (n + 1) ≡ (nat_lt p n || false)
    same p n other = elim (cases_Bool (p == n)) [ inl e ↦ absurd (other (eqb-true p n e)) | inr e ↦ grind (arith, nat_tests) ]

behind_same : (a b : Bool) (p n : ℕ) → (a ≡ false → b ≡ false → p ≡ n → ⊥) → (a || (not b && nat_lt p (n + 1))) ≡ (a || (not b && nat_lt p n))
behind_same true b p n h = refl
behind_same false true p n h = refl
behind_same false false p n h = same p n (λ e. h refl refl e)
  where
    same : (p n : ℕ) → (p ≡ n → ⊥) → nat_lt p (n + 1) ≡ nat_lt p n
    same p n other = elim (cases_Bool (p == n)) [ inl e ↦ absurd (other (eqb-true p n e)) | inr e ↦ grind (arith, nat_tests) ]

pub own_behind : (a b : Bool) (p n : ℕ) → a ≡ false → b ≡ false → p < n → (a || (not b && nat_lt p n)) ≡ true
own_behind true b p n h k l = cc
own_behind false true p n h k l = cc
own_behind false false p n h k l = grind (arith, nat_tests)

own_ahead : (n : ℕ) → nat_lt n n ≡ false
own_ahead n = grind (arith, nat_tests)

or_none : (b : Bool) → (b || false) ≡ true → b ≡ true
or_none true h = refl
or_none false h = cc

one_unless : (none : Bool) (a : AirCell) → none ≡ false → (let xs : List AirCell = if none then [] else a ∷ [] in xs) ≡ a ∷ []
one_unless true a h = cc
one_unless false a h = refl

-- ---- times

live_begun : (first start wait none : ℤ) → first ≤ℤ start → pos 0 ≤ℤ wait → pos 0 ≤ℤ none → (first -ℤ none) ≤ℤ (start +ℤ wait)
live_begun first start wait none h k l = omega (arith, ints)

live_lasting : (first start wait span : ℤ) → start ≤ℤ (first +ℤ span) → (start +ℤ wait) ≤ℤ (first +ℤ span +ℤ wait)
live_lasting first start wait span h = omega (arith, ints)

no_ticks : pos 0 ≤ℤ ticks_of_ns (pos 0)
no_ticks = omega (arith, ints)

same_fields : (s : SymbolStart) (cell : Cell) (prb : ℕ) → cell.ep ≡ s.ep → cell.down ≡ false → cell.slot ≡ s.slot → cell.symbol ≡ s.symbol → cell.prb ≡ prb → cell ≡ uplink_cell_in s prb
same_fields s cell prb ep down slot symbol here =
    ap (λ (x : ℕ). let r : Cell = record { ep = x; down = cell.down; slot = cell.slot; symbol = cell.symbol; prb = cell.prb } in r) ep
    ∙ ap (λ (x : Bool). let r : Cell = record { ep = s.ep; down = x; slot = cell.slot; symbol = cell.symbol; prb = cell.prb } in r) down
    ∙ ap (λ (x : Slot). let r : Cell = record { ep = s.ep; down = false; slot = x; symbol = cell.symbol; prb = cell.prb } in r) slot
    ∙ ap (λ (x : ℕ). let r : Cell = record { ep = s.ep; down = false; slot = s.slot; symbol = x; prb = cell.prb } in r) symbol
    ∙ ap (λ (x : ℕ). let r : Cell = record { ep = s.ep; down = false; slot = s.slot; symbol = s.symbol; prb = x } in r) here

abbrev pub cursor_at : SymbolStart → ℕ → CellCursor
cursor_at next prb = record { next = Some next; prb = prb }

-- the memory with other counters
abbrev pub with_counters : UnitMemory → List ℕ → UnitMemory
with_counters m counters = record { endpoints = m.endpoints; cells = m.cells; assembly = m.assembly; counters = counters }

module _ (c : Config) (planned : List Allocation) (m : UnitMemory) (clock : ℤ) (h : History) (next : SymbolStart) (prb : ℕ)
    (k : IntakeKeeps c planned m clock (cursor_at next prb) h) where
  abbrev known : Known
  known = du_known c planned h.arrivals

  abbrev still : OfSymbol AirCell
  still = still_reported Du known h.reported

  abbrev wait : ℤ
  wait = wait_of Du c.delays

  pub swept : IsSwept c.endpoints next.ep next.endpoint next.slot next.symbol next.start.0
  swept = next_swept c planned m clock (cursor_at next prb) h k next refl k.named

  pub own_start : start_at next.ep next.endpoint next.slot next.symbol ≡ next
  own_start = ap (λ (t : ℤ). (let y : SymbolStart = record { ep = next.ep; endpoint = next.endpoint; start = record { 0 = t }; slot = next.slot; symbol = next.symbol } in y)) swept.starts

  pub slot_is : IsSlot next.endpoint.numerology next.slot
  slot_is =
      let p = k.plan k.named.k k.named.by k.named.at in
      subst (λ (x : SymbolStart). IsSlot x.endpoint.numerology x.slot) (sym k.named.names.is) p.timed.slot_is

  pub wait_low : pos 0 ≤ℤ wait
  wait_low =
      let limits = k.holds.config.delays in
      (wait_bounds c.delays.ta4.max (at_most (pos 0) c.delays.ta4.min c.delays.ta4.max limits.ta4.low limits.ta4.order) limits.ta4.high).0

  -- the cell, and what is told of it
  abbrev pub here : Cell
  here = uplink_cell_in next prb

  abbrev pub told_cell : AirCell
  told_cell = air_cell Du next.endpoint here (air_of next.endpoint.numerology next.slot next.symbol) (claim_at planned here) (known.blocks here)

  -- ---- cells at the cursor's place

  same_start : (e : EndpointConfig) (cell : Cell) → IsAt c.endpoints cell.ep e → cell.ep ≡ next.ep → cell.slot ≡ next.slot → cell.symbol ≡ next.symbol
      → start_at cell.ep e cell.slot cell.symbol ≡ next
  same_start e cell at ep slot symbol =
      ap (λ (x : EndpointConfig). start_at cell.ep x cell.slot cell.symbol) (endpoints_equal c.endpoints cell.ep next.ep e next.endpoint at swept.endpoint ep)
      ∙ ap (λ (x : ℕ). start_at x next.endpoint cell.slot cell.symbol) ep
      ∙ ap (λ (x : Slot). start_at next.ep next.endpoint x cell.symbol) slot
      ∙ ap (λ (x : ℕ). start_at next.ep next.endpoint next.slot x) symbol ∙ own_start

  neither_before : (x : SymbolStart) → x ≡ next → (comes_before x next ≡ false) × (comes_before next x ≡ false)
  neither_before x e =
      (ap (λ (y : SymbolStart). comes_before y next) e ∙ not_before_itself next, ap (λ (y : SymbolStart). comes_before next y) e ∙ not_before_itself next)

  -- a cell of the same place
  place_cell : (e : EndpointConfig) (cell : Cell) → cell.down ≡ false → comes_before (start_at cell.ep e cell.slot cell.symbol) next ≡ false
      → comes_before next (start_at cell.ep e cell.slot cell.symbol) ≡ false → cell.prb ≡ prb → cell ≡ here
  place_cell e cell down a b p =
      let place = same_place (start_at cell.ep e cell.slot cell.symbol) next a b in
      same_fields next cell prb place.ep down place.slot_is place.symbol p

  -- where none is planned there, the next PRB is as good
  pub keeps_unplanned : used_mask (claim_at planned here) ≡ 0 → IntakeKeeps c planned m clock (cursor_at next (prb + 1)) h
  keeps_unplanned none = record {
    holds = k.holds;
    clock_is = k.clock_is;
    time = k.time;
    begun = k.begun;
    past = k.past;
    told = k.told;
    differ = k.differ;
    owed = k.owed;
    given = k.given;
    plan = k.plan;
    reports = λ e cell is down used.
        k.reports e cell is down used
        ∙ sym (behind_same (comes_before (start_at cell.ep e cell.slot cell.symbol) next) (comes_before next (start_at cell.ep e cell.slot cell.symbol)) cell.prb prb
        (λ a b p. not_both (used_mask (claim_at planned cell)) (ap (λ (x : Cell). used_mask (claim_at planned x)) (place_cell e cell down a b p) ∙ none) used));
    named = k.named;
  }

  module _ (below : prb < next.endpoint.prbs) (used : 0 < used_mask (claim_at planned here)) where
    pub is_cell : IsCell c next.endpoint here
    is_cell = used_cell c planned m clock (cursor_at next prb) h k next.endpoint here next.start.0 swept below used

    heard_place : (e : EndpointConfig) (cell : Cell) → IsAt c.endpoints cell.ep e → cell_heard e cell told_cell ≡ true
        → (cell.ep ≡ next.ep) × ((cell.slot ≡ next.slot) × ((cell.symbol ≡ next.symbol) × (cell.prb ≡ prb)))
    heard_place e cell at t =
        let way = and_parts (same_way (is_down Du) cell.down) _ t in
        let one = and_parts (next.endpoint.id == e.id) _ way.1 in
        let two = and_parts (same_slot next.slot cell.slot) _ one.1 in
        let three = and_parts (next.symbol == cell.symbol) (prb == cell.prb) two.1 in (
          sym (same_ids c.endpoints next.ep cell.ep next.endpoint e k.holds.config.endpoints.differ swept.endpoint at (eqb-true next.endpoint.id e.id one.0)),
          (sym (slots_equal next.slot cell.slot two.0), (sym (eqb-true next.symbol cell.symbol three.0), sym (eqb-true prb cell.prb three.1))),
        )

    heard_own : cell_heard next.endpoint here told_cell ≡ true
    heard_own =
        and_from (next.endpoint.id == next.endpoint.id) _ (eq-eqb next.endpoint.id next.endpoint.id refl)
        (and_from (same_slot next.slot next.slot) _ (slot_own next.slot)
        (and_from (next.symbol == next.symbol) (prb == prb) (eq-eqb next.symbol next.symbol refl) (eq-eqb prb prb refl)))

    place_heard : (e : EndpointConfig) (cell : Cell) → IsAt c.endpoints cell.ep e → cell ≡ here → cell_heard e cell told_cell ≡ true
    place_heard e cell at is =
        let same : e ≡ next.endpoint = endpoints_equal c.endpoints cell.ep next.ep e next.endpoint at swept.endpoint (ap (λ (x : Cell). x.ep) is) in
        ap₂ (λ (f : EndpointConfig) (x : Cell). cell_heard f x told_cell) same is ∙ heard_own

    reports_now : (e : EndpointConfig) (cell : Cell) → IsCell c e cell → cell.down ≡ false → 0 < used_mask (claim_at planned cell)
        → list_any (cell_heard e cell) (h.reported ++ told_cell ∷ []) ≡ is_behind (Some next) (prb + 1) (start_at cell.ep e cell.slot cell.symbol) cell.prb
    reports_now e cell is down used_too =
        let x = start_at cell.ep e cell.slot cell.symbol in
        list_any-append (cell_heard e cell) h.reported (told_cell ∷ [])
        ∙ ap (λ (b : Bool). b || (cell_heard e cell told_cell || false)) (k.reports e cell is down used_too)
        ∙ sym (behind_more (comes_before x next) (comes_before next x) (cell_heard e cell told_cell) cell.prb prb
        (λ t.
        let p = heard_place e cell is.endpoint t in
        let n = neither_before x (same_start e cell is.endpoint p.0 p.1.0 p.1.1.0) in
        (n.0, (n.1, p.1.1.1)))
        (λ a b p. place_heard e cell is.endpoint (place_cell e cell down a b p)))

    told_now : (e : EndpointConfig) (cell : Cell) → IsCell c e cell → cell.down ≡ false → list_any (cell_heard e cell) (h.reported ++ told_cell ∷ []) ≡ true
        → 0 < used_mask (claim_at planned cell)
    told_now e cell is down there =
        one_of_two (list_any (cell_heard e cell) h.reported) (cell_heard e cell told_cell || false) (sym (list_any-append (cell_heard e cell) h.reported (told_cell ∷ [])) ∙ there)
        (λ before. k.told e cell is down before)
        (λ now.
        let p = heard_place e cell is.endpoint (or_none (cell_heard e cell told_cell) now) in
        subst (λ (x : Cell). 0 < used_mask (claim_at planned x)) (sym (same_fields next cell prb p.0 down p.1.0 p.1.1.0 p.1.1.1)) used)

    owed_one : IsOwed Du c known told_cell
    owed_one = record {
      endpoint = next.endpoint;
      cell = here;
      is_cell = is_cell;
      down = refl;
      of_cell = heard_own;
      starts = refl;
      used = used;
    }

    -- ---- what is still to be told of its symbol

    abbrev left : ℕ → List AirCell
    left = cells_left known h.reported next.ep next.endpoint next.slot next.symbol

    abbrev later : List AirCell
    later = each (prb + 1) (next.endpoint.prbs - (prb + 1)) left

    reported_here : (q : ℕ) → q < next.endpoint.prbs → (b : Bool) → 0 < used_mask (claim_at planned (uplink_cell_in next q)) → is_behind (Some next) prb next q ≡ b
        → list_any (cell_heard next.endpoint (uplink_cell_in next q)) h.reported ≡ b
    reported_here q small b used_too behind =
        k.reports next.endpoint (uplink_cell_in next q) (used_cell c planned m clock (cursor_at next prb) h k next.endpoint (uplink_cell_in next q) next.start.0 swept small used_too) refl used_too
        ∙ ap (λ (x : SymbolStart). is_behind (Some next) prb x q) own_start ∙ behind

    told_before : (q : ℕ) → q < prb → left q ≡ []
    told_before q less =
        let cell = uplink_cell_in next q in
        let start = air_of next.endpoint.numerology next.slot next.symbol in
        let done = list_any (cell_heard next.endpoint cell) h.reported in
        one_cell next.endpoint cell start (claim_at planned cell) (known.blocks cell) h.reported done refl refl
        ∙ nothing_if done (used_mask (claim_at planned cell) == 0) (air_cell Du next.endpoint cell start (claim_at planned cell) (known.blocks cell)) (λ some.
        reported_here q (omega (arith, less, below)) true (not_zero (used_mask (claim_at planned cell)) some)
        (own_behind (comes_before next next) (comes_before next next) q prb (not_before_itself next) (not_before_itself next) less))

    told_here : left prb ≡ told_cell ∷ []
    told_here =
        let start = air_of next.endpoint.numerology next.slot next.symbol in
        one_cell next.endpoint here start (claim_at planned here) (known.blocks here) h.reported false refl
        (reported_here prb below false used
        (own_not_behind (comes_before next next) (not (comes_before next next)) (nat_lt prb prb) (not_before_itself next) (own_ahead prb)))
        ∙ one_unless (used_mask (claim_at planned here) == 0) told_cell (not_none (used_mask (claim_at planned here)) used)

    pub still_here : told_of still next ≡ told_cell ∷ later
    still_here =
        let count : next.endpoint.prbs ≡ (prb + 1) + (next.endpoint.prbs - (prb + 1)) = omega (arith, below) in
        let place : 0 + (prb + 1) ≡ prb + 1 = omega arith in
        by_cells known h.reported next.ep next.endpoint next.slot next.symbol
        ∙ ap (λ (n : ℕ). each 0 n left) count
        ∙ each_split 0 (prb + 1) (next.endpoint.prbs - (prb + 1)) left
        ∙ ap (λ (n : ℕ). each 0 (prb + 1) left ++ each n (next.endpoint.prbs - (prb + 1)) left) place
        ∙ ap (λ (xs : List AirCell). xs ++ later) (each_more prb left ∙ ap₂ ◌++◌ (each_nothing prb left told_before) told_here)

    -- ---- it is due first

    pub due_is : (to : ℤ) → (next.start.0 +ℤ wait) ≤ℤ to → (rest : List AirCell) × (intake_due_of c planned h to ≡ told_cell ∷ rest)
    unfolding due
    due_is to order =
        let from = first_clock -ℤ wait in
        let end = (to -ℤ wait) +ℤ pos 1 in
        let is : IsSweptIn c.endpoints from end next = record { swept = swept; low = begun; high = by_then next.start.0 wait to order } in
        let silent : (x : SymbolStart) → IsSweptIn c.endpoints from end x → comes_before x next ≡ true → told_of still x ≡ [] =
        λ x in_x before.
        let own = start_at x.ep x.endpoint x.slot x.symbol in
        let same : own ≡ x =
        ap (λ (t : ℤ). (let y : SymbolStart = record { ep = x.ep; endpoint = x.endpoint; start = record { 0 = t }; slot = x.slot; symbol = x.symbol } in y)) in_x.swept.starts in
        quiet c planned m clock (cursor_at next prb) h k x in_x.swept (λ q small. first_behind (comes_before own next) _ (ap (λ (y : SymbolStart). comes_before y next) same ∙ before)) in
        let all = first_is_first still still c.endpoints from end next is silent silent (λ x in_x after. refl) in
        (later ++ all.rest, all.one ∙ ap (λ (xs : List AirCell). xs ++ all.rest) still_here)
      where
        first_behind : (a b : Bool) → a ≡ true → (a || b) ≡ true
        first_behind a b h = rw h refl

        begun : (first_clock -ℤ wait) ≤ℤ next.start.0
        begun =
            let a = k.named.by in
            let p = k.plan k.named.k a k.named.at in
            let frame : next.slot.frame ≡ a.slot.frame = ap (λ (x : SymbolStart). x.slot.frame) k.named.names.is in
            begun_late next.slot.frame next.start.0 (next.slot.subframe * SUBFRAME + kind_start next.endpoint.numerology.kind next.slot.slot next.symbol) wait
            (subst (λ (f : ℤ). pos 1 ≤ℤ f) (sym frame) p.begun) (sym swept.starts) wait_low

    pub due_goes : (to : ℤ) → (next.start.0 +ℤ wait) ≤ℤ to → intake_due_of c planned h to ≡ told_cell ∷ intake_due_of c planned (heard h (told_cell ∷ [])) to
    due_goes to order =
        let d = due_is to order in
        d.1 ∙ ap (λ (xs : List AirCell). told_cell ∷ xs)
        (sym (due_in_pieces Du c.delays c.endpoints known h.reported (told_cell ∷ []) d.0 to k.holds.config.endpoints.differ d.1))

    -- ---- the block

    late : h.clock ≤ℤ (next.start.0 +ℤ wait)
    late =
        let moment = next.start.0 +ℤ wait in
        by_lt_z moment h.clock
        (λ before.
        let b = due_begins Du c.delays c.endpoints known h.reported moment (h.clock -ℤ pos 1) (last_before moment h.clock before) in
        let d = due_is moment (≤ℤ_refl moment) in
        absurd (no_first told_cell (d.0 ++ b.0) (sym (ap (λ (xs : List AirCell). xs ++ b.0) d.1) ∙ sym b.1 ∙ k.past)))
        (λ after. after)
      where
        no_first : (x : AirCell) (xs : List AirCell) → x ∷ xs ≡ [] → ⊥
        no_first x xs e = cc

    live : IsLive next.endpoint.numerology (pos 0) c.delays.ta4.max (next.start.0 +ℤ wait) next.slot
    live =
        let n = next.endpoint.numerology in
        let starts : air_of n next.slot next.symbol ≡ next.start.0 = swept.starts in
        record {
          begun = live_begun (air_of n next.slot 0) next.start.0 wait (ticks_of_ns (pos 0))
              (subst (λ (t : ℤ). air_of n next.slot 0 ≤ℤ t) starts (symbols_in_order n next.slot 0 next.symbol (omega arith))) wait_low no_ticks;
          lasting = live_lasting (air_of n next.slot 0) next.start.0 wait (pos (span_of n))
              (subst (λ (t : ℤ). t ≤ℤ (air_of n next.slot 0 +ℤ pos (span_of n))) starts (symbol_in_span n next.slot next.symbol swept.symbol_is));
        }

    pub block_is : cells_block m.cells here ≡ known.blocks here
    block_is =
        let moment = next.start.0 +ℤ wait in
        let holds = holds_later Du c h.clock moment m h.arrivals (cells_counted h.reported) late k.holds in
        holds.keeps.blocks next.endpoint here is_cell refl (live_at Du c moment next.endpoint next.ep next.slot swept.endpoint live)
        ∙ told_whole (timely_of Du c h.arrivals) here (all_told c planned m clock (cursor_at next prb) h k)

    -- ---- what is kept once it was told

    module _ (counters : List ℕ) (counted : CountsTold (told_cell ∷ []) m.counters counters) where
      holds_now : Holds Du c h.clock (with_counters m counters) h.arrivals (cells_counted (h.reported ++ told_cell ∷ []))
      holds_now = record {
        config = k.holds.config;
        endpoints = k.holds.endpoints;
        of = k.holds.of;
        came = k.holds.came;
        times = k.holds.times;
        fragments = k.holds.fragments;
        places = k.holds.places;
        hold = k.holds.hold;
        counts = stand_told m.counters counters (arrivals_counted Du c h.arrivals) h.reported (told_cell ∷ []) k.holds.counts counted;
        keeps = k.holds.keeps;
      }

      pub keeps_told : IntakeKeeps c planned (with_counters m counters) clock (cursor_at next (prb + 1)) (heard h (told_cell ∷ []))
      keeps_told = record {
        holds = holds_now;
        clock_is = k.clock_is;
        time = k.time;
        begun = k.begun;
        past =
            sym (due_left Du c.delays c.endpoints known h.reported (told_cell ∷ []) (past_of Du h.clock)) ∙ ap (filter (unheard (told_cell ∷ []))) k.past;
        told = told_now;
        differ =
            heard_differ Du known next.ep next.endpoint next.slot next.symbol h.reported (told_cell ∷ []) later k.differ still_here;
        owed = All-append (IsOwed Du c known) h.reported (told_cell ∷ []) k.owed (All-cons (IsOwed Du c known) told_cell [] owed_one (All-nil (IsOwed Du c known)));
        given = k.given;
        plan = k.plan;
        reports = reports_now;
        named = k.named;
      }
