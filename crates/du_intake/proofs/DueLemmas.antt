-- What is due at the distributed unit, by its cursor.
use Rattle.std.proofs.Common.{◌≡◌, ◌≢◌, ℕ, zero, suc, ℤ, pos, ◌+◌, ◌<◌, ◌≤◌, ◌+ℤ◌, ◌-ℤ◌, ◌*ℤ◌, ◌*◌, ◌≤ℤ◌, ◌<ℤ◌, Bool, true, false, not, ◌&&◌, ◌||◌, ◌==◌, if◌then◌else◌, List, [], ◌++◌, filter, Option, Some, None, inl, inr, refl, sym, ap, ◌∙◌, subst, arith}
use Rattle.std.specs.Prelude.{nat_lt, neg_ℤ, ◌^◌}
use Rattle.std.specs.List.{list_any, slice_get}
use Rattle.std.proofs.lemmas.Bool.{cases_Bool, eqb-true, le-ltb, or_left}
use Rattle.std.proofs.lemmas.Bool.Decides.{nat_tests}
use Rattle.std.proofs.lemmas.Int.{ints}
use Rattle.std.proofs.lemmas.Option.{MatchOption-at_some}
use Rattle.fh_base.specs.Air.{air_of}
use Rattle.fh_base.specs.Kinds.{kind_start}
use Rattle.fh_base.specs.declared.values.Slot.{Slot}
use Rattle.fh_base.specs.declared.values.Ticks.{Ticks}
use Rattle.fh_base.proofs.Kept.{offsets_short}
use Rattle.air_source.specs.declared.events.AirCell.{AirCell}
use Rattle.air_source.specs.declared.events.Side.TheVariants.{Du}
use Rattle.window_config.specs.declared.config.Config.{Config}
use Rattle.window_config.specs.declared.endpoints.EndpointConfig.{EndpointConfig}
use Rattle.unit_model.specs.Claims.{claim_at, is_from}
use Rattle.fh_base.specs.Lists.{each}
use Rattle.unit_model.specs.Order.{comes_before}
use Rattle.unit_model.specs.Radiated.{Known, air_cell, cell_report, first_clock, report_of, symbol_report, used_mask, wait_of}
use Rattle.unit_model.specs.Reports.{du_known}
use Rattle.unit_model.specs.Standing.{History, IsCell, cell_heard, due, still_reported}
use Rattle.unit_model.specs.Starts.{start_at}
use Rattle.unit_model.specs.Sweeps.{OfSymbol}
use Rattle.unit_model.specs.declared.allocations.Allocation.{Allocation}
use Rattle.unit_model.specs.declared.cells.Block.{Block}
use Rattle.unit_model.specs.declared.cells.Cell.{Cell}
use Rattle.unit_model.specs.declared.cells.Claim.{Claim}
use Rattle.unit_model.specs.declared.symbol_start.SymbolStart.{SymbolStart}
use Rattle.unit_model.specs.Swept.{IsSwept}
use Rattle.unit_laws.proofs.DueLemmas.{unheard}
use Rattle.unit_laws.proofs.FrameLemmas.{symbol_short, symbols_are_swept}
use Rattle.window_config.specs.Windows.{ticks_of_ns}
use Rattle.unit_laws.proofs.LookupLemmas.{reported_by_lookup}
use Rattle.unit_model.proofs.SweepLemmas.{each_related, none_kept}
use Rattle.unit_laws.specs.First.{IsSweptIn, told_of}
use Rattle.unit_laws.proofs.FirstLemmas.{first_is_first, nothing_is_nothing}
use Rattle.unit_laws.proofs.HistoryLists.{kept_one, filter_kept, both_nothing, one_unless}
use Rattle.unit_memory.specs.declared.memory.UnitMemory.{UnitMemory}
use Rattle.unit_symbols.proofs.OrderLemmas.{not_before_itself}
use Rattle.du_intake.specs.Cursors.{CellCursor, HasStillLeft, IsNamed, uplink_cell_in, is_behind}
use Rattle.du_intake.specs.Symbols.{planned_start_in, symbol_at}
use Rattle.du_intake.specs.Units.{IntakeKeeps, IntakeStands, cursor_by, intake_due_of}
use Rattle.du_intake.specs.Calls.{IsLeastIntakeMoment}
use Rattle.du_intake.specs.declared.plan.Place.{Place}
use Rattle.du_intake.specs.declared.plan.UplinkPlan.{UplinkPlan}
use Rattle.du_intake.specs.declared.symbols.PlannedSymbol.{PlannedSymbol}
use Rattle.du_intake.proofs.NextLemmas.{start_is as kept_start}
use Rattle.du_intake.proofs.UsedLemmas.{used_named}
use Rattle.fh_base.specs.declared.frames.TheConstants.{FRAME}
use Rattle.window_config.specs.declared.delays.TheConstants.{MOST_DELAY}
use Rattle.window_config.specs.declared.plan.TheConstants.{LAST_FRAME}
use Rattle.fh_base.proofs.Orders.{not_none, not_zero, at_most}
use Rattle.unit_model.proofs.ClaimLemmas.{start_before}
use Rattle.fh_base.specs.declared.symbols.TheConstants.{SUBFRAME}

-- ---- what is told of one cell

-- what an air has still to hear of an uplink cell
pub one_cell : (e : EndpointConfig) (cell : Cell) (start : ℤ) (claims : ℕ → Option Claim) (block : Option Block) (heard : List AirCell) (done : Bool)
    → cell.down ≡ false → list_any (cell_heard e cell) heard ≡ done
    → filter (unheard heard) (report_of Du e cell start claims block) ≡ (if done then [] else report_of Du e cell start claims block)
one_cell e cell start claims block heard done down is =
    kept_one (unheard heard) (used_mask claims == 0) done (air_cell Du e cell start claims block)
    (ap not (reported_by_lookup Du e cell start claims block heard down ∙ is))

pub nothing_if : (done none : Bool) (a : AirCell) → (none ≡ false → done ≡ true) → (let xs : List AirCell = if done then [] else one_unless none a in xs) ≡ []
nothing_if true none a h = refl
nothing_if false true a h = refl
nothing_if false false a h = let e : false ≡ true = h refl in cc

something_if : (done none : Bool) (a : AirCell) → done ≡ false → none ≡ false → (let xs : List AirCell = if done then [] else one_unless none a in xs) ≢ []
something_if true none a h k = cc
something_if false true a h k = cc
something_if false false a h k = λ e. cc

-- what is still to be told of a symbol, cell by cell
abbrev pub cells_left : Known → List AirCell → ℕ → EndpointConfig → Slot → ℕ → ℕ → List AirCell
cells_left k heard ep e slot symbol prb = filter (unheard heard) (cell_report Du k ep e slot symbol prb)

pub by_cells : (k : Known) (heard : List AirCell) (ep : ℕ) (e : EndpointConfig) (slot : Slot) (symbol : ℕ)
    → still_reported Du k heard ep e slot symbol ≡ each 0 e.prbs (cells_left k heard ep e slot symbol)
unfolding still_reported symbol_report
by_cells k heard ep e slot symbol =
    each_related (λ xs ys. filter (unheard heard) xs ≡ ys) (filter_kept (unheard heard)) 0 e.prbs (cell_report Du k ep e slot symbol)
    (cells_left k heard ep e slot symbol) (λ prb above below. refl)

pub each_nothing : (n : ℕ) (f : ℕ → List AirCell) → ((k : ℕ) → k < n → f k ≡ []) → each 0 n f ≡ []
each_nothing n f none = each_related (λ xs ys. xs ≡ []) none_kept 0 n f f (λ k above below. none k (small k n below))
  where
    small : (k n : ℕ) → k < 0 + n → k < n
    small k n h = omega arith

each_nothing_at : (from n : ℕ) (f : ℕ → List AirCell) (k : ℕ) → each from n f ≡ [] → from ≤ k → k < from + n → f k ≡ []
unfolding each
each_nothing_at from zero f k h low high = absurd (omega arith)
each_nothing_at from (suc n) f k h low high =
    let parts = both_nothing (f from) (each (from + 1) n f) h in
    elim (cases_Bool (from == k)) [
      | inl here ↦ ap f (sym (eqb-true from k here)) ∙ parts.0
      | inr other ↦ each_nothing_at (from + 1) n f k parts.1 (grind (arith, nat_tests)) (omega arith)
    ]

pub own_not_behind : (a b x : Bool) → a ≡ false → x ≡ false → (a || (b && x)) ≡ false
own_not_behind a true x h k = rw (h, k) refl
own_not_behind a false x h k = rw h refl

-- ---- times

pub begun_late : (frame start : ℤ) (offset : ℕ) (wait : ℤ) → pos 1 ≤ℤ frame → start ≡ frame *ℤ FRAME +ℤ pos offset → pos 0 ≤ℤ wait → (first_clock -ℤ wait) ≤ℤ start
begun_late frame start offset wait h e w = omega (arith, ints)

in_end : (start wait : ℤ) → start <ℤ (((start +ℤ wait) -ℤ wait) +ℤ pos 1)
in_end start wait = omega (arith, ints)

earlier : (x start wait to : ℤ) → to <ℤ (start +ℤ wait) → x <ℤ ((to -ℤ wait) +ℤ pos 1) → x <ℤ start
earlier x start wait to h k = omega (arith, ints)

module _ (c : Config) (planned : List Allocation) (m : UnitMemory) (clock : ℤ) (cursor : CellCursor) (h : History) (k : IntakeKeeps c planned m clock cursor h) where
  abbrev known : Known
  known = du_known c planned h.arrivals

  abbrev still : OfSymbol AirCell
  still = still_reported Du known h.reported

  abbrev wait : ℤ
  wait = wait_of Du c.delays

  -- a cell in use is one of the configuration
  pub used_cell : (e : EndpointConfig) (cell : Cell) (tick : ℤ) → IsSwept c.endpoints cell.ep e cell.slot cell.symbol tick → cell.prb < e.prbs
      → 0 < used_mask (claim_at planned cell) → IsCell c e cell
  used_cell e cell tick swept below used =
      let named = used_named c planned e cell k.plan swept.endpoint used in
      let p = k.plan named.k named.by named.at in
      let slots : cell.slot ≡ named.by.slot = ap (λ (x : SymbolStart). x.slot) named.names.is in
      record {
        endpoint = swept.endpoint;
        slot = record {
          low = subst (λ (s : Slot). neg_ℤ (pos 1000000) ≤ℤ s.frame) (sym slots) p.timed.slot_is.low;
          high = subst (λ (s : Slot). s.frame ≤ℤ pos 1000000) (sym slots) p.timed.slot_is.high;
          subframe = swept.slot_is.subframe;
          slot_is = swept.slot_is.slot;
        };
        symbol = swept.symbol_is;
        prb = below;
      }

  -- nothing is told of a symbol whose cells in use are all before the cursor
  pub quiet : (x : SymbolStart) → IsSwept c.endpoints x.ep x.endpoint x.slot x.symbol x.start.0
      → ((prb : ℕ) → prb < x.endpoint.prbs → is_behind cursor.next cursor.prb (start_at x.ep x.endpoint x.slot x.symbol) prb ≡ true) → told_of still x ≡ []
  quiet x swept behind =
      by_cells known h.reported x.ep x.endpoint x.slot x.symbol
      ∙ each_nothing x.endpoint.prbs (cells_left known h.reported x.ep x.endpoint x.slot x.symbol) (λ prb below.
      let cell = uplink_cell_in x prb in
      let start = air_of x.endpoint.numerology x.slot x.symbol in
      let done = list_any (cell_heard x.endpoint cell) h.reported in
      one_cell x.endpoint cell start (claim_at planned cell) (known.blocks cell) h.reported done refl refl
      ∙ nothing_if done (used_mask (claim_at planned cell) == 0) (air_cell Du x.endpoint cell start (claim_at planned cell) (known.blocks cell)) (λ used.
      let some = not_zero (used_mask (claim_at planned cell)) used in
      k.reports x.endpoint cell (used_cell x.endpoint cell x.start.0 swept below some) refl some ∙ behind prb below))

  -- something is told of a symbol of which a cell in use is not before the cursor
  pub told : (x : SymbolStart) (prb : ℕ) → IsSwept c.endpoints x.ep x.endpoint x.slot x.symbol x.start.0 → prb < x.endpoint.prbs
      → 0 < used_mask (claim_at planned (uplink_cell_in x prb)) → is_behind cursor.next cursor.prb (start_at x.ep x.endpoint x.slot x.symbol) prb ≡ false → told_of still x ≢ []
  told x prb swept below used ahead none =
      let cell = uplink_cell_in x prb in
      let start = air_of x.endpoint.numerology x.slot x.symbol in
      let done = list_any (cell_heard x.endpoint cell) h.reported in
      let here = each_nothing_at 0 x.endpoint.prbs (cells_left known h.reported x.ep x.endpoint x.slot x.symbol) prb
      (sym (by_cells known h.reported x.ep x.endpoint x.slot x.symbol) ∙ none) (omega arith) (omega (arith, below)) in
      something_if done (used_mask (claim_at planned cell) == 0) (air_cell Du x.endpoint cell start (claim_at planned cell) (known.blocks cell))
      (k.reports x.endpoint cell (used_cell x.endpoint cell x.start.0 swept below used) refl used ∙ ahead) (not_none (used_mask (claim_at planned cell)) used)
      (sym (one_cell x.endpoint cell start (claim_at planned cell) (known.blocks cell) h.reported done refl refl) ∙ here)

  -- where the cursor is after all symbols, nothing is due
  pub none_due : cursor.next ≡ None → (to : ℤ) → intake_due_of c planned h to ≡ []
  unfolding due
  none_due none to =
      nothing_is_nothing still c.endpoints (first_clock -ℤ wait) ((to -ℤ wait) +ℤ pos 1) (λ x is.
      quiet x is.swept (λ prb below. ap (λ (o : Option SymbolStart). is_behind o cursor.prb (start_at x.ep x.endpoint x.slot x.symbol) prb) none))

  module _ (next : SymbolStart) (is_next : cursor.next ≡ Some next) (named : IsNamed planned next) where
    by_next : (x : SymbolStart) (prb : ℕ) (b : Bool) → is_behind (Some next) cursor.prb x prb ≡ b → is_behind cursor.next cursor.prb x prb ≡ b
    by_next x prb b e = ap (λ (o : Option SymbolStart). is_behind o cursor.prb x prb) is_next ∙ e

    -- nothing is due before the moment of its symbol
    pub none_before : (to : ℤ) → to <ℤ (next.start.0 +ℤ wait) → intake_due_of c planned h to ≡ []
    unfolding due
    none_before to early =
        nothing_is_nothing still c.endpoints (first_clock -ℤ wait) ((to -ℤ wait) +ℤ pos 1) (λ x is.
        let own = start_at x.ep x.endpoint x.slot x.symbol in
        let before : own.start.0 <ℤ next.start.0 =
        subst (λ (t : ℤ). t <ℤ next.start.0) (sym is.swept.starts) (earlier x.start.0 next.start.0 wait to early is.high) in
        quiet x is.swept (λ prb below. by_next own prb true (or_left (comes_before own next) _ (start_before own next before))))

    -- it is gone over when it starts
    pub next_swept : IsSwept c.endpoints next.ep next.endpoint next.slot next.symbol next.start.0
    next_swept =
        let a = named.by in
        let p = k.plan named.k a named.at in
        let own = start_at a.ep a.endpoint a.slot next.symbol in
        subst (λ (x : SymbolStart). IsSwept c.endpoints x.ep x.endpoint x.slot x.symbol x.start.0) (sym named.names.is)
        (symbols_are_swept c.endpoints a.ep a.endpoint a.slot next.symbol p.at (offsets_short a.endpoint.numerology)
        (record { subframe = p.timed.slot_is.subframe; slot = p.timed.slot_is.slot_is })
        (in_slot a.symbol a.num_symbol next.symbol _ named.names.symbol p.timed.within))
      where
        in_slot : (first count n most : ℕ) → is_from first count n ≡ true → first + count ≤ most → n < most
        in_slot first count n most h k = grind (arith, nat_tests)

    -- something is, at that moment
    pub some_at : HasStillLeft planned cursor.prb next → pos 0 ≤ℤ wait → intake_due_of c planned h (next.start.0 +ℤ wait) ≢ []
    unfolding due
    some_at left positive none =
        let from = first_clock -ℤ wait in
        let end = ((next.start.0 +ℤ wait) -ℤ wait) +ℤ pos 1 in
        let is : IsSweptIn c.endpoints from end next = record { swept = next_swept; low = begun positive; high = in_end next.start.0 wait } in
        let silent : (x : SymbolStart) → IsSweptIn c.endpoints from end x → comes_before x next ≡ true → told_of still x ≡ [] =
        λ x in_x before.
        let own = start_at x.ep x.endpoint x.slot x.symbol in
        let same : own ≡ x = own_start x in_x.swept in
        quiet x in_x.swept (λ prb below. by_next own prb true (or_left (comes_before own next) _ (ap (λ (y : SymbolStart). comes_before y next) same ∙ before))) in
        let all = first_is_first still still c.endpoints from end next is silent silent (λ x in_x after. refl) in
        let own = start_at next.ep next.endpoint next.slot next.symbol in
        let same : own ≡ next = own_start next next_swept in
        told next left.prb next_swept left.below left.used
        (by_next own left.prb false
        (own_not_behind (comes_before own next) (not (comes_before next own)) (nat_lt left.prb cursor.prb)
        (ap (λ (y : SymbolStart). comes_before y next) same ∙ not_before_itself next) (le-ltb left.prb cursor.prb left.low)))
        (first_nothing (told_of still next) all.rest (sym all.one ∙ none))
      where
        first_nothing : {A : Type 0} (xs ys : List A) → xs ++ ys ≡ [] → xs ≡ []
        first_nothing xs ys h = (both_nothing xs ys h).0

        own_start : (x : SymbolStart) → IsSwept c.endpoints x.ep x.endpoint x.slot x.symbol x.start.0 → start_at x.ep x.endpoint x.slot x.symbol ≡ x
        own_start x swept = ap (λ (t : ℤ). (let y : SymbolStart = record { ep = x.ep; endpoint = x.endpoint; start = record { 0 = t }; slot = x.slot; symbol = x.symbol } in y)) swept.starts

        begun : pos 0 ≤ℤ wait → (first_clock -ℤ wait) ≤ℤ next.start.0
        begun positive =
            let a = named.by in
            let p = k.plan named.k a named.at in
            let frame : next.slot.frame ≡ a.slot.frame = ap (λ (x : SymbolStart). x.slot.frame) named.names.is in
            begun_late next.slot.frame next.start.0 (next.slot.subframe * SUBFRAME + kind_start next.endpoint.numerology.kind next.slot.slot next.symbol) wait
            (subst (λ (f : ℤ). pos 1 ≤ℤ f) (sym frame) p.begun) (sym next_swept.starts) positive

-- ---- the moment that the call answers

bounds : (frame start : ℤ) (offset : ℕ) → pos 1 ≤ℤ frame → frame ≤ℤ pos LAST_FRAME → offset < 92160000000 → start ≡ frame *ℤ FRAME +ℤ pos offset
    → (neg_ℤ (pos (2 ^ 60)) ≤ℤ start) × (start ≤ℤ pos (2 ^ 60))
bounds frame start offset low high few is = (omega (arith, ints), omega (arith, ints))

pub start_bounds : (c : Config) (planned : List Allocation) (m : UnitMemory) (clock : ℤ) (cursor : CellCursor) (h : History) (k : IntakeKeeps c planned m clock cursor h) (next : SymbolStart)
    → IsNamed planned next → cursor.next ≡ Some next → (neg_ℤ (pos (2 ^ 60)) ≤ℤ next.start.0) × (next.start.0 ≤ℤ pos (2 ^ 60))
start_bounds c planned m clock cursor h k next named is =
    let a = named.by in
    let p = k.plan named.k a named.at in
    let swept = next_swept c planned m clock cursor h k next is named in
    let frame : next.slot.frame ≡ a.slot.frame = ap (λ (x : SymbolStart). x.slot.frame) named.names.is in
    bounds next.slot.frame next.start.0 (next.slot.subframe * SUBFRAME + kind_start next.endpoint.numerology.kind next.slot.slot next.symbol)
    (subst (λ (f : ℤ). pos 1 ≤ℤ f) (sym frame) p.begun) (subst (λ (f : ℤ). f ≤ℤ pos LAST_FRAME) (sym frame) p.ended)
    (symbol_short next.endpoint.numerology next.slot next.symbol (offsets_short next.endpoint.numerology) swept.slot_is swept.symbol_is) (sym swept.starts)

pub wait_bounds : (n : ℤ) → pos 0 ≤ℤ n → n ≤ℤ pos MOST_DELAY → (pos 0 ≤ℤ ticks_of_ns n) × (ticks_of_ns n ≤ℤ pos (2 ^ 60))
wait_bounds n low high = (omega (arith, ints), omega (arith, ints))

pub due_none : (c : Config) (planned : List Allocation) (m : UnitMemory) (clock wait : ℤ) (plan : UplinkPlan) (room : ℕ) (cursor : CellCursor) (h : History)
    → IntakeStands c planned m clock wait plan room cursor h → cursor.next ≡ None → (to : ℤ) → intake_due_of c planned h to ≡ []
due_none c planned m clock _ plan room cursor h all none to = none_due c planned m clock cursor h all.kept none to

pub due_some : (c : Config) (planned : List Allocation) (m : UnitMemory) (clock wait : ℤ) (plan : UplinkPlan) (room : ℕ) (cursor : CellCursor) (h : History) (next : SymbolStart) (t : ℤ)
    → IntakeStands c planned m clock wait plan room cursor h → cursor.next ≡ Some next
    → (neg_ℤ (pos (2 ^ 60)) ≤ℤ next.start.0 → next.start.0 ≤ℤ pos (2 ^ 60) → pos 0 ≤ℤ wait → wait ≤ℤ pos (2 ^ 60) → t ≡ next.start.0 +ℤ wait)
    → IsLeastIntakeMoment c planned h t
due_some c planned m clock wait plan room cursor h next t all is sum =
    let k = all.kept in
    let named : IsNamed planned next = MatchOption-at_some (Unit {0}) (IsNamed planned) next is k.named in
    let left : HasStillLeft planned cursor.prb next = MatchOption-at_some (Unit {0}) (HasStillLeft planned cursor.prb) next is all.left in
    let limits = k.holds.config.delays in
    let w = wait_bounds c.delays.ta4.max (at_most (pos 0) c.delays.ta4.min c.delays.ta4.max limits.ta4.low limits.ta4.order) limits.ta4.high in
    let starts = start_bounds c planned m clock cursor h k next named is in
    let same : t ≡ next.start.0 +ℤ wait_of Du c.delays =
    sum starts.0 starts.1 (subst (λ (x : ℤ). pos 0 ≤ℤ x) (sym all.wait_is) w.0) (subst (λ (x : ℤ). x ≤ℤ pos (2 ^ 60)) (sym all.wait_is) w.1)
    ∙ ap (λ (x : ℤ). next.start.0 +ℤ x) all.wait_is in
    subst (IsLeastIntakeMoment c planned h) (sym same) (record {
      before = none_before c planned m clock cursor h k next is named;
      at = some_at c planned m clock cursor h k next is named left w.0;
    })

-- ---- by the symbol at its place

pub due_at : (c : Config) (planned : List Allocation) (m : UnitMemory) (clock wait : ℤ) (plan : UplinkPlan) (room : ℕ) (place : Place) (h : History) (s : PlannedSymbol) (t : ℤ)
    → IntakeStands c planned m clock wait plan room (cursor_by m plan place) h → slice_get plan.symbols.items place.symbol ≡ Some s
    → (neg_ℤ (pos (2 ^ 60)) ≤ℤ s.start.0 → s.start.0 ≤ℤ pos (2 ^ 60) → pos 0 ≤ℤ wait → wait ≤ℤ pos (2 ^ 60) → t ≡ s.start.0 +ℤ wait)
    → IsLeastIntakeMoment c planned h t
due_at c planned m clock wait plan room place h s t all at sum =
    let x = all.plan_is.symbols place.symbol s at in
    let is : symbol_at m.endpoints.items plan place.symbol ≡ Some x.start =
    ap (λ (es : List EndpointConfig). symbol_at es plan place.symbol) all.kept.holds.endpoints ∙ ap (planned_start_in c.endpoints plan.lines.items) at ∙ x.is in
    let e = (kept_start c.endpoints plan.lines.items s x.start x.is).0 in
    due_some c planned m clock wait plan room (cursor_by m plan place) h x.start t all is
    (subst (λ (q : Ticks). neg_ℤ (pos (2 ^ 60)) ≤ℤ q.0 → q.0 ≤ℤ pos (2 ^ 60) → pos 0 ≤ℤ wait → wait ≤ℤ pos (2 ^ 60) → t ≡ q.0 +ℤ wait) (sym e) sum)

pub due_over : (c : Config) (planned : List Allocation) (m : UnitMemory) (clock wait : ℤ) (plan : UplinkPlan) (room : ℕ) (place : Place) (h : History)
    → IntakeStands c planned m clock wait plan room (cursor_by m plan place) h → slice_get plan.symbols.items place.symbol ≡ None → (to : ℤ) → intake_due_of c planned h to ≡ []
due_over c planned m clock wait plan room place h all at to =
    due_none c planned m clock wait plan room (cursor_by m plan place) h all (ap (planned_start_in m.endpoints.items plan.lines.items) at) to
