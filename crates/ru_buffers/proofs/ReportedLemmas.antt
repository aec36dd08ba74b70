-- What a radio unit keeps once the first of what is left of a symbol was heard.
use Rattle.std.proofs.Common.{◌≡◌, ℕ, ℤ, pos, ◌+◌, ◌<◌, ◌+ℤ◌, ◌<ℤ◌, Bool, true, false, ◌&&◌, ◌||◌, List, [], ◌∷◌, ◌++◌, inl, inr, refl, sym, ap, ap₂, ◌∙◌, subst}
use Rattle.std.specs.Prelude.{All, ◌==◌, if◌then◌else◌, filter}
use Rattle.std.specs.List.{list_any}
use Rattle.std.proofs.lemmas.Bool.{and_from, and_parts, eq-eqb, eqb-true, both_ways}
use Rattle.std.proofs.lemmas.List.Elements.{All-nil, All-append, All-cons, All-head, All-tail, All-weaker}
use Rattle.std.proofs.lemmas.List.Folds.{list_any-append}
use Rattle.std.specs.Cmp.{both_ways as same_truth}
use Rattle.fh_base.specs.declared.values.Slot.{Slot}
use Rattle.air_source.specs.declared.events.AirCell.{AirCell}
use Rattle.air_source.specs.declared.events.Side.{Side}
use Rattle.air_source.specs.declared.events.Side.TheVariants.{Ru}
use Rattle.eaxc_map.specs.Endpoints.{AppearOnce}
use Rattle.ecpri_fragments.specs.Assemblies.{StandsFor, endpoints_of as places_of, hold_of as assembly_hold}
use Rattle.ecpri_fragments.specs.declared.assembly.Assembly.{Assembly}
use Rattle.fault_counters.specs.Counts.{times}
use Rattle.window_config.specs.Endpoints.{ids_of}
use Rattle.window_config.specs.declared.config.Config.{Config}
use Rattle.window_config.specs.declared.endpoints.EndpointConfig.{EndpointConfig}
use Rattle.unit_model.specs.Claims.{same_slot, same_way}
use Rattle.unit_model.specs.Counts.{cells_counted}
use Rattle.unit_model.specs.Meetings.{fragments}
use Rattle.unit_model.specs.Proper.{IsAt}
use Rattle.unit_model.specs.Radiated.{air_cell, first_clock, used_mask}
use Rattle.unit_model.specs.Reports.{accepted_of, arrivals_counted, met, ru_known, timely_of}
use Rattle.unit_model.specs.Standing.{AreDifferent, History, IsCell, IsLiveAt, IsOwed, cell_heard, heard}
use Rattle.unit_model.specs.Starts.{start_at}
use Rattle.unit_model.specs.Uplink.{symbol_jobs}
use Rattle.unit_model.specs.declared.allocations.Allocation.{Allocation}
use Rattle.unit_model.specs.declared.cells.Cell.{Cell}
use Rattle.unit_model.specs.declared.symbol_start.SymbolStart.{SymbolStart}
use Rattle.unit_model.specs.Sweeps.{sweep}
use Rattle.unit_laws.specs.Ticks.{IsLiveSlot}
use Rattle.unit_laws.proofs.DifferLemmas.{all_kept}
use Rattle.unit_laws.proofs.DueLemmas.{due_left, heard_differ, unheard, all_front as front}
use Rattle.unit_laws.proofs.FarLemmas.{endpoints_equal}
use Rattle.unit_model.proofs.SweepLemmas.{each_related, sweep-same}
use Rattle.unit_laws.proofs.UnitLemmas.{same_ids, small_is}
use Rattle.unit_laws.proofs.HistoryLists.{one_of_two}
use Rattle.unit_cells.specs.Cells.{CellsValue, IsCellIn, cells_block, cells_claim, cells_reported, cells_uplink, endpoints_of}
use Rattle.unit_cells.proofs.KeepLemmas.{at_config, at_rings, of_still}
use Rattle.unit_symbols.specs.Cursors.{jobs_left, left_jobs}
use Rattle.unit_symbols.specs.declared.cursor.JobCursor.{JobCursor}
use Rattle.unit_memory.specs.Memory.{Holds}
use Rattle.unit_memory.specs.declared.memory.UnitMemory.{UnitMemory}
use Rattle.unit_symbols.proofs.CountLemmas.{stand_told}
use Rattle.unit_symbols.specs.DueSymbols.{cell_in, is_told, left_at, left_told}
use Rattle.unit_symbols.specs.Symbols.{IsSymbol}
use Rattle.ru_buffers.specs.Reporting.{HasReported, KeepsReported, due_of}
use Rattle.ru_buffers.specs.Units.{RadioKeeps, left_up_to}
use Rattle.ru_buffers.proofs.SymbolLemmas.{cell_is, claims_are, live_lookup, live_or_ahead, since_clock}
use Rattle.unit_cells.proofs.TimeLemmas.{far_no_place}
use Rattle.unit_model.proofs.ClaimLemmas.{same_slot_is as slots_equal, slot_self as slot_own}
use Rattle.unit_laws.proofs.ReportLemmas.{used_same}
use Rattle.fh_base.proofs.Orders.{weak, not_zero as some_used, at_most}
use Rattle.air_source.specs.Units.{is_down}

-- ---- tests

any_all : (p q : AirCell → Bool) (xs : List AirCell) → All (λ a. p a ≡ q a) xs → list_any p xs ≡ list_any q xs
any_all p q [] h = refl
any_all p q (x ∷ xs) h = ap₂ ◌||◌ (All-head (λ a. p a ≡ q a) x xs h) (any_all p q xs (All-tail (λ a. p a ≡ q a) x xs h))

any_never : (xs : List AirCell) → list_any (λ a. false) xs ≡ false
any_never [] = refl
any_never (x ∷ xs) = any_never xs

any_and : (b : Bool) (q : AirCell → Bool) (xs : List AirCell) → list_any (λ a. b && q a) xs ≡ (b && list_any q xs)
any_and true q xs = refl
any_and false q xs = any_never xs

any_ands : (x y z : Bool) (q : AirCell → Bool) (xs : List AirCell) → list_any (λ a. x && (y && (z && q a))) xs ≡ (x && (y && (z && list_any q xs)))
any_ands x y z q xs =
    any_and x (λ a. y && (z && q a)) xs ∙ ap (λ (b : Bool). x && b) (any_and y (λ a. z && q a) xs ∙ ap (λ (b : Bool). y && b) (any_and z q xs))

-- one of these passes the test
any_elim : {G : Type 0} (P : AirCell → Type 0) (p : AirCell → Bool) (xs : List AirCell) → All P xs → list_any p xs ≡ true → ((a : AirCell) → P a → p a ≡ true → G) → G
any_elim P p [] all h go = absurd cc
any_elim P p (x ∷ xs) all h go =
    one_of_two (p x) (list_any p xs) h (λ first. go x (All-head P x xs all) first) (λ rest. any_elim P p xs (All-tail P x xs all) rest go)

-- ---- the cells of a symbol of which something is left

pub record IsLeftCell (v : CellsValue) (s : SymbolStart) (a : AirCell) : Type 0 where
  pub side_is : a.side ≡ Ru
  pub at_is : a.at.0 ≡ s.start.0
  pub id : a.id ≡ s.endpoint.id
  pub slot_is : a.slot ≡ s.slot
  pub symbol_is : a.symbol ≡ s.symbol
  pub prb : a.prb < s.endpoint.prbs
  pub used : 0 < used_mask (cells_claim v (cell_in s a.prb))

unless_none : (P : AirCell → Type 0) (none reported_so : Bool) (a : AirCell) → (none ≡ false → P a) → All P (if reported_so then [] else (if none then [] else a ∷ []))
unless_none P none true a h = All-nil P
unless_none P true false a h = All-nil P
unless_none P false false a h = All-cons P a [] (h refl) (All-nil P)

left_cells : (v : CellsValue) (s : SymbolStart) → All (IsLeftCell v s) (left_at v s)
unfolding left_at
left_cells v s =
    each_related (λ xs ys. All (IsLeftCell v s) xs) (all_kept (IsLeftCell v s)) 0 s.endpoint.prbs (left_told v s) (left_told v s) (λ prb above below.
    let cell = cell_in s prb in
    unless_none (IsLeftCell v s) (used_mask (cells_claim v cell) == 0) (cells_reported v cell) (air_cell Ru s.endpoint cell s.start.0 (cells_claim v cell) (cells_block v cell)) (λ used.
    record { side_is = refl; at_is = refl; id = refl; slot_is = refl; symbol_is = refl; prb = small_is prb s.endpoint.prbs below; used = some_used _ used }))

-- ---- endpoints by their ids

module _ (es : List EndpointConfig) (s : SymbolStart) (once : AppearOnce (ids_of es)) (at : IsAt es s.ep s.endpoint) (e : EndpointConfig) (cell : Cell)
    (there : IsAt es cell.ep e) where
  id_tells : (a : AirCell) → a.id ≡ s.endpoint.id → (a.id == e.id) ≡ (cell.ep == s.ep)
  id_tells a own =
      same_truth (a.id == e.id) (cell.ep == s.ep)
      (λ h. eq-eqb cell.ep s.ep (sym (same_ids es s.ep cell.ep s.endpoint e once at there (sym own ∙ eqb-true a.id e.id h))))
      (λ h. eq-eqb a.id e.id (own ∙ sym (ap (λ (x : EndpointConfig). x.id) (endpoints_equal es cell.ep s.ep e s.endpoint there at (eqb-true cell.ep s.ep h)))))

  slot_tells : (a : AirCell) → a.slot ≡ s.slot → same_slot a.slot cell.slot ≡ same_slot cell.slot s.slot
  slot_tells a own =
      same_truth (same_slot a.slot cell.slot) (same_slot cell.slot s.slot)
      (λ h. subst (λ (x : Slot). same_slot cell.slot x ≡ true) (sym (slots_equal a.slot cell.slot h) ∙ own) (slot_own cell.slot))
      (λ h. subst (λ (x : Slot). same_slot x cell.slot ≡ true) (slots_equal cell.slot s.slot h ∙ sym own) (slot_own cell.slot))

  symbol_tells : (a : AirCell) → a.symbol ≡ s.symbol → (a.symbol == cell.symbol) ≡ (cell.symbol == s.symbol)
  symbol_tells a own =
      same_truth (a.symbol == cell.symbol) (cell.symbol == s.symbol)
      (λ h. eq-eqb cell.symbol s.symbol (sym (eqb-true a.symbol cell.symbol h) ∙ own))
      (λ h. eq-eqb a.symbol cell.symbol (own ∙ sym (eqb-true cell.symbol s.symbol h)))

  way_tells : (a : AirCell) → a.side ≡ Ru → cell.down ≡ true → same_way (is_down a.side) cell.down ≡ true
  way_tells a side down = ap₂ (λ (x : Side) (d : Bool). same_way (is_down x) d) side down

  cell_tells : (v : CellsValue) (a : AirCell) → IsLeftCell v s a → cell.down ≡ true
      → cell_heard e cell a ≡ ((cell.ep == s.ep) && (same_slot cell.slot s.slot && ((cell.symbol == s.symbol) && (a.prb == cell.prb))))
  cell_tells v a is down =
      ap (λ (w : Bool). w && ((a.id == e.id) && (same_slot a.slot cell.slot && ((a.symbol == cell.symbol) && (a.prb == cell.prb))))) (way_tells a is.side_is down)
      ∙ ap₂ ◌&&◌ (id_tells a is.id)
      (ap₂ ◌&&◌ (slot_tells a is.slot_is) (ap (λ (b : Bool). b && (a.prb == cell.prb)) (symbol_tells a is.symbol_is)))

  -- a cell was told where one of these reports is of it
  pub told_tells : (v : CellsValue) (told : List AirCell) → All (IsLeftCell v s) told → cell.down ≡ true → list_any (cell_heard e cell) told ≡ is_told s told cell
  told_tells v told all down =
      any_all (cell_heard e cell) (λ a. (cell.ep == s.ep) && (same_slot cell.slot s.slot && ((cell.symbol == s.symbol) && (a.prb == cell.prb)))) told
      (All-weaker (IsLeftCell v s) (λ a. cell_heard e cell a ≡ ((cell.ep == s.ep) && (same_slot cell.slot s.slot && ((cell.symbol == s.symbol) && (a.prb == cell.prb)))))
      (λ a is. cell_tells v a is down) told all)
      ∙ any_ands (cell.ep == s.ep) (same_slot cell.slot s.slot) (cell.symbol == s.symbol) (λ a. a.prb == cell.prb) told

  same_fields : (prb : ℕ) → cell.ep ≡ s.ep → cell.down ≡ true → cell.slot ≡ s.slot → cell.symbol ≡ s.symbol → cell.prb ≡ prb → cell ≡ cell_in s prb
  same_fields prb ep down slot symbol here =
      ap (λ (x : ℕ). let r : Cell = record { ep = x; down = cell.down; slot = cell.slot; symbol = cell.symbol; prb = cell.prb } in r) ep
      ∙ ap (λ (x : Bool). let r : Cell = record { ep = s.ep; down = x; slot = cell.slot; symbol = cell.symbol; prb = cell.prb } in r) down
      ∙ ap (λ (x : Slot). let r : Cell = record { ep = s.ep; down = true; slot = x; symbol = cell.symbol; prb = cell.prb } in r) slot
      ∙ ap (λ (x : ℕ). let r : Cell = record { ep = s.ep; down = true; slot = s.slot; symbol = x; prb = cell.prb } in r) symbol
      ∙ ap (λ (x : ℕ). let r : Cell = record { ep = s.ep; down = true; slot = s.slot; symbol = s.symbol; prb = x } in r) here

  -- the cell of a report
  pub cell_of_report : (v : CellsValue) (a : AirCell) → IsLeftCell v s a → cell.down ≡ true → cell_heard e cell a ≡ true → cell ≡ cell_in s a.prb
  cell_of_report v a is down h =
      let way = and_parts (same_way (is_down a.side) cell.down) _ h in
      let one = and_parts (a.id == e.id) _ way.1 in
      let two = and_parts (same_slot a.slot cell.slot) _ one.1 in
      let three = and_parts (a.symbol == cell.symbol) (a.prb == cell.prb) two.1 in
      same_fields a.prb (sym (same_ids es s.ep cell.ep s.endpoint e once at there (sym is.id ∙ eqb-true a.id e.id one.0))) down
      (sym (slots_equal a.slot cell.slot two.0) ∙ is.slot_is) (sym (eqb-true a.symbol cell.symbol three.0) ∙ is.symbol_is) (sym (eqb-true a.prb cell.prb three.1))

-- ---- messages

jobs_same : (old new : ℕ → Slot → List Allocation) (cursor : JobCursor) (ep : ℕ) (e : EndpointConfig) (slot : Slot) (symbol : ℕ) → new ep slot ≡ old ep slot
    → jobs_left new cursor ep e slot symbol ≡ jobs_left old cursor ep e slot symbol
unfolding jobs_left
jobs_same old new cursor ep e slot symbol same =
    ap (λ (us : List Allocation). left_jobs cursor (start_at ep e slot symbol) (symbol_jobs us ep e slot symbol)) same

-- the same is left to be sent where the same uplink sections are there
pub left_same : (old new : CellsValue) (cursor : JobCursor) (to : ℤ) → endpoints_of new ≡ endpoints_of old
    → ((ep : ℕ) (slot : Slot) → cells_uplink new ep slot ≡ cells_uplink old ep slot) → left_up_to new cursor to ≡ left_up_to old cursor to
unfolding left_up_to
left_same old new cursor to endpoints uplink =
    ap (λ (es : List EndpointConfig). sweep (jobs_left (cells_uplink new) cursor) es first_clock (to +ℤ pos 1)) endpoints
    ∙ sweep-same (jobs_left (cells_uplink new) cursor) (jobs_left (cells_uplink old) cursor) (endpoints_of old) first_clock (to +ℤ pos 1)
    (λ ep e slot symbol tick low high swept. jobs_same (cells_uplink old) (cells_uplink new) cursor ep e slot symbol (uplink ep slot))

-- ---- all that is kept

module _ (c : Config) (old new : UnitMemory) (clock : ℤ) (cursor : JobCursor) (h : History) (s : SymbolStart) (told : List AirCell) (keeps : RadioKeeps c old clock cursor h)
    (symbol : IsSymbol old.cells s) (later : clock <ℤ s.start.0) (was_reported : HasReported s told old new) where
  at_here : IsAt c.endpoints s.ep s.endpoint
  at_here = at_config Ru c old.cells s.ep s.endpoint keeps.holds.of symbol.at

  once : AppearOnce (ids_of c.endpoints)
  once = keeps.holds.config.endpoints.differ

  live : IsLiveSlot c.delays s.endpoint cursor.since.0 s.slot
  live = elim (live_or_ahead c cursor.since.0 s.start.0 s.endpoint s.slot s.symbol keeps.holds.config.delays
      (at_most cursor.since.0 clock s.start.0 (since_clock c old clock cursor h keeps) (weak clock s.start.0 later)) symbol.symbol_is (sym symbol.starts)) [
        | inl is ↦ is
        | inr far ↦ absurd (both_ways _ (far_no_place Ru c cursor.since.0 old.cells (accepted_of c h.arrivals) (timely_of Ru c h.arrivals) s.endpoint s.ep s.slot keeps.holds.keeps at_here far) symbol.has)
      ]

  told_cells : All (IsLeftCell old.cells s) told
  told_cells = front (IsLeftCell old.cells s) told was_reported.more (subst (All (IsLeftCell old.cells s)) was_reported.left (left_cells old.cells s))

  in_rings : (e : EndpointConfig) (cell : Cell) → IsCell c e cell → IsCellIn old.cells cell
  in_rings e cell is = record {
    endpoint = e;
    at = at_rings Ru c old.cells cell.ep e keeps.holds.of is.endpoint;
    slot_is = is.slot;
    symbol = is.symbol;
    prb = is.prb;
  }

  reports_now : (e : EndpointConfig) (cell : Cell) → IsCell c e cell → cell.down ≡ true → IsLiveAt c cursor.since.0 cell.ep cell.slot
      → cells_reported new.cells cell ≡ list_any (cell_heard e cell) (h.reported ++ told)
  reports_now e cell is down live_then =
      was_reported.reports.reports cell (in_rings e cell is) down
      ∙ ap₂ ◌||◌ (keeps.reports e cell is down live_then) (sym (told_tells c.endpoints s once at_here e cell is.endpoint old.cells told told_cells down))
      ∙ sym (list_any-append (cell_heard e cell) h.reported told)

  used_now : (a : AirCell) → IsLeftCell old.cells s a → 0 < used_mask ((ru_known c h.arrivals).claims (cell_in s a.prb))
  used_now a is =
      subst (λ (n : ℕ). 0 < n)
      (used_same (cells_claim old.cells (cell_in s a.prb)) ((ru_known c h.arrivals).claims (cell_in s a.prb)) 12 (λ re few.
      claims_are c old clock cursor h keeps s at_here symbol.slot_is symbol.symbol_is live a.prb re is.prb few)) is.used

  told_now : (e : EndpointConfig) (cell : Cell) → IsCell c e cell → cell.down ≡ true → list_any (cell_heard e cell) (h.reported ++ told) ≡ true
      → 0 < used_mask ((ru_known c h.arrivals).claims cell)
  told_now e cell is down there =
      one_of_two (list_any (cell_heard e cell) h.reported) (list_any (cell_heard e cell) told) (sym (list_any-append (cell_heard e cell) h.reported told) ∙ there)
      (λ before. keeps.told e cell is down before)
      (λ now. any_elim (IsLeftCell old.cells s) (cell_heard e cell) told told_cells now (λ a own mine.
      subst (λ (x : Cell). 0 < used_mask ((ru_known c h.arrivals).claims x))
      (sym (cell_of_report c.endpoints s once at_here e cell is.endpoint old.cells a own down mine)) (used_now a own)))

  differ_now : AreDifferent (h.reported ++ told)
  differ_now =
      heard_differ Ru (ru_known c h.arrivals) s.ep s.endpoint s.slot s.symbol h.reported told was_reported.more keeps.differ
      (live_lookup c old clock cursor h keeps s at_here symbol.slot_is symbol.symbol_is live (sym symbol.starts) ∙ was_reported.left)

  heard_now : (a : AirCell) → IsLeftCell old.cells s a → cell_heard s.endpoint (cell_in s a.prb) a ≡ true
  heard_now a own =
      and_from (same_way (is_down a.side) true) _ (ap (λ (x : Side). same_way (is_down x) true) own.side_is)
      (and_from (a.id == s.endpoint.id) _ (eq-eqb a.id s.endpoint.id own.id)
      (and_from (same_slot a.slot s.slot) _ (subst (λ (x : Slot). same_slot x s.slot ≡ true) (sym own.slot_is) (slot_own s.slot))
      (and_from (a.symbol == s.symbol) (a.prb == a.prb) (eq-eqb a.symbol s.symbol own.symbol_is) (eq-eqb a.prb a.prb refl))))

  owed_one : (a : AirCell) → IsLeftCell old.cells s a → IsOwed Ru c (ru_known c h.arrivals) a
  owed_one a own = record {
    endpoint = s.endpoint;
    cell = cell_in s a.prb;
    is_cell = cell_is c old clock cursor h keeps s at_here symbol.slot_is symbol.symbol_is live a.prb own.prb;
    down = refl;
    of_cell = heard_now a own;
    starts = own.at_is ∙ symbol.starts;
    used = used_now a own;
  }

  owed_now : All (IsOwed Ru c (ru_known c h.arrivals)) (h.reported ++ told)
  owed_now =
      All-append (IsOwed Ru c (ru_known c h.arrivals)) h.reported told keeps.owed
      (All-weaker (IsLeftCell old.cells s) (IsOwed Ru c (ru_known c h.arrivals)) owed_one told told_cells)

  past_now : due_of c (heard h told) h.clock ≡ []
  past_now =
      sym (due_left Ru c.delays c.endpoints (ru_known c h.arrivals) h.reported told h.clock) ∙ ap (filter (unheard told)) keeps.past

  holds_now : Holds Ru c cursor.since.0 new h.arrivals (cells_counted (h.reported ++ told))
  holds_now = record {
    config = keeps.holds.config;
    endpoints = ap (λ es. es.items) was_reported.endpoints ∙ keeps.holds.endpoints;
    of = of_still Ru c old.cells new.cells was_reported.reports.side was_reported.reports.delays was_reported.reports.endpoints keeps.holds.of;
    came = keeps.holds.came;
    times = keeps.holds.times;
    fragments = subst (λ (x : Assembly). StandsFor x (fragments (met Ru c h.arrivals))) (sym was_reported.assembly) keeps.holds.fragments;
    places = ap (λ (x : Assembly). places_of x) was_reported.assembly ∙ keeps.holds.places;
    hold = ap (λ (x : Assembly). assembly_hold x) was_reported.assembly ∙ keeps.holds.hold;
    counts = stand_told old.counters new.counters (arrivals_counted Ru c h.arrivals) h.reported told keeps.holds.counts was_reported.counts;
    keeps = was_reported.reports.keeps Ru c cursor.since.0 (accepted_of c h.arrivals) (timely_of Ru c h.arrivals) keeps.holds.keeps;
  }

  pub kept : RadioKeeps c new clock cursor (heard h told)
  kept = record {
    holds = holds_now;
    clock_is = keeps.clock_is;
    time = keeps.time;
    begun = keeps.begun;
    since = keeps.since;
    within = keeps.within;
    reports = reports_now;
    past = past_now;
    told = told_now;
    differ = differ_now;
    owed = owed_now;
    left = λ to. left_same old.cells new.cells cursor to was_reported.reports.endpoints was_reported.reports.known.uplink ∙ keeps.left to;
    given = keeps.given;
  }

pub keeps_reported : KeepsReported
keeps_reported c old new clock cursor h s told keeps symbol later was_reported = kept c old new clock cursor h s told keeps symbol later was_reported
