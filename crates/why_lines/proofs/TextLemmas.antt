-- The lines of symbols by their records are those by all records.
use Rattle.std.proofs.Common.{◌≡◌, ℕ, zero, suc, ◌+◌, Bool, true, false, List, [], ◌∷◌, ◌++◌, filter, map, Option, Some, None, refl, sym, ap, ap₂, ◌∙◌}
use Rattle.std.specs.Prelude.{if◌then◌else◌, slice_get, not}
use Rattle.std.specs.List.{AllByRecursion, flat_map}
use Rattle.std.proofs.lemmas.List.Concat.{flat_map-append}
use Rattle.air_source.specs.declared.events.Event.{Event}
use Rattle.air_source.specs.declared.events.Side.{Side}
use Rattle.air_source.specs.declared.events.Side.TheVariants.{Ru, Du}
use Rattle.window_config.specs.Configs.{IsConfig}
use Rattle.window_config.specs.declared.config.Config.{Config}
use Rattle.window_config.specs.declared.endpoints.EndpointConfig.{EndpointConfig}
use Rattle.fh_base.specs.Lists.{each, in_order, put_in}
use Rattle.unit_model.specs.Order.{comes_before}
use Rattle.unit_model.specs.Proper.{IsAt}
use Rattle.unit_model.specs.declared.symbol_start.SymbolStart.{SymbolStart}
use Rattle.explain_model.specs.Pieces.{pieces}
use Rattle.explain_model.specs.SilentReasons.{Kept, giver_of, kept}
use Rattle.explain_model.specs.Seen.{cell_runs, is_shown_at, seen}
use Rattle.explain_model.specs.Unused.{UnusedBlock, each_once, goes_on_unused, in_order_of_time, is_giver, key_at, same_start, start_of, start_with, symbols_given, unused_blocks, unused_line, unused_lines, unused_lines_of, unused_of_unit, unused_prb, unused_symbol, unused_symbol_lines, unused_symbols, unused_with}
use Rattle.explain_model.proofs.AloneLemmas.{others_never_matter}
use Rattle.explain_records.specs.Stored.{SameBySymbol}
use Rattle.explain_heard.specs.Runs.{piece_line, run_lines}
use Rattle.explain_heard.proofs.MapLemmas.{run_lines_map}
use Rattle.explain_records.proofs.MissingLemmas.{map_append as map_join}
use Rattle.explain_model.specs.Keys.{data_key, run_key, same_symbol}
use Rattle.explain_model.specs.declared.data.DataRecord.{DataRecord}
use Rattle.explain_model.specs.declared.keys.SymbolKey.{SymbolKey}
use Rattle.explain_model.specs.declared.runs.CellRun.{CellRun}
use Rattle.explain_records.specs.Keys.{of_symbol}
use Rattle.why_lines.specs.Unused.{symbol_text_in, symbols_text, unit_text, unused_line_of, unused_prb_of, unused_prbs_at, unused_prbs_with, unused_related, unused_text}
use Rattle.why_lines.specs.declared.blocks.UnitSymbol.{UnitSymbol}
use Rattle.why_lines.specs.declared.blocks.UnusedPrb.{UnusedPrb}
use Rattle.why_lines.proofs.ShownLemmas.{shown_same}
use Rattle.why_lines.proofs.StartLemmas.{same_symbols}
use Rattle.fh_base.proofs.MemberLemmas.{all_join, filter_has}
use Rattle.fh_base.proofs.EachLemmas.{each_same}

-- ---- the symbols have their endpoints

module _ (es : List EndpointConfig) where
  abbrev HasEndpoint : SymbolStart → Type 0
  HasEndpoint s = IsAt es s.ep s.endpoint

  start_has : (r : DataRecord) (o : Option EndpointConfig) → slice_get es r.ep ≡ o → AllByRecursion HasEndpoint (start_with r o)
  start_has r None is = tt
  start_has r (Some e) is = (is, tt)

  starts_have : (rs : List DataRecord) → AllByRecursion HasEndpoint (flat_map (start_of es) rs)
  starts_have [] = tt
  starts_have (r ∷ rs) = all_join HasEndpoint (start_of es r) (flat_map (start_of es) rs) (start_has r (slice_get es r.ep) refl) (starts_have rs)

  once_have : (ss : List SymbolStart) → AllByRecursion HasEndpoint ss → AllByRecursion HasEndpoint (each_once ss)
  unfolding each_once
  once_have [] h = tt
  once_have (s ∷ ss) h = (h.0, filter_has HasEndpoint HasEndpoint (λ t. not (same_start s t)) (λ x p e. p) (each_once ss) (once_have ss h.1))

  put_have : (x : SymbolStart) (ss : List SymbolStart) → HasEndpoint x → AllByRecursion HasEndpoint ss → AllByRecursion HasEndpoint (put_in comes_before x ss)
  unfolding put_in
  put_have x [] here h = (here, tt)
  put_have x (s ∷ ss) here h =
      elim (comes_before s x) as (λ b. AllByRecursion HasEndpoint (if b then s ∷ put_in comes_before x ss else x ∷ s ∷ ss)) [
        | true ↦ (h.0, put_have x ss here h.1)
        | false ↦ (here, h)
      ]

  order_have : (ss : List SymbolStart) → AllByRecursion HasEndpoint ss → AllByRecursion HasEndpoint (in_order comes_before ss)
  unfolding in_order
  order_have [] h = tt
  order_have (s ∷ ss) h = put_have s (in_order comes_before ss) h.0 (order_have ss h.1)

  symbols_have : (side : Side) (rs : List DataRecord) → AllByRecursion HasEndpoint (symbols_given es side rs)
  unfolding symbols_given in_order_of_time
  symbols_have side rs =
      order_have (each_once (flat_map (start_of es) (filter (is_giver side) rs)))
      (once_have (flat_map (start_of es) (filter (is_giver side) rs)) (starts_have (filter (is_giver side) rs)))

-- ---- the lines of a symbol

each_map : {A B : Type 0} (f : A → B) (first n : ℕ) (g : ℕ → List A) → each first n (λ k. map f (g k)) ≡ map f (each first n g)
unfolding each
each_map f first zero g = refl
each_map f first (suc n) g = ap (λ l. map f (g first) ++ l) (each_map f (first + 1) n g) ∙ sym (map_join f (g first) (each (first + 1) n g))

line_same : (u : UnitSymbol) (blocks p : List UnusedBlock)
    → piece_line (λ x n. unused_line_of (unused_prb_of u x) n) p ≡ unused_line (record { side = u.side; start = u.start; blocks = blocks }) p
line_same u blocks [] = refl
line_same u blocks (x ∷ xs) = refl

lines_same : (u : UnitSymbol) (blocks : List UnusedBlock) (ps : List (List UnusedBlock))
    → flat_map (piece_line (λ x n. unused_line_of (unused_prb_of u x) n)) ps ≡ flat_map (unused_line (record { side = u.side; start = u.start; blocks = blocks })) ps
lines_same u blocks [] = refl
lines_same u blocks (p ∷ ps) = ap₂ (λ x y. x ++ y) (line_same u blocks p) (lines_same u blocks ps)

-- of these blocks
blocks_told : (u : UnitSymbol) (blocks : List UnusedBlock)
    → run_lines unused_related unused_line_of (map (unused_prb_of u) blocks) ≡ unused_symbol_lines (record { side = u.side; start = u.start; blocks = blocks })
unfolding unused_symbol_lines
blocks_told u blocks =
    run_lines_map (unused_prb_of u) unused_related unused_line_of blocks
    ∙ lines_same u blocks (pieces goes_on_unused blocks)

-- ---- by the records of the symbol

either_map : {A B : Type 0} (f : A → B) (b : Bool) (xs : List A) → (let l : List B = if b then [] else map f xs in l) ≡ map f (let k : List A = if b then [] else xs in k)
either_map f true xs = refl
either_map f false xs = refl

module _ (c : Config) (events : List Event) (ordered : Kept) (sorted : List CellRun) (config : IsConfig c) (all_same : SameBySymbol (kept c events) ordered)
    (runs_same : (key : SymbolKey) → of_symbol run_key key sorted ≡ of_symbol run_key key (cell_runs c events)) where
  given_same : (key : SymbolKey) → filter (λ r. same_symbol (data_key r) key) ordered.given ≡ filter (λ r. same_symbol (data_key r) key) (kept c events).given
  given_same key = ap (λ (k : Kept). k.given) (all_same key)

  module _ (side : Side) where
    prb_same : (s : SymbolStart) → IsAt c.endpoints s.ep s.endpoint → (prb : ℕ)
        → unused_prbs_at (of_symbol data_key (key_at side s) ordered.given) (of_symbol run_key (key_at side s) sorted) (record { side = side; start = s }) prb
        ≡ map (unused_prb_of (record { side = side; start = s })) (unused_prb (kept c events).given (seen events) side s prb)
    prb_same s at prb =
        let u : UnitSymbol = record { side = side; start = s } in
        ap (λ (b : Bool). let l : List UnusedPrb = if b then [] else unused_prbs_with (of_symbol data_key (key_at side s) ordered.given) u prb in l)
        (shown_same c config side s at prb events sorted runs_same)
        ∙ ap (λ (o : Option DataRecord). let l : List UnusedPrb = if is_shown_at (seen events) side s.endpoint.id s.slot s.symbol prb then [] else map (unused_prb_of u) (unused_with prb o) in l)
        (ap (λ (rs : List DataRecord). giver_of rs (key_at side s) prb) (given_same (key_at side s)) ∙ others_never_matter.giver (kept c events).given (key_at side s) prb)
        ∙ either_map (unused_prb_of u) (is_shown_at (seen events) side s.endpoint.id s.slot s.symbol prb) (unused_with prb (giver_of (kept c events).given (key_at side s) prb))

    symbol_same : (s : SymbolStart) → IsAt c.endpoints s.ep s.endpoint
        → symbol_text_in ordered sorted side s ≡ unused_symbol_lines (unused_symbol (kept c events).given (seen events) side s)
    unfolding unused_blocks
    symbol_same s at =
        let u : UnitSymbol = record { side = side; start = s } in
        let given : List DataRecord = of_symbol data_key (key_at side s) ordered.given in
        let cells : List CellRun = of_symbol run_key (key_at side s) sorted in
        let block : ℕ → List UnusedBlock = unused_prb (kept c events).given (seen events) side s in
        ap (run_lines unused_related unused_line_of)
        (each_same 0 s.endpoint.prbs (unused_prbs_at given cells u) (λ prb. map (unused_prb_of u) (block prb)) (prb_same s at)
        ∙ each_map (unused_prb_of u) 0 s.endpoint.prbs block)
        ∙ blocks_told u (each 0 s.endpoint.prbs block)

    symbols_same : (ss : List SymbolStart) → AllByRecursion (HasEndpoint c.endpoints) ss
        → symbols_text ordered sorted side ss ≡ flat_map unused_symbol_lines (map (unused_symbol (kept c events).given (seen events) side) ss)
    symbols_same [] h = refl
    symbols_same (s ∷ ss) h = ap₂ (λ x y. x ++ y) (symbol_same s h.0) (symbols_same ss h.1)

    unit_same : unit_text c.endpoints ordered sorted side ≡ flat_map unused_symbol_lines (unused_of_unit c.endpoints (kept c events).given (seen events) side)
    unfolding unused_of_unit
    unit_same =
        ap (symbols_text ordered sorted side) (same_symbols c.endpoints side ordered.given (kept c events).given given_same)
        ∙ symbols_same (symbols_given c.endpoints side (kept c events).given) (symbols_have c.endpoints side (kept c events).given)

  text_same : unused_text c.endpoints ordered sorted ≡ unused_lines c events
  unfolding unused_lines_of unused_symbols
  text_same =
      ap₂ (λ x y. x ++ y) (unit_same Ru) (unit_same Du)
      ∙ sym (flat_map-append unused_symbol_lines (unused_of_unit c.endpoints (kept c events).given (seen events) Ru) (unused_of_unit c.endpoints (kept c events).given (seen events) Du))

-- for records and runs of cells that are the same of each symbol
pub unused_told : (c : Config) (events : List Event) (ordered : Kept) (sorted : List CellRun) → IsConfig c → SameBySymbol (kept c events) ordered
    → ((key : SymbolKey) → of_symbol run_key key sorted ≡ of_symbol run_key key (cell_runs c events)) → unused_text c.endpoints ordered sorted ≡ unused_lines c events
unused_told c events ordered sorted config all_same runs_same = text_same c events ordered sorted config all_same runs_same
