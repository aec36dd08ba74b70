-- Silent elements by runs of cells are those by all cells.
use Rattle.std.proofs.Common.{◌≡◌, ℕ, zero, suc, ◌+◌, ◌<◌, ◌≤◌, ◌==◌, Bool, true, false, not, ◌&&◌, List, [], ◌∷◌, ◌++◌, length, map, Option, Some, None, refl, sym, ap, ap₂, ◌∙◌, slice_index, arith}
use Rattle.std.specs.Prelude.{if◌then◌else◌}
use Rattle.std.specs.List.{AllByRecursion, flat_map, list_any}
use Rattle.std.specs.Option.{option_to_list}
use Rattle.std.proofs.lemmas.Bool.{eq-eqb, ne_eqb}
use Rattle.std.proofs.lemmas.List.Concat.{flat_map-append}
use Rattle.air_source.specs.declared.events.Event.{Event}
use Rattle.air_source.specs.declared.events.Side.TheVariants.{Ru}
use Rattle.window_config.specs.declared.config.Config.{Config}
use Rattle.window_config.specs.declared.endpoints.EndpointConfig.{EndpointConfig}
use Rattle.window_config.specs.declared.plan.PlanLine.{PlanLine}
use Rattle.unit_model.specs.Claims.{first_prb, in_mask, prb_count}
use Rattle.fh_base.specs.Lists.{each}
use Rattle.unit_model.specs.Meetings.{find_endpoint}
use Rattle.plan_model.specs.Lines.{line_allocation, planned, planned_from, planned_with}
use Rattle.plan_model.specs.declared.lines.PlannedLine.{PlannedLine}
use Rattle.explain_model.specs.Pieces.{pieces}
use Rattle.explain_model.proofs.AloneLemmas.{others_never_matter}
use Rattle.explain_model.proofs.SeenLemmas.{runs_hold_cells}
use Rattle.explain_model.specs.Commanded.{command_reason}
use Rattle.explain_model.specs.SilentReasons.{Kept, kept}
use Rattle.explain_model.specs.Seen.{Seen, cell_runs, is_heard, seen}
use Rattle.explain_model.specs.Silent.{SilentPrb, SilentSymbol, goes_on_silent, is_dl, line_elements, silent_line, silent_lines, silent_lines_of, silent_mask, silent_of, silent_of_line, silent_prb, silent_prbs, silent_symbol, silent_symbol_lines, silent_symbols}
use Rattle.explain_records.specs.Stored.{SameBySymbol}
use Rattle.explain_heard.specs.Runs.{lines_of_runs, piece_line, run_lines}
use Rattle.explain_heard.proofs.MapLemmas.{run_lines_map}
use Rattle.explain_model.specs.Keys.{run_key}
use Rattle.explain_model.specs.declared.keys.SymbolKey.{SymbolKey}
use Rattle.explain_model.specs.declared.runs.CellRun.{CellRun}
use Rattle.explain_model.specs.declared.sections.CommandRecord.{CommandRecord}
use Rattle.explain_records.specs.Keys.{of_symbol}
use Rattle.why_lines.specs.Silent.{commands_of, has_element, line_symbol, silent_item, silent_item_if, silent_items, silent_items_at, silent_items_if, silent_items_of, silent_items_of_symbol, silent_line_of, silent_mask_by, silent_related, silent_text, symbol_key}
use Rattle.why_lines.specs.declared.items.SilentItem.{SilentItem}
use Rattle.why_lines.proofs.HeardLemmas.{IsFound, heard_is, line_found}
use Rattle.why_lines.proofs.ListLemmas.{all_each, map_each}
use Rattle.why_lines.proofs.MaskLemmas.{bits_same}
use Rattle.why_lines.proofs.RunLemmas.{are_unrelated, lines_append, pieces_same}
use Rattle.fh_base.proofs.EachLemmas.{each_same}
use Rattle.fh_base.proofs.MemberLemmas.{all_join as all_append, all_map as all_weaker}
use Rattle.fh_base.proofs.Orders.{and_false_3}

-- ---- where items are

-- of the line with this place
abbrev pub IsOfLine : ℕ → SilentItem → Type 0
IsOfLine k x = x.of.planned.index ≡ k

-- of the line with this place or a later one
abbrev pub IsFromLine : ℕ → SilentItem → Type 0
IsFromLine k x = k ≤ x.of.planned.index

-- of the symbol
abbrev pub IsOfSymbol : ℕ → SilentItem → Type 0
IsOfSymbol y x = x.of.symbol ≡ y

-- of the symbol or a later one
abbrev pub IsFromSymbol : ℕ → SilentItem → Type 0
IsFromSymbol y x = y ≤ x.of.symbol

other_symbol : (y : ℕ) (a b : SilentItem) → IsOfSymbol y a → IsFromSymbol (y + 1) b → silent_related a b ≡ false
other_symbol y a b is later =
    ap (λ (s : Bool). (a.of.planned.index == b.of.planned.index) && (s && goes_on_silent (prb_of a) (prb_of b))) (ne_eqb a.of.symbol b.of.symbol (λ same. omega (arith, is, later, same)))
    ∙ and_false_3 (a.of.planned.index == b.of.planned.index)
  where
    prb_of : SilentItem → SilentPrb
    prb_of x = record { prb = x.prb; mask = x.mask; reason = x.reason }

other_line : (k : ℕ) (a b : SilentItem) → IsOfLine k a → IsFromLine (k + 1) b → silent_related a b ≡ false
other_line k a b is later =
    ap (λ (s : Bool). s && ((a.of.symbol == b.of.symbol) && goes_on_silent (prb_of a) (prb_of b)))
    (ne_eqb a.of.planned.index b.of.planned.index (λ same. omega (arith, is, later, same)))
  where
    prb_of : SilentItem → SilentPrb
    prb_of x = record { prb = x.prb; mask = x.mask; reason = x.reason }

module _ (all : Kept) (cells : List CellRun) where
  -- an item of a symbol of a line, whatever its mask
  of_prb : (P : SilentItem → Type 0) (p : PlannedLine) (number y prb mask : ℕ) → P (silent_item (commands_of all p) (line_symbol p number y) prb mask) → (b : Bool)
      → AllByRecursion P (let o : List SilentItem = if b then [] else silent_item (commands_of all p) (line_symbol p number y) prb mask ∷ [] in o)
  of_prb P p number y prb mask h true = tt
  of_prb P p number y prb mask h false = (h, tt)

  abbrev mask_at : PlannedLine → ℕ → ℕ → ℕ
  mask_at p y prb = silent_mask_by (of_symbol run_key (symbol_key p y) cells) p.endpoint.id p.line.mask prb

  of_one_symbol : (p : PlannedLine) (number y : ℕ) → AllByRecursion (IsOfSymbol y) (silent_items_of_symbol all cells number p y)
  of_one_symbol p number y =
      all_each (IsOfSymbol y) (first_prb (line_allocation p)) (prb_count (line_allocation p)) _ (λ prb. of_prb (IsOfSymbol y) p number y prb (mask_at p y prb) refl (mask_at p y prb == 0))

  of_its_line : (p : PlannedLine) (number y : ℕ) → AllByRecursion (IsOfLine p.index) (silent_items_of_symbol all cells number p y)
  of_its_line p number y =
      all_each (IsOfLine p.index) (first_prb (line_allocation p)) (prb_count (line_allocation p)) _
      (λ prb. of_prb (IsOfLine p.index) p number y prb (mask_at p y prb) refl (mask_at p y prb == 0))

  from_symbol : (p : PlannedLine) (number y first n : ℕ) → y ≤ first → AllByRecursion (IsFromSymbol y) (each first n (silent_items_of_symbol all cells number p))
  unfolding each
  from_symbol p number y first zero le = tt
  from_symbol p number y first (suc n) le =
      all_append (IsFromSymbol y) (silent_items_of_symbol all cells number p first) (each (first + 1) n (silent_items_of_symbol all cells number p))
      (all_weaker (IsOfSymbol first) (IsFromSymbol y) (λ x is. omega (arith, is, le)) (silent_items_of_symbol all cells number p first) (of_one_symbol p number first))
      (from_symbol p number y (first + 1) n (omega (arith, le)))

  of_line_if : (p : PlannedLine) (number : ℕ) (b : Bool) → AllByRecursion (IsOfLine p.index) (let o : List SilentItem = if b then silent_items_of all cells number p else [] in o)
  of_line_if p number true = all_each (IsOfLine p.index) p.line.symbol p.line.count (silent_items_of_symbol all cells number p) (of_its_line p number)
  of_line_if p number false = tt

  of_line : (numbers : List ℕ) (p : PlannedLine) → AllByRecursion (IsOfLine p.index) (silent_items_if all cells numbers p)
  of_line numbers p = of_line_if p (slice_index numbers p.index) (is_dl p.line.kind)

  from_line : (numbers : List ℕ) (es : List EndpointConfig) (j k : ℕ) (plan : List PlanLine) → j ≤ k → AllByRecursion (IsFromLine j) (silent_items all cells numbers (planned_from es k plan))
  unfolding planned_from
  from_line numbers es j k [] le = tt
  from_line numbers es j k (line ∷ plan) le = one (find_endpoint es line.id) (from_line numbers es j (k + 1) plan (omega (arith, le)))
    where
      one : (o : Option (ℕ × EndpointConfig)) → AllByRecursion (IsFromLine j) (silent_items all cells numbers (planned_from es (k + 1) plan))
          → AllByRecursion (IsFromLine j) (silent_items all cells numbers (option_to_list (planned_with k line o) ++ planned_from es (k + 1) plan))
      one None rest = rest
      one (Some found) rest =
          let p : PlannedLine = record { index = k; ep = found.0; endpoint = found.1; line = line } in
          all_append (IsFromLine j) (silent_items_if all cells numbers p) (silent_items all cells numbers (planned_from es (k + 1) plan))
          (all_weaker (IsOfLine k) (IsFromLine j) (λ x is. omega (arith, is, le)) (silent_items_if all cells numbers p) (of_line numbers p)) rest

-- ---- a symbol of a line

-- what is kept of a silent PRB
abbrev pub item_of : PlannedLine → ℕ → ℕ → SilentPrb → SilentItem
item_of p number y x = record { of = line_symbol p number y; prb = x.prb; mask = x.mask; reason = x.reason }

piece_same : (s : SilentSymbol) (q : List SilentPrb) → piece_line (λ x n. silent_line_of (item_of s.planned s.number s.symbol x) n) q ≡ silent_line s q
piece_same s [] = refl
piece_same s (x ∷ xs) = refl

pieces_told : (s : SilentSymbol) (qs : List (List SilentPrb)) → lines_of_runs (λ x n. silent_line_of (item_of s.planned s.number s.symbol x) n) qs ≡ flat_map (silent_line s) qs
pieces_told s [] = refl
pieces_told s (q ∷ qs) = ap₂ (λ x y. x ++ y) (piece_same s q) (pieces_told s qs)

goes_on_same : (p : PlannedLine) (number y : ℕ) (a b : SilentPrb) → silent_related (item_of p number y a) (item_of p number y b) ≡ goes_on_silent a b
goes_on_same p number y a b = ap₂ (λ (u v : Bool). u && (v && goes_on_silent a b)) (eq-eqb p.index p.index refl) (eq-eqb y y refl)

prbs_told : (s : SilentSymbol) → run_lines silent_related silent_line_of (map (item_of s.planned s.number s.symbol) s.prbs) ≡ silent_symbol_lines s
unfolding silent_symbol_lines
prbs_told s =
    run_lines_map (item_of s.planned s.number s.symbol) silent_related silent_line_of s.prbs
    ∙ ap (lines_of_runs (λ x n. silent_line_of (item_of s.planned s.number s.symbol x) n))
    (pieces_same (λ a b. silent_related (item_of s.planned s.number s.symbol a) (item_of s.planned s.number s.symbol b)) goes_on_silent (goes_on_same s.planned s.number s.symbol) s.prbs)
    ∙ pieces_told s (pieces goes_on_silent s.prbs)

-- ---- a replay

module _ (c : Config) (events : List Event) (ordered : Kept) (sorted : List CellRun) (numbers : List ℕ) (same : SameBySymbol (kept c events) ordered)
    (by_symbol : (key : SymbolKey) → of_symbol run_key key sorted ≡ of_symbol run_key key (cell_runs c events)) where
  abbrev commands : List CommandRecord
  commands = (kept c events).commanded

  mask_same : (p : PlannedLine) → IsFound c.endpoints p → (y prb : ℕ)
      → silent_mask_by (of_symbol run_key (symbol_key p y) sorted) p.endpoint.id p.line.mask prb ≡ silent_mask (seen events) p y prb
  unfolding silent_mask
  mask_same p found y prb =
      bits_same (λ re. in_mask p.line.mask re && not (list_any (has_element p.endpoint.id prb re) (of_symbol run_key (symbol_key p y) sorted)))
      (λ re. in_mask p.line.mask re && not (is_heard (seen events) Ru p.endpoint.id p.line.slot y prb re))
      (λ re. ap (λ b. in_mask p.line.mask re && not b)
      (heard_is c events sorted p found (λ symbol. by_symbol (symbol_key p symbol)) y prb re
      ∙ ap (λ (cells : List Seen). is_heard cells Ru p.endpoint.id p.line.slot y prb re) (runs_hold_cells c events))) 12

  reason_same : (p : PlannedLine) (y prb mask : ℕ) → command_reason (commands_of ordered p) (line_elements p y prb mask) ≡ command_reason commands (line_elements p y prb mask)
  reason_same p y prb mask =
      ap (λ (k : Kept). command_reason k.commanded (line_elements p y prb mask)) (same (symbol_key p y))
      ∙ others_never_matter.commands commands (line_elements p y prb mask)

  with_mask : (p : PlannedLine) (number y prb mask : ℕ) (b : Bool)
      → (let o : List SilentItem = if b then [] else silent_item (commands_of ordered p) (line_symbol p number y) prb mask ∷ [] in o)
      ≡ map (item_of p number y)
      (let o : List SilentPrb = if b then [] else (let x : SilentPrb = record { prb = prb; mask = mask; reason = command_reason commands (line_elements p y prb mask) } in x) ∷ [] in o)
  with_mask p number y prb mask true = refl
  with_mask p number y prb mask false =
      ap (λ r. let x : SilentItem = record { of = line_symbol p number y; prb = prb; mask = mask; reason = r } in x ∷ []) (reason_same p y prb mask)

  at_prb : (p : PlannedLine) → IsFound c.endpoints p → (number y prb : ℕ)
      → silent_items_at (commands_of ordered p) (of_symbol run_key (symbol_key p y) sorted) (line_symbol p number y) prb
      ≡ map (item_of p number y) (silent_prb commands (seen events) p y prb)
  at_prb p found number y prb =
      ap (silent_item_if (commands_of ordered p) (line_symbol p number y) prb) (mask_same p found y prb)
      ∙ with_mask p number y prb (silent_mask (seen events) p y prb) (silent_mask (seen events) p y prb == 0)

  symbol_items : (p : PlannedLine) → IsFound c.endpoints p → (number y : ℕ) → silent_items_of_symbol ordered sorted number p y ≡ map (item_of p number y) (silent_prbs commands (seen events) p y)
  unfolding silent_prbs
  symbol_items p found number y =
      each_same (first_prb (line_allocation p)) (prb_count (line_allocation p))
      (silent_items_at (commands_of ordered p) (of_symbol run_key (symbol_key p y) sorted) (line_symbol p number y))
      (λ prb. map (item_of p number y) (silent_prb commands (seen events) p y prb)) (λ prb. at_prb p found number y prb)
      ∙ sym (map_each (item_of p number y) (first_prb (line_allocation p)) (prb_count (line_allocation p)) (silent_prb commands (seen events) p y))

  symbol_told : (p : PlannedLine) → IsFound c.endpoints p → (number y : ℕ)
      → run_lines silent_related silent_line_of (silent_items_of_symbol ordered sorted number p y) ≡ silent_symbol_lines (silent_symbol commands (seen events) number p y)
  symbol_told p found number y =
      ap (run_lines silent_related silent_line_of) (symbol_items p found number y) ∙ prbs_told (silent_symbol commands (seen events) number p y)

  -- ---- a line

  symbols_told : (p : PlannedLine) → IsFound c.endpoints p → (number first n : ℕ)
      → run_lines silent_related silent_line_of (each first n (silent_items_of_symbol ordered sorted number p))
      ≡ flat_map silent_symbol_lines (each first n (λ y. silent_symbol commands (seen events) number p y ∷ []))
  unfolding each pieces
  symbols_told p found number first zero = refl
  symbols_told p found number first (suc n) =
      lines_append silent_related silent_line_of (silent_items_of_symbol ordered sorted number p first) (each (first + 1) n (silent_items_of_symbol ordered sorted number p))
      (are_unrelated silent_related (IsOfSymbol first) (IsFromSymbol (first + 1)) (other_symbol first)
      (silent_items_of_symbol ordered sorted number p first) (each (first + 1) n (silent_items_of_symbol ordered sorted number p))
      (of_one_symbol ordered sorted p number first) (from_symbol ordered sorted p number (first + 1) (first + 1) n (omega arith)))
      ∙ ap₂ (λ x y. x ++ y) (symbol_told p found number first) (symbols_told p found number (first + 1) n)

  if_told : (p : PlannedLine) → IsFound c.endpoints p → (number : ℕ) (b : Bool)
      → run_lines silent_related silent_line_of (let o : List SilentItem = if b then silent_items_of ordered sorted number p else [] in o)
      ≡ flat_map silent_symbol_lines (let o : List SilentSymbol = if b then silent_of_line commands (seen events) number p else [] in o)
  unfolding silent_of_line pieces
  if_told p found number true = symbols_told p found number p.line.symbol p.line.count
  if_told p found number false = refl

  line_told : (p : PlannedLine) → IsFound c.endpoints p
      → run_lines silent_related silent_line_of (silent_items_if ordered sorted numbers p) ≡ flat_map silent_symbol_lines (silent_of commands (seen events) numbers p)
  line_told p found = if_told p found (slice_index numbers p.index) (is_dl p.line.kind)

  -- ---- a plan

  plan_told : (k : ℕ) (plan : List PlanLine)
      → run_lines silent_related silent_line_of (silent_items ordered sorted numbers (planned_from c.endpoints k plan))
      ≡ flat_map silent_symbol_lines (flat_map (silent_of commands (seen events) numbers) (planned_from c.endpoints k plan))
  unfolding planned_from pieces
  plan_told k [] = refl
  plan_told k (line ∷ plan) = one (find_endpoint c.endpoints line.id) refl (plan_told (k + 1) plan)
    where
      one : (o : Option (ℕ × EndpointConfig)) → find_endpoint c.endpoints line.id ≡ o
          → run_lines silent_related silent_line_of (silent_items ordered sorted numbers (planned_from c.endpoints (k + 1) plan))
          ≡ flat_map silent_symbol_lines (flat_map (silent_of commands (seen events) numbers) (planned_from c.endpoints (k + 1) plan))
          → run_lines silent_related silent_line_of (silent_items ordered sorted numbers (option_to_list (planned_with k line o) ++ planned_from c.endpoints (k + 1) plan))
          ≡ flat_map silent_symbol_lines (flat_map (silent_of commands (seen events) numbers) (option_to_list (planned_with k line o) ++ planned_from c.endpoints (k + 1) plan))
      one None is told = told
      one (Some found) is told =
          let p : PlannedLine = record { index = k; ep = found.0; endpoint = found.1; line = line } in
          lines_append silent_related silent_line_of (silent_items_if ordered sorted numbers p) (silent_items ordered sorted numbers (planned_from c.endpoints (k + 1) plan))
          (are_unrelated silent_related (IsOfLine k) (IsFromLine (k + 1)) (other_line k)
          (silent_items_if ordered sorted numbers p) (silent_items ordered sorted numbers (planned_from c.endpoints (k + 1) plan))
          (of_line ordered sorted numbers p) (from_line ordered sorted numbers c.endpoints (k + 1) (k + 1) plan (omega arith)))
          ∙ ap₂ (λ x y. x ++ y) (line_told p (line_found c.endpoints k line found is)) told
          ∙ sym (flat_map-append silent_symbol_lines (silent_of commands (seen events) numbers p) (flat_map (silent_of commands (seen events) numbers) (planned_from c.endpoints (k + 1) plan)))

-- of every plan, whatever the configuration and the events
pub silent_told : (c : Config) (plan : List PlanLine) (numbers : List ℕ) (events : List Event) (ordered : Kept) (sorted : List CellRun) → SameBySymbol (kept c events) ordered
    → ((key : SymbolKey) → of_symbol run_key key sorted ≡ of_symbol run_key key (cell_runs c events))
    → silent_text ordered sorted numbers (planned c.endpoints plan) ≡ silent_lines c plan numbers events
unfolding silent_lines_of silent_symbols
silent_told c plan numbers events ordered sorted same by_symbol = plan_told c events ordered sorted numbers same by_symbol 0 plan

-- ---- the places of a plan's lines are below their number

below : (es : List EndpointConfig) (k n : ℕ) (plan : List PlanLine) → k + length plan ≤ n → AllByRecursion (λ (p : PlannedLine). p.index < n) (planned_from es k plan)
unfolding planned_from
below es k n [] le = tt
below es k n (line ∷ plan) le = one (find_endpoint es line.id) (below es (k + 1) n plan (omega (arith, le)))
  where
    one : (o : Option (ℕ × EndpointConfig)) → AllByRecursion (λ (p : PlannedLine). p.index < n) (planned_from es (k + 1) plan)
        → AllByRecursion (λ (p : PlannedLine). p.index < n) (option_to_list (planned_with k line o) ++ planned_from es (k + 1) plan)
    one None rest = rest
    one (Some found) rest = (let b : k < n = omega (arith, le) in b, rest)

pub are_numbered : (es : List EndpointConfig) (plan : List PlanLine) (numbers : List ℕ) → length numbers ≡ length plan
    → AllByRecursion (λ (p : PlannedLine). p.index < length numbers) (planned es plan)
are_numbered es plan numbers same = below es 0 (length numbers) plan (omega (arith, same))
