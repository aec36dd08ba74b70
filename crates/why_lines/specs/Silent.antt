-- Silent elements of a plan, by the runs of cells.
use Rattle.std.specs.Prelude.{◌<◌, ◌≤◌, ◌+◌, ◌^◌, ◌==◌, ◌&&◌, not, pos, ◌≤ℤ◌, ℕ, Bool, List, [], ◌∷◌, if◌then◌else◌, filter, slice_index}
use Rattle.std.specs.List.{flat_map, list_any}
use Rattle.fh_base.specs.Air.{air_of}
use Rattle.fh_base.specs.Numbering.{slots_of, symbols_of}
use Rattle.air_source.specs.declared.events.Side.TheVariants.{Ru}
use Rattle.window_config.specs.declared.plan.TheConstants.{LAST_FRAME}
use Rattle.unit_model.specs.Claims.{first_prb, in_mask, is_from, prb_count}
use Rattle.fh_base.specs.Lists.{each}
use Rattle.plan_model.specs.Lines.{line_allocation}
use Rattle.plan_model.specs.declared.lines.PlannedLine.{PlannedLine}
use Rattle.explain_model.specs.declared.values.ExplainLine.{ExplainLine}
use Rattle.explain_model.specs.declared.values.ExplainLine.TheVariants as line
use Rattle.explain_model.specs.Commanded.{command_reason}
use Rattle.explain_model.specs.SilentReasons.{Kept}
use Rattle.explain_model.specs.Same.{same_reason}
use Rattle.explain_model.specs.Silent.{bits_below, is_dl, line_elements}
use Rattle.explain_model.specs.Keys.{command_key, run_key, same_slot_key}
use Rattle.explain_model.specs.declared.keys.SlotKey.{SlotKey}
use Rattle.explain_model.specs.declared.keys.SymbolKey.{SymbolKey}
use Rattle.explain_model.specs.declared.runs.CellRun.{CellRun}
use Rattle.explain_model.specs.declared.sections.CommandRecord.{CommandRecord}
use Rattle.explain_records.specs.Keys.{of_symbol}
use Rattle.explain_heard.specs.Runs.{run_lines}
use Rattle.why_lines.specs.declared.items.LineSymbol.{LineSymbol}
use Rattle.why_lines.specs.declared.items.SilentItem.{SilentItem}

-- ---- a PRB

-- the second goes on with a run of the first
abbrev pub silent_related : SilentItem → SilentItem → Bool
silent_related a b =
    (a.of.planned.index == b.of.planned.index) && ((a.of.symbol == b.of.symbol)
    && ((a.mask == b.mask) && (same_reason a.reason b.reason && (a.prb + 1 == b.prb))))

abbrev pub silent_line_of : SilentItem → ℕ → ExplainLine
silent_line_of a num = line.WhySilent (record {
  side = Ru;
  at = a.of.at;
  place = record { id = a.of.planned.endpoint.id; slot = a.of.planned.line.slot; symbol = a.of.symbol };
  prb = a.prb;
  num = num;
  section = a.of.planned.line.section;
}) a.mask a.of.number a.reason

-- ---- a symbol

-- a run of cells of the endpoint with an id has the element at the PRB
abbrev pub has_element : ℕ → ℕ → ℕ → CellRun → Bool
has_element id prb re r = ((r.id == id) && is_from r.prb r.count prb) && in_mask r.mask re

-- of these elements those that no cell of a symbol has at the PRB
abbrev pub silent_mask_by : List CellRun → ℕ → ℕ → ℕ → ℕ
silent_mask_by cells id mask prb = bits_below (λ re. in_mask mask re && not (list_any (has_element id prb re) cells)) 12

abbrev pub silent_item : List CommandRecord → LineSymbol → ℕ → ℕ → SilentItem
silent_item commands s prb mask = record {
  of = s;
  prb = prb;
  mask = mask;
  reason = command_reason commands (line_elements s.planned s.symbol prb mask);
}

abbrev pub silent_item_if : List CommandRecord → LineSymbol → ℕ → ℕ → List SilentItem
silent_item_if commands s prb mask = if mask == 0 then [] else silent_item commands s prb mask ∷ []

abbrev pub silent_items_at : List CommandRecord → List CellRun → LineSymbol → ℕ → List SilentItem
silent_items_at commands cells s prb = silent_item_if commands s prb (silent_mask_by cells s.planned.endpoint.id s.planned.line.mask prb)

-- its PRBs upwards
abbrev pub silent_items_in : List CommandRecord → List CellRun → LineSymbol → List SilentItem
silent_items_in commands cells s = each (first_prb (line_allocation s.planned)) (prb_count (line_allocation s.planned)) (silent_items_at commands cells s)

-- ---- a line

abbrev pub line_symbol : PlannedLine → ℕ → ℕ → LineSymbol
line_symbol p number symbol = record {
  planned = p;
  number = number;
  symbol = symbol;
  at = record { 0 = air_of p.endpoint.numerology p.line.slot symbol };
}

abbrev pub symbol_key : PlannedLine → ℕ → SymbolKey
symbol_key p symbol = record { side = Ru; ep = p.ep; slot = p.line.slot; symbol = symbol }

abbrev pub slot_key : PlannedLine → SlotKey
slot_key p = record { ep = p.ep; slot = p.line.slot }

-- the commands of its slot
abbrev pub commands_of : Kept → PlannedLine → List CommandRecord
commands_of all p = filter (λ r. same_slot_key (command_key r) (slot_key p)) all.commanded

-- of one of its symbols, by the runs of cells of that symbol
abbrev pub silent_items_of_symbol : Kept → List CellRun → ℕ → PlannedLine → ℕ → List SilentItem
silent_items_of_symbol all cells number p y = silent_items_in (commands_of all p) (of_symbol run_key (symbol_key p y) cells) (line_symbol p number y)

-- its symbols upwards
abbrev pub silent_items_of : Kept → List CellRun → ℕ → PlannedLine → List SilentItem
silent_items_of all cells number p = each p.line.symbol p.line.count (silent_items_of_symbol all cells number p)

-- where it is of the downlink
abbrev pub silent_items_if : Kept → List CellRun → List ℕ → PlannedLine → List SilentItem
silent_items_if all cells numbers p = if is_dl p.line.kind then silent_items_of all cells (slice_index numbers p.index) p else []

-- ---- some lines

-- in their order
abbrev pub silent_items : Kept → List CellRun → List ℕ → List PlannedLine → List SilentItem
silent_items all cells numbers ps = flat_map (silent_items_if all cells numbers) ps

abbrev pub silent_text : Kept → List CellRun → List ℕ → List PlannedLine → List ExplainLine
silent_text all cells numbers ps = run_lines silent_related silent_line_of (silent_items all cells numbers ps)

-- ---- what a line of a valid plan is

-- its slot and symbols are the endpoint's, and its PRBs those of a carrier
pub record IsSilentLine (p : PlannedLine) : Type 0 where
  pub frame_low : pos 1 ≤ℤ p.line.slot.frame
  pub frame_high : p.line.slot.frame ≤ℤ pos LAST_FRAME
  pub subframe : p.line.slot.subframe < 10
  pub slot : p.line.slot.slot < slots_of p.endpoint.numerology
  pub symbols : p.line.symbol + p.line.count ≤ symbols_of p.endpoint.numerology
  pub prbs : first_prb (line_allocation p) + prb_count (line_allocation p) < 2 ^ 16
