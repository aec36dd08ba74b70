-- A symbol of a line, by what is looked up for it.
use Rattle.std.proofs.Common.{◌≡◌, ℕ, ℤ, List, ap, ap₂, ◌∙◌}
use Rattle.fh_base.specs.Air.{air_of}
use Rattle.fh_base.specs.declared.values.Ticks.{Ticks}
use Rattle.plan_model.specs.declared.lines.PlannedLine.{PlannedLine}
use Rattle.explain_model.specs.SilentReasons.{Kept}
use Rattle.explain_model.specs.Keys.{run_key}
use Rattle.explain_model.specs.declared.runs.CellRun.{CellRun}
use Rattle.explain_model.specs.declared.sections.CommandRecord.{CommandRecord}
use Rattle.explain_records.specs.Keys.{of_symbol}
use Rattle.why_lines.specs.Silent.{commands_of, silent_items_in, silent_items_of_symbol, symbol_key}
use Rattle.why_lines.specs.declared.items.LineSymbol.{LineSymbol}

pub symbol_is : (all : Kept) (cells : List CellRun) (number : ℕ) (p : PlannedLine) (y : ℕ) (commands : List CommandRecord) (runs : List CellRun) (at : Ticks) → commands ≡ commands_of all p
    → runs ≡ of_symbol run_key (symbol_key p y) cells → at.0 ≡ air_of p.endpoint.numerology p.line.slot y
    → silent_items_in commands runs (record { planned = p; number = number; symbol = y; at = at }) ≡ silent_items_of_symbol all cells number p y
symbol_is all cells number p y commands runs at of_slot of_key starts =
    ap₂ (λ (cs : List CommandRecord) (rs : List CellRun). silent_items_in cs rs (record { planned = p; number = number; symbol = y; at = at })) of_slot of_key
    ∙ ap (λ (t : ℤ). let s : LineSymbol = record { planned = p; number = number; symbol = y; at = record { 0 = t } } in
    silent_items_in (commands_of all p) (of_symbol run_key (symbol_key p y) cells) s) starts
