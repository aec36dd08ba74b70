-- What searches find.
use Rattle.std.proofs.Common.{◌≡◌, ℤ, [], Option, None, Some}
use Rattle.std.specs.Prelude.{IfNone, IfSome, int_lt}
use Rattle.std.proofs.lemmas.Bool.{and_from, and_parts}
use Rattle.unit_model.specs.declared.symbol_start.SymbolStart.{SymbolStart}
use Rattle.unit_cells.specs.Cells.{CellsValue, cells_uplink}
use Rattle.unit_symbols.specs.Cursors.{IsFirstJob, left_in}
use Rattle.unit_symbols.specs.declared.cursor.JobCursor.{JobCursor}
use Rattle.unit_symbols.specs.declared.cursor.NextJob.{NextJob}
use Rattle.unit_symbols.specs.DueSymbols.{is_left_after}
use Rattle.unit_symbols.specs.Symbols.{IsFirst, IsFitting, IsSymbol}
use Rattle.ru_buffers.specs.Calls.{IsNextMessage, IsNextSymbol}
use Rattle.ru_buffers.specs.Reporting.{IsLeftAfter}
use Rattle.fh_base.proofs.Orders.{under as later, under_is as is_later}

fitting : (v : CellsValue) (clock : ℤ) (x : SymbolStart) → IsLeftAfter v clock x → IsFitting v (is_left_after v clock) x
fitting v clock x is = record { is = is.symbol; fit = and_from (int_lt clock x.start.0) _ (is_later clock x.start.0 is.after) is.left }

left_after : (v : CellsValue) (clock : ℤ) (x : SymbolStart) → IsFitting v (is_left_after v clock) x → IsLeftAfter v clock x
left_after v clock x w =
    let parts = and_parts (int_lt clock x.start.0) _ w.fit in
    record { symbol = w.is; after = later clock x.start.0 parts.0; left = parts.1 }

pub found_symbol : (v : CellsValue) (clock : ℤ) (o : Option SymbolStart) → IsFirst v (is_left_after v clock) o → IsNextSymbol v clock o
found_symbol v clock None none = λ x is. let fit = (fitting v clock x is).fit in let unfit = none x is.symbol in absurd (cc)
found_symbol v clock (Some s) f = record { was = left_after v clock s f.was; first = λ x is. f.first x (fitting v clock x is) }

pub found_message : (v : CellsValue) (cursor : JobCursor) (o : Option NextJob) → IfSome o (λ n. IsFirstJob v cursor n)
    → IfNone o ((s : SymbolStart) → IsSymbol v s → left_in (cells_uplink v) cursor s ≡ []) → IsNextMessage v cursor o
found_message v cursor None found none = none
found_message v cursor (Some n) found none = found
