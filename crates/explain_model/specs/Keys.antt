-- The symbols and slots that records speak of.
use Rattle.std.specs.Prelude.{◌==◌, Bool, ◌&&◌}
use Rattle.air_source.specs.Units.{same_side}
use Rattle.unit_model.specs.Claims.{same_slot}
use Rattle.explain_model.specs.declared.data.DataRecord.{DataRecord}
use Rattle.explain_model.specs.declared.headers.BeginningRecord.{BeginningRecord}
use Rattle.explain_model.specs.declared.headers.HeaderRecord.{HeaderRecord}
use Rattle.explain_model.specs.declared.headers.RepeatedRecord.{RepeatedRecord}
use Rattle.explain_model.specs.declared.keys.SlotKey.{SlotKey}
use Rattle.explain_model.specs.declared.keys.SymbolKey.{SymbolKey}
use Rattle.explain_model.specs.declared.runs.CellRun.{CellRun}
use Rattle.explain_model.specs.declared.sections.CommandRecord.{CommandRecord}

abbrev pub data_key : DataRecord → SymbolKey
data_key r = record { side = r.side; ep = r.ep; slot = r.slot; symbol = r.symbol }

abbrev pub command_key : CommandRecord → SlotKey
command_key r = record { ep = r.ep; slot = r.slot }

abbrev pub header_key : HeaderRecord → SymbolKey
header_key r = record { side = r.side; ep = r.ep; slot = r.slot; symbol = r.symbol }

abbrev pub repeated_key : RepeatedRecord → SymbolKey
repeated_key r = record { side = r.side; ep = r.ep; slot = r.slot; symbol = r.symbol }

abbrev pub beginning_key : BeginningRecord → SymbolKey
beginning_key r = record { side = r.side; ep = r.ep; slot = r.slot; symbol = r.symbol }

abbrev pub run_key : CellRun → SymbolKey
run_key r = record { side = r.side; ep = r.ep; slot = r.slot; symbol = r.symbol }

-- the same symbol
abbrev pub same_symbol : SymbolKey → SymbolKey → Bool
same_symbol a b = same_side a.side b.side && ((a.ep == b.ep) && (same_slot a.slot b.slot && (a.symbol == b.symbol)))

-- the same slot
abbrev pub same_slot_key : SlotKey → SlotKey → Bool
same_slot_key a b = (a.ep == b.ep) && same_slot a.slot b.slot
