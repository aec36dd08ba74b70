-- Blocks that no cell shows, by the runs of cells.
use Rattle.std.specs.Prelude.{◌+◌, ◌==◌, ◌&&◌, ℕ, Bool, List, [], ◌++◌, if◌then◌else◌, map}
use Rattle.std.specs.List.{flat_map, list_any}
use Rattle.air_source.specs.declared.events.Side.{Side}
use Rattle.air_source.specs.declared.events.Side.TheVariants.{Ru, Du}
use Rattle.window_config.specs.declared.endpoints.EndpointConfig.{EndpointConfig}
use Rattle.unit_model.specs.Claims.{is_from}
use Rattle.fh_base.specs.Lists.{each}
use Rattle.unit_model.specs.declared.symbol_start.SymbolStart.{SymbolStart}
use Rattle.explain_model.specs.declared.values.ExplainLine.{ExplainLine}
use Rattle.explain_model.specs.declared.values.ExplainLine.TheVariants as line
use Rattle.explain_model.specs.SilentReasons.{Kept, giver_of}
use Rattle.explain_model.specs.Unused.{UnusedBlock, key_at, symbols_given, unused_with}
use Rattle.explain_heard.specs.Runs.{run_lines}
use Rattle.explain_model.specs.Keys.{data_key, run_key}
use Rattle.explain_model.specs.declared.data.DataRecord.{DataRecord}
use Rattle.explain_model.specs.declared.runs.CellRun.{CellRun}
use Rattle.explain_records.specs.Keys.{of_symbol}
use Rattle.why_lines.specs.declared.blocks.UnitSymbol.{UnitSymbol}
use Rattle.why_lines.specs.declared.blocks.UnusedPrb.{UnusedPrb}

-- ---- runs of blocks

abbrev pub unused_related : UnusedPrb → UnusedPrb → Bool
unused_related a b = (a.run.section == b.run.section) && ((a.from == b.from) && (a.run.prb + 1 == b.run.prb))

abbrev pub unused_line_of : UnusedPrb → ℕ → ExplainLine
unused_line_of a num = line.Unused (record a.run { num = num }) a.from

-- ---- the blocks of a symbol

-- a run of an endpoint's id shows the block of the PRB
abbrev pub shows : ℕ → ℕ → CellRun → Bool
shows id prb r = (r.id == id) && (is_from r.prb r.count prb && r.shown)

abbrev pub is_shown_by : List CellRun → ℕ → ℕ → Bool
is_shown_by cells id prb = list_any (shows id prb) cells

abbrev pub unused_prb_of : UnitSymbol → UnusedBlock → UnusedPrb
unused_prb_of u x = record {
  run = record {
    side = u.side;
    at = u.start.start;
    place = record { id = u.start.endpoint.id; slot = u.start.slot; symbol = u.start.symbol };
    prb = x.prb;
    num = 1;
    section = x.section;
  };
  from = x.number;
}

-- the block that sections gave a PRB
abbrev pub unused_prbs_with : List DataRecord → UnitSymbol → ℕ → List UnusedPrb
unused_prbs_with given u prb = map (unused_prb_of u) (unused_with prb (giver_of given (key_at u.side u.start) prb))

-- where no run of the symbol shows it
abbrev pub unused_prbs_at : List DataRecord → List CellRun → UnitSymbol → ℕ → List UnusedPrb
unused_prbs_at given cells u prb = if is_shown_by cells u.start.endpoint.id prb then [] else unused_prbs_with given u prb

-- the PRBs of the carrier upwards
abbrev pub unused_prbs : List DataRecord → List CellRun → UnitSymbol → List UnusedPrb
unused_prbs given cells u = each 0 u.start.endpoint.prbs (unused_prbs_at given cells u)

abbrev pub symbol_text : List DataRecord → List CellRun → UnitSymbol → List ExplainLine
symbol_text given cells u = run_lines unused_related unused_line_of (unused_prbs given cells u)

-- ---- all symbols

-- by the sections and the runs of the symbol
abbrev pub symbol_text_in : Kept → List CellRun → Side → SymbolStart → List ExplainLine
symbol_text_in all cells side s =
    symbol_text (of_symbol data_key (key_at side s) all.given) (of_symbol run_key (key_at side s) cells) (record { side = side; start = s })

abbrev pub symbols_text : Kept → List CellRun → Side → List SymbolStart → List ExplainLine
symbols_text all cells side ss = flat_map (symbol_text_in all cells side) ss

abbrev pub unit_text : List EndpointConfig → Kept → List CellRun → Side → List ExplainLine
unit_text es all cells side = symbols_text all cells side (symbols_given es side all.given)

-- first those of the radio unit
abbrev pub unused_text : List EndpointConfig → Kept → List CellRun → List ExplainLine
unused_text es all cells = unit_text es all cells Ru ++ unit_text es all cells Du
