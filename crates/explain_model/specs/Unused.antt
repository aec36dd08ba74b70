-- The lines of blocks that were taken and that no cell shows (this project's profile).
use Rattle.std.specs.Prelude.{ℕ, ◌+◌, ◌==◌, Bool, not, ◌&&◌, if◌then◌else◌, List, [], ◌∷◌, ◌++◌, filter, map, length, Option, Some, None, slice_get}
use Rattle.std.specs.List.{flat_map}
use Rattle.fh_base.specs.Air.{air_of}
use Rattle.air_source.specs.Units.{same_side}
use Rattle.air_source.specs.declared.events.Event.{Event}
use Rattle.air_source.specs.declared.events.Side.{Side}
use Rattle.air_source.specs.declared.events.Side.TheVariants.{Ru, Du}
use Rattle.window_config.specs.declared.config.Config.{Config}
use Rattle.window_config.specs.declared.endpoints.EndpointConfig.{EndpointConfig}
use Rattle.unit_model.specs.Claims.{same_slot}
use Rattle.fh_base.specs.Lists.{each, in_order}
use Rattle.unit_model.specs.Order.{comes_before}
use Rattle.unit_model.specs.declared.symbol_start.SymbolStart.{SymbolStart}
use Rattle.explain_model.specs.declared.places.PrbRun.{PrbRun}
use Rattle.explain_model.specs.declared.values.ExplainLine.{ExplainLine}
use Rattle.explain_model.specs.declared.values.ExplainLine.TheVariants as line
use Rattle.explain_model.specs.Pieces.{pieces}
use Rattle.explain_model.specs.declared.data.DataRecord.{DataRecord}
use Rattle.explain_model.specs.declared.keys.SymbolKey.{SymbolKey}
use Rattle.explain_model.specs.SilentReasons.{giver_of, is_on_time, kept}
use Rattle.explain_model.specs.Seen.{Seen, is_shown_at, seen}

-- ---- the symbols that have blocks

abbrev pub start_with : DataRecord → Option EndpointConfig → List SymbolStart
start_with r None = []
start_with r (Some e) =
    record { ep = r.ep; endpoint = e; start = record { 0 = air_of e.numerology r.slot r.symbol }; slot = r.slot; symbol = r.symbol } ∷ []

-- the symbol of a section, and when it starts
abbrev pub start_of : List EndpointConfig → DataRecord → List SymbolStart
start_of es r = start_with r (slice_get es r.ep)

abbrev pub key_at : Side → SymbolStart → SymbolKey
key_at side s = record { side = side; ep = s.ep; slot = s.slot; symbol = s.symbol }

-- the same symbol of the same endpoint
abbrev pub same_start : SymbolStart → SymbolStart → Bool
same_start a b = (a.ep == b.ep) && (same_slot a.slot b.slot && (a.symbol == b.symbol))

-- each once
unfoldable pub each_once : List SymbolStart → List SymbolStart
each_once [] = []
each_once (s ∷ ss) = s ∷ filter (λ t. not (same_start s t)) (each_once ss)

-- the symbols of these: by their starts, and at one tick by endpoint, slot and symbol
unfoldable pub in_order_of_time : List SymbolStart → List SymbolStart
in_order_of_time ss = in_order comes_before (each_once ss)

abbrev pub is_giver : Side → DataRecord → Bool
is_giver side r = same_side r.side side && is_on_time r.class

unfoldable pub symbols_given : List EndpointConfig → Side → List DataRecord → List SymbolStart
symbols_given es side rs = in_order_of_time (flat_map (start_of es) (filter (is_giver side) rs))

-- ---- their blocks

-- a block that no cell shows
pub record UnusedBlock : Type 0 where
  pub prb : ℕ
  pub section : ℕ
  pub number : ℕ

-- those of a symbol of a unit
pub record UnusedSymbol : Type 0 where
  pub side : Side
  pub start : SymbolStart
  pub blocks : List UnusedBlock

abbrev pub unused_with : ℕ → Option DataRecord → List UnusedBlock
unused_with prb None = []
unused_with prb (Some r) = record { prb = prb; section = r.section; number = r.number } ∷ []

abbrev pub unused_prb : List DataRecord → List Seen → Side → SymbolStart → ℕ → List UnusedBlock
unused_prb rs cells side s prb =
    if is_shown_at cells side s.endpoint.id s.slot s.symbol prb then [] else unused_with prb (giver_of rs (key_at side s) prb)

-- its PRBs upwards
unfoldable pub unused_blocks : List DataRecord → List Seen → Side → SymbolStart → List UnusedBlock
unused_blocks rs cells side s = each 0 s.endpoint.prbs (unused_prb rs cells side s)

abbrev pub unused_symbol : List DataRecord → List Seen → Side → SymbolStart → UnusedSymbol
unused_symbol rs cells side s = record { side = side; start = s; blocks = unused_blocks rs cells side s }

unfoldable pub unused_of_unit : List EndpointConfig → List DataRecord → List Seen → Side → List UnusedSymbol
unused_of_unit es rs cells side = map (unused_symbol rs cells side) (symbols_given es side rs)

-- first those of the radio unit
unfoldable pub unused_symbols : List EndpointConfig → List DataRecord → List Seen → List UnusedSymbol
unused_symbols es rs cells = unused_of_unit es rs cells Ru ++ unused_of_unit es rs cells Du

-- ---- their lines

-- the second goes on with a run of the first
abbrev pub goes_on_unused : UnusedBlock → UnusedBlock → Bool
goes_on_unused a b = (a.section == b.section) && ((a.number == b.number) && (a.prb + 1 == b.prb))

abbrev pub unused_run : UnusedSymbol → UnusedBlock → ℕ → PrbRun
unused_run u x count = record {
  side = u.side;
  at = u.start.start;
  place = record { id = u.start.endpoint.id; slot = u.start.slot; symbol = u.start.symbol };
  prb = x.prb;
  num = count;
  section = x.section;
}

abbrev pub unused_line : UnusedSymbol → List UnusedBlock → List ExplainLine
unused_line u [] = []
unused_line u (x ∷ xs) = line.Unused (unused_run u x (length (x ∷ xs))) x.number ∷ []

-- a line for each run
unfoldable pub unused_symbol_lines : UnusedSymbol → List ExplainLine
unused_symbol_lines u = flat_map (unused_line u) (pieces goes_on_unused u.blocks)

unfoldable pub unused_lines_of : List UnusedSymbol → List ExplainLine
unused_lines_of us = flat_map unused_symbol_lines us

abbrev pub unused_in : Config → List Event → List UnusedSymbol
unused_in c events = unused_symbols c.endpoints (kept c events).given (seen events)

abbrev pub unused_lines : Config → List Event → List ExplainLine
unused_lines c events = unused_lines_of (unused_in c events)
