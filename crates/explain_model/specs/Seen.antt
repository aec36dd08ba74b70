-- The cells that both units reported, without their samples, and the runs of them that are kept (this project's profile).
use Rattle.std.specs.Prelude.{◌≡◌, ℕ, ◌==◌, Bool, true, false, ◌&&◌, is_some, List, [], ◌∷◌, length, Option, Some, None}
use Rattle.std.specs.List.{flat_map, list_any}
use Rattle.fh_base.specs.declared.values.Slot.{Slot}
use Rattle.fh_base.specs.declared.values.Ticks.{Ticks}
use Rattle.air_source.specs.Units.{same_side}
use Rattle.air_source.specs.declared.events.AirCell.{AirCell}
use Rattle.air_source.specs.declared.events.Event.{Event}
use Rattle.air_source.specs.declared.events.Event.TheVariants as event
use Rattle.air_source.specs.declared.events.Side.{Side}
use Rattle.window_config.specs.declared.config.Config.{Config}
use Rattle.window_config.specs.declared.endpoints.EndpointConfig.{EndpointConfig}
use Rattle.unit_model.specs.Claims.{in_mask, same_slot}
use Rattle.fh_base.specs.Lists.{each}
use Rattle.unit_model.specs.Meetings.{find_endpoint}
use Rattle.explain_model.specs.declared.values.CellWord.{CellWord}
use Rattle.explain_model.specs.declared.values.CellWord.TheVariants.{Shown, Missing}
use Rattle.explain_model.specs.Cells.{Entry, Lines, Of, runs}
use Rattle.explain_model.specs.declared.keys.SymbolKey.{SymbolKey}
use Rattle.explain_model.specs.declared.runs.CellRun.{CellRun}

-- a cell that a unit reported, and whether it has samples
pub record Seen : Type 0 where
  pub side : Side
  pub at : Ticks
  pub id : ℕ
  pub slot : Slot
  pub symbol : ℕ
  pub prb : ℕ
  pub section : ℕ
  pub mask : ℕ
  pub shown : Bool

abbrev pub seen_of : AirCell → Seen
seen_of a = record {
  side = a.side;
  at = a.at;
  id = a.id;
  slot = a.slot;
  symbol = a.symbol;
  prb = a.prb;
  section = a.section;
  mask = a.mask;
  shown = is_some a.block;
}

-- those of all events, in their order
unfoldable pub seen : List Event → List Seen
seen [] = []
seen (event.Cell a ∷ rest) = seen_of a ∷ seen rest
seen (event.Arrival side at frame ∷ rest) = seen rest
seen (event.Delay at side id value ∷ rest) = seen rest
seen (event.Count side counter value ∷ rest) = seen rest

-- the index of the endpoint with an id; 0 where there is none
abbrev pub ep_found : Option (ℕ × EndpointConfig) → ℕ
ep_found None = 0
ep_found (Some found) = found.0

abbrev pub ep_of : Config → ℕ → ℕ
ep_of c id = ep_found (find_endpoint c.endpoints id)

-- the symbol that a cell is in
abbrev pub seen_key : Config → Seen → SymbolKey
seen_key c s = record { side = s.side; ep = ep_of c s.id; slot = s.slot; symbol = s.symbol }

-- ---- what is asked of all cells

-- a cell of this PRB of a unit
abbrev pub is_at : Side → ℕ → Slot → ℕ → ℕ → Seen → Bool
is_at side id slot symbol prb s =
    same_side s.side side && ((s.id == id) && (same_slot s.slot slot && ((s.symbol == symbol) && (s.prb == prb))))

-- one is in use in the element
unfoldable pub is_heard : List Seen → Side → ℕ → Slot → ℕ → ℕ → ℕ → Bool
is_heard cells side id slot symbol prb re = list_any (λ s. is_at side id slot symbol prb s && in_mask s.mask re) cells

-- one shows the PRB's block
unfoldable pub is_shown_at : List Seen → Side → ℕ → Slot → ℕ → ℕ → Bool
is_shown_at cells side id slot symbol prb = list_any (λ s. is_at side id slot symbol prb s && s.shown) cells

-- ---- the runs that are kept: one for each line of cells

abbrev pub shows : CellWord → Bool
shows (Shown from) = true
shows Missing = false

abbrev pub run_with : Config → AirCell → CellWord → ℕ → CellRun
run_with c a w count = record {
  side = a.side;
  at = a.at;
  id = a.id;
  ep = ep_of c a.id;
  slot = a.slot;
  symbol = a.symbol;
  prb = a.prb;
  count = count;
  section = a.section;
  mask = a.mask;
  shown = shows w;
}

abbrev pub run_of : Config → List Entry → List CellRun
run_of c [] = []
run_of c (Lines ls ∷ rest) = []
run_of c (Of a w ∷ rest) = run_with c a w (length (Of a w ∷ rest)) ∷ []

unfoldable pub cell_runs : Config → List Event → List CellRun
cell_runs c events = flat_map (run_of c) (runs c events)

-- the cells of a run
abbrev pub seen_at : CellRun → ℕ → Seen
seen_at r prb = record {
  side = r.side;
  at = r.at;
  id = r.id;
  slot = r.slot;
  symbol = r.symbol;
  prb = prb;
  section = r.section;
  mask = r.mask;
  shown = r.shown;
}

unfoldable pub seen_in : CellRun → List Seen
seen_in r = each r.prb r.count (λ prb. seen_at r prb ∷ [])

-- the runs hold all cells, in their order
abbrev pub RunsHoldCells : Type 0
RunsHoldCells = (c : Config) (events : List Event) → flat_map seen_in (cell_runs c events) ≡ seen events
