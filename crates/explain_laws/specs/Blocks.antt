-- The blocks that data gave: each that no cell shows is told exactly once (this project's profile).
use Rattle.std.specs.Prelude.{◌≡◌, ℕ, ◌<◌, ◌==◌, ◌&&◌, Bool, true, false, List, [], ◌∷◌, filter, map, Option, Some, None, slice_get}
use Rattle.std.specs.List.{flat_map}
use Rattle.air_source.specs.declared.events.Event.{Event}
use Rattle.window_config.specs.declared.config.Config.{Config}
use Rattle.window_config.specs.declared.endpoints.EndpointConfig.{EndpointConfig}
use Rattle.explain_model.specs.Keys.{same_symbol}
use Rattle.explain_model.specs.declared.data.DataRecord.{DataRecord}
use Rattle.explain_model.specs.declared.keys.SymbolKey.{SymbolKey}
use Rattle.explain_model.specs.SilentReasons.{giver_of, kept}
use Rattle.explain_model.specs.Seen.{is_shown_at, seen}
use Rattle.explain_model.specs.Unused.{UnusedBlock, UnusedSymbol, key_at, unused_in}

-- a block by its symbol and PRB, with its section id and the arrival that made its message whole
pub record LoneBlock : Type 0 where
  pub key : SymbolKey
  pub prb : ℕ
  pub section : ℕ
  pub number : ℕ

abbrev pub lone : UnusedSymbol → UnusedBlock → LoneBlock
lone u b = record { key = key_at u.side u.start; prb = b.prb; section = b.section; number = b.number }

abbrev pub lone_blocks : UnusedSymbol → List LoneBlock
lone_blocks u = map (lone u) u.blocks

-- those that the lines tell, in their order
abbrev pub lone_in : Config → List Event → List LoneBlock
lone_in c events = flat_map lone_blocks (unused_in c events)

-- it is that of this PRB
abbrev pub is_block : SymbolKey → ℕ → LoneBlock → Bool
is_block k prb b = same_symbol b.key k && (b.prb == prb)

abbrev pub lone_with : SymbolKey → ℕ → Option DataRecord → List LoneBlock
lone_with k prb None = []
lone_with k prb (Some r) = record { key = k; prb = prb; section = r.section; number = r.number } ∷ []

-- of a PRB that a cell shows or not, and that this section of data gave a block, if one did
abbrev pub lone_by : SymbolKey → ℕ → Bool → Option DataRecord → List LoneBlock
lone_by k prb true o = []
lone_by k prb false o = lone_with k prb o

-- Each PRB of a unit's carrier: where a section gave it a block that no cell shows, it is told exactly once, with that section's id and arrival;
-- where none did, or a cell shows it, it is not told.
abbrev pub BlocksAreTold : Type 0
BlocksAreTold =
    (c : Config) (events : List Event) (k : SymbolKey) (prb : ℕ) (e : EndpointConfig) → slice_get c.endpoints k.ep ≡ Some e → prb < e.prbs
    → filter (is_block k prb) (lone_in c events)
    ≡ lone_by k prb (is_shown_at (seen events) k.side e.id k.slot k.symbol prb) (giver_of (kept c events).given k prb)
