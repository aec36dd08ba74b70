-- What marked cells say of a symbol.
use Rattle.std.specs.Prelude.{ℕ, Bool, not, ◌==◌, ◌&&◌, is_some, List}
use Rattle.std.specs.List.{list_any}
use Rattle.std.specs.Ordering.{int_eq}
use Rattle.fh_base.specs.declared.values.Slot.{Slot}
use Rattle.window_config.specs.declared.endpoints.EndpointConfig.{EndpointConfig}
use Rattle.air_source.specs.declared.events.AirCell.{AirCell}
use Rattle.idle_spans.specs.Symbols.{symbol_at}
use Rattle.idle_spans.specs.declared.places.Place.{Place}
use Rattle.air_source.specs.Units.{is_down}

abbrev pub same_symbol : Slot → ℕ → Place → Bool
same_symbol slot symbol p = int_eq slot.frame p.slot.frame && ((slot.subframe == p.slot.subframe) && ((slot.slot == p.slot.slot) && (symbol == p.symbol)))

-- the cell is one that the radio unit reports of this symbol of the endpoint
abbrev pub is_of_symbol : EndpointConfig → Place → AirCell → Bool
is_of_symbol e p c = is_down c.side && ((c.id == e.id) && same_symbol c.slot c.symbol p)

-- one of the cells is of the symbol and has samples
abbrev pub is_shown : EndpointConfig → Place → List AirCell → Bool
is_shown e p cells = list_any (λ c. is_of_symbol e p c && is_some c.block) cells

-- one of the cells is of the symbol and is missing
abbrev pub is_missed : EndpointConfig → Place → List AirCell → Bool
is_missed e p cells = list_any (λ c. is_of_symbol e p c && not (is_some c.block)) cells

-- the symbol with this number in the frames from one on is silent
abbrev pub is_silent : EndpointConfig → ℕ → List AirCell → ℕ → Bool
is_silent e first cells k = not (is_shown e (symbol_at e.numerology first k) cells)

abbrev pub has_missing : EndpointConfig → ℕ → List AirCell → ℕ → Bool
has_missing e first cells k = is_missed e (symbol_at e.numerology first k) cells
