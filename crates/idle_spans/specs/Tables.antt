-- What the tables of the endpoints keep, and which cells each stands for.
use Rattle.std.specs.Prelude.{◌≡◌, ℕ, ◌+◌, ◌<◌, ◌≤◌, ◌||◌, List, [], ◌∷◌, length, get_or, map}
use Rattle.window_config.specs.declared.endpoints.EndpointConfig.{EndpointConfig}
use Rattle.window_config.specs.declared.config.Config.{Config}
use Rattle.air_source.specs.declared.events.AirCell.{AirCell}
use Rattle.air_source.specs.declared.events.Event.{Event}
use Rattle.air_source.specs.declared.events.Event.TheVariants.{Cell, Delay, Arrival, Count}
use Rattle.idle_spans.specs.Symbols.{symbol_at, symbol_count}
use Rattle.idle_spans.specs.Silence.{is_shown, is_missed}
use Rattle.idle_spans.specs.Marked.{no_mark}
use Rattle.idle_spans.specs.declared.places.Mark.{Mark}
use Rattle.idle_spans.specs.declared.places.Place.{Place}
use Rattle.window_config.specs.declared.plan.TheConstants.{LAST_FRAME}
use Rattle.window_config.specs.Endpoints.{no_endpoint}

-- the table of an endpoint: the marks of its symbols in the frames, in order
pub record RowValue : Type 0 where
  pub endpoint : EndpointConfig
  pub first : ℕ
  pub last : ℕ
  pub marks : List Mark

-- the tables of all endpoints
pub record SpansValue : Type 0 where
  pub rows : List RowValue

abbrev pub no_row : RowValue
no_row = record { endpoint = no_endpoint; first = 1; last = 1; marks = [] }

abbrev pub mark_at : RowValue → ℕ → Mark
mark_at r k = get_or r.marks k no_mark

abbrev pub row_at : SpansValue → ℕ → RowValue
row_at s ep = get_or s.rows ep no_row

-- the endpoints, in the order of the configuration
abbrev pub endpoints_of : SpansValue → List EndpointConfig
endpoints_of s = map (λ r. r.endpoint) s.rows

-- the endpoint with this index
abbrev pub endpoint_in : SpansValue → ℕ → EndpointConfig
endpoint_in s ep = get_or (endpoints_of s) ep no_endpoint

abbrev pub endpoint_at : Config → ℕ → EndpointConfig
endpoint_at config ep = get_or config.endpoints ep no_endpoint

-- the place of a symbol of the table
abbrev pub row_symbol : RowValue → ℕ → Place
row_symbol r k = symbol_at r.endpoint.numerology r.first k

-- how many symbols an endpoint's table has
abbrev pub symbols_in : SpansValue → ℕ → ℕ
symbols_in s ep = length (row_at s ep).marks

-- some frames: ten at most, from 1 to 99,999
pub record AreFrames (first last : ℕ) : Type 0 where
  pub low : 1 ≤ first
  pub order : first ≤ last
  pub few : last ≤ first + 9
  pub high : last ≤ LAST_FRAME

-- what every table is
pub record IsRow (r : RowValue) : Type 0 where
  pub frames : AreFrames r.first r.last
  pub size : length r.marks ≡ symbol_count r.endpoint.numerology r.first r.last

-- the tables are of endpoints with different ids
abbrev pub AreApart : List RowValue → Type 0
AreApart rows = (i j : ℕ) → i < length rows → j < length rows → (get_or rows i no_row).endpoint.id ≡ (get_or rows j no_row).endpoint.id → i ≡ j

-- from the first table to the second, these cells were marked
pub record MarksRow (old new : RowValue) (cells : List AirCell) : Type 0 where
  pub endpoint : new.endpoint ≡ old.endpoint
  pub first : new.first ≡ old.first
  pub last : new.last ≡ old.last
  pub size : length new.marks ≡ length old.marks
  pub shown : (k : ℕ) → k < length old.marks → (mark_at new k).shown ≡ ((mark_at old k).shown || is_shown old.endpoint (row_symbol old k) cells)
  pub missed : (k : ℕ) → k < length old.marks → (mark_at new k).missed ≡ ((mark_at old k).missed || is_missed old.endpoint (row_symbol old k) cells)

-- in the tables of all endpoints these cells were marked
pub record Marks (old new : SpansValue) (cells : List AirCell) : Type 0 where
  pub size : length new.rows ≡ length old.rows
  pub endpoints : endpoints_of old ≡ endpoints_of new
  pub rows : (ep : ℕ) → ep < length old.rows → MarksRow (row_at old ep) (row_at new ep) cells

-- the table says of each symbol of the frames what the cells say
pub record RowStands (r : RowValue) (first last : ℕ) (cells : List AirCell) : Type 0 where
  pub first_is : r.first ≡ first
  pub last_is : r.last ≡ last
  pub size : length r.marks ≡ symbol_count r.endpoint.numerology first last
  pub shown : (k : ℕ) → k < symbol_count r.endpoint.numerology first last → (mark_at r k).shown ≡ is_shown r.endpoint (symbol_at r.endpoint.numerology first k) cells
  pub missed : (k : ℕ) → k < symbol_count r.endpoint.numerology first last → (mark_at r k).missed ≡ is_missed r.endpoint (symbol_at r.endpoint.numerology first k) cells

-- The spans stand for these marked cells, in the frames of a configuration.
pub record Stands (s : SpansValue) (config : Config) (first last : ℕ) (cells : List AirCell) : Type 0 where
  pub endpoints : endpoints_of s ≡ config.endpoints
  pub rows : (ep : ℕ) → ep < length s.rows → RowStands (row_at s ep) first last cells

-- the cells among some events
abbrev pub cells_of : List Event → List AirCell
cells_of [] = []
cells_of (Cell c ∷ events) = c ∷ cells_of events
cells_of (Delay at side id value ∷ events) = cells_of events
cells_of (Arrival side at frame ∷ events) = cells_of events
cells_of (Count side counter value ∷ events) = cells_of events
