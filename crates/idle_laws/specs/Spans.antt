-- What the listed spans of an endpoint are, by the cells that were reported (this project's profile).
use Rattle.std.specs.Prelude.{◌≡◌, ℕ, ◌+◌, ◌<◌, ◌≤◌, true, is_some, List, None}
use Rattle.window_config.specs.declared.endpoints.EndpointConfig.{EndpointConfig}
use Rattle.air_source.specs.declared.events.AirCell.{AirCell}
use Rattle.idle_spans.specs.Runs.{IsListed}
use Rattle.idle_spans.specs.Silence.{is_of_symbol}
use Rattle.idle_spans.specs.Symbols.{symbol_at, symbol_count}
use Rattle.idle_text.specs.Listed.{Run, listed_runs}
use Rattle.fh_base.specs.Members.{IsIn}

-- a cell of the symbol with this number was reported by the radio unit, with samples
pub record Radiates (e : EndpointConfig) (first : ℕ) (cells : List AirCell) (k : ℕ) : Type 0 where
  pub cell : AirCell
  pub there : IsIn cell cells
  pub of_symbol : is_of_symbol e (symbol_at e.numerology first k) cell ≡ true
  pub shown : is_some cell.block ≡ true

-- in these symbols of the frames nothing radiates, and in those next to them within the frames something does
pub record SpanStands (e : EndpointConfig) (first last : ℕ) (cells : List AirCell) (min : ℕ) (r : Run) : Type 0 where
  pub long : min ≤ r.len
  pub within : r.first + r.len ≤ symbol_count e.numerology first last
  pub silent : (k : ℕ) → r.first ≤ k → k < r.first + r.len → (c : AirCell) → IsIn c cells → is_of_symbol e (symbol_at e.numerology first k) c ≡ true → c.block ≡ None
  pub before : (k : ℕ) → k + 1 ≡ r.first → Radiates e first cells k
  pub behind : r.first + r.len < symbol_count e.numerology first last → Radiates e first cells (r.first + r.len)

-- each listed span holds, and each run of the least length that no symbol extends is listed
pub record AreSpans (e : EndpointConfig) (first last : ℕ) (cells : List AirCell) (min : ℕ) : Type 0 where
  pub stand : (r : Run) → IsIn r (listed_runs e first last cells min) → SpanStands e first last cells min r
  pub all : (k len : ℕ) → IsListed e first last cells min k len → IsIn (record { first = k; len = len }) (listed_runs e first last cells min)

abbrev pub SpansStand : Type 0
SpansStand = (e : EndpointConfig) (first last : ℕ) (cells : List AirCell) (min : ℕ) → AreSpans e first last cells min
