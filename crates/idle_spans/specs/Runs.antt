-- Runs of silent symbols, and the spans that are listed.
use Rattle.std.specs.Prelude.{◌≡◌, ℕ, zero, suc, ◌+◌, ◌-◌, ◌<◌, ◌≤◌, Bool, true, false, if◌then◌else◌, List, Option, MatchOption}
use Rattle.window_config.specs.declared.endpoints.EndpointConfig.{EndpointConfig}
use Rattle.air_source.specs.declared.events.AirCell.{AirCell}
use Rattle.idle_spans.specs.Symbols.{symbol_at, symbol_count, IsAfter}
use Rattle.idle_spans.specs.Silence.{is_silent, has_missing}
use Rattle.idle_spans.specs.declared.places.Place.{Place}
use Rattle.idle_spans.specs.declared.places.Span.{Span}

-- so many numbers from one on pass the test, and no number before or after them extends them below `total`
pub record IsRun (silent : ℕ → Bool) (total first len : ℕ) : Type 0 where
  pub some : 1 ≤ len
  pub within : first + len ≤ total
  pub all : (k : ℕ) → first ≤ k → k < first + len → silent k ≡ true
  pub before : (k : ℕ) → k + 1 ≡ first → silent k ≡ false
  pub behind : first + len < total → silent (first + len) ≡ false

-- it has at least so many
pub record IsLongRun (silent : ℕ → Bool) (total min first len : ℕ) : Type 0 where
  pub run : IsRun silent total first len
  pub long : min ≤ len

-- how many of so many numbers from one on pass the test
unfoldable pub count_from : (ℕ → Bool) → ℕ → ℕ → ℕ
count_from p first zero = 0
count_from p first (suc len) = count_from p first len + (if p (first + len) then 1 else 0)

-- at these many symbols from one on a span of the endpoint is listed, after these cells were marked
abbrev pub IsListed : EndpointConfig → ℕ → ℕ → List AirCell → ℕ → ℕ → ℕ → Type 0
IsListed e first last cells min k len = IsLongRun (is_silent e first cells) (symbol_count e.numerology first last) min k len

-- the span of so many symbols from one on
abbrev pub span_of : EndpointConfig → ℕ → List AirCell → ℕ → ℕ → Span
span_of e first cells k len = record {
  first = symbol_at e.numerology first k;
  last = symbol_at e.numerology first (k + len - 1);
  symbols = len;
  missed = count_from (has_missing e first cells) k len;
}

-- the first listed span that begins after a place
pub record IsNextSpan (e : EndpointConfig) (first last : ℕ) (cells : List AirCell) (after : Option Place) (min : ℕ) (span : Span) : Type 0 where
  -- the number of its first symbol, and that of its symbols
  pub number : ℕ
  pub len : ℕ
  pub is : span ≡ span_of e first cells number len
  pub listed : IsListed e first last cells min number len
  pub later : IsAfter e.numerology after span.first
  pub least : (k m : ℕ) → IsListed e first last cells min k m → IsAfter e.numerology after (symbol_at e.numerology first k) → number ≤ k

-- no listed span begins after the place
abbrev pub HasNoSpan : EndpointConfig → ℕ → ℕ → List AirCell → Option Place → ℕ → Type 0
HasNoSpan e first last cells after min =
    (k m : ℕ) → IsListed e first last cells min k m → IsAfter e.numerology after (symbol_at e.numerology first k) → ⊥

-- the first listed span that begins after a place, or none exactly where there is none
abbrev pub IsNext : EndpointConfig → ℕ → ℕ → List AirCell → Option Place → ℕ → Option Span → Type 0
IsNext e first last cells after min result =
    MatchOption result (HasNoSpan e first last cells after min) (IsNextSpan e first last cells after min)
