-- The listed spans of an endpoint, in order (this project's profile).
use Rattle.std.specs.Prelude.{ℕ, zero, suc, ◌+◌, ◌-◌, Bool, not, ◌&&◌, nat_le, if◌then◌else◌, List, [], ◌∷◌, map}
use Rattle.window_config.specs.declared.endpoints.EndpointConfig.{EndpointConfig}
use Rattle.air_source.specs.declared.events.AirCell.{AirCell}
use Rattle.fh_base.specs.Lists.{each}
use Rattle.idle_spans.specs.Runs.{span_of}
use Rattle.idle_spans.specs.Silence.{is_silent}
use Rattle.idle_spans.specs.Symbols.{symbol_count}
use Rattle.idle_spans.specs.declared.places.Span.{Span}

-- so many symbols from one on, by their numbers
pub record Run : Type 0 where
  pub first : ℕ
  pub len : ℕ

-- how many numbers from one on pass the test one after the other, of so many
unfoldable pub passing_from : (ℕ → Bool) → ℕ → ℕ → ℕ
passing_from test k zero = 0
passing_from test k (suc left) = if test k then suc (passing_from test (k + 1) left) else 0

-- the number passes the test, and the one before it does not
abbrev pub begins : (ℕ → Bool) → ℕ → Bool
begins test zero = test 0
begins test (suc k) = test (suc k) && not (test k)

-- the run that begins at a number, where one of a least length does
abbrev pub run_at : (ℕ → Bool) → ℕ → ℕ → ℕ → List Run
run_at silent total min k =
    if begins silent k && nat_le min (passing_from silent k (total - k)) then record { first = k; len = passing_from silent k (total - k) } ∷ [] else []

-- all of them below a number
abbrev pub runs_of : (ℕ → Bool) → ℕ → ℕ → List Run
runs_of silent total min = each 0 total (run_at silent total min)

-- the listed spans of an endpoint in some frames, after these cells were reported
abbrev pub listed_runs : EndpointConfig → ℕ → ℕ → List AirCell → ℕ → List Run
listed_runs e first last cells min = runs_of (is_silent e first cells) (symbol_count e.numerology first last) min

abbrev pub spans_of : EndpointConfig → ℕ → ℕ → List AirCell → ℕ → List Span
spans_of e first last cells min = map (λ r. span_of e first cells r.first r.len) (listed_runs e first last cells min)
