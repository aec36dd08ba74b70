-- What the steps over a table answer.
use Rattle.std.specs.Prelude.{◌≡◌, ℕ, ◌+◌, ◌-◌, ◌<◌, ◌≤◌, Bool, true, false, not, length, Option, MatchOption}
use Rattle.idle_spans.specs.Symbols.{IsAfter, symbol_count}
use Rattle.idle_spans.specs.Marked.{no_mark}
use Rattle.idle_spans.specs.Runs.{IsLongRun, count_from}
use Rattle.idle_spans.specs.Tables.{RowValue, mark_at, row_symbol}
use Rattle.idle_spans.specs.declared.places.Place.{Place}
use Rattle.idle_spans.specs.declared.places.Span.{Span}

-- a run begins at this number
pub record Begins (silent : ℕ → Bool) (k : ℕ) : Type 0 where
  pub is : silent k ≡ true
  pub before : (j : ℕ) → j + 1 ≡ k → silent j ≡ false

-- the first number, from one on, at which a run begins
pub record IsBegin (silent : ℕ → Bool) (total from i : ℕ) : Type 0 where
  pub low : from ≤ i
  pub within : i < total
  pub begins : Begins silent i
  pub least : (k : ℕ) → from ≤ k → Begins silent k → i ≤ k

-- the first number, from one on, that is not silent, or their number
pub record IsEnd (silent : ℕ → Bool) (total from end : ℕ) : Type 0 where
  pub low : from ≤ end
  pub high : end ≤ total
  pub all : (k : ℕ) → from ≤ k → k < end → silent k ≡ true
  pub behind : end < total → silent end ≡ false

-- the first run of a least length, of those that begin at a number or after it
pub record IsFirstRun (silent : ℕ → Bool) (total min from first len : ℕ) : Type 0 where
  pub run : IsLongRun silent total min first len
  pub low : from ≤ first
  pub least : (k m : ℕ) → IsLongRun silent total min k m → from ≤ k → first ≤ k

-- what a table says of a symbol
abbrev pub row_silent : RowValue → ℕ → Bool
row_silent r k = not (mark_at r k).shown

abbrev pub row_missing : RowValue → ℕ → Bool
row_missing r k = (mark_at r k).missed

abbrev pub row_span : RowValue → ℕ → ℕ → Span
row_span r k len = record { first = row_symbol r k; last = row_symbol r (k + len - 1); symbols = len; missed = count_from (row_missing r) k len }

-- the first span by a table that begins after a place
pub record IsRowSpan (r : RowValue) (after : Option Place) (min : ℕ) (span : Span) : Type 0 where
  pub number : ℕ
  pub len : ℕ
  pub is : span ≡ row_span r number len
  pub run : IsLongRun (row_silent r) (length r.marks) min number len
  pub later : IsAfter r.endpoint.numerology after (row_symbol r number)
  pub least : (k m : ℕ) → IsLongRun (row_silent r) (length r.marks) min k m → IsAfter r.endpoint.numerology after (row_symbol r k) → number ≤ k

abbrev pub IsRowNext : RowValue → Option Place → ℕ → Option Span → Type 0
IsRowNext r after min result =
    MatchOption result
    ((k m : ℕ) → IsLongRun (row_silent r) (length r.marks) min k m → IsAfter r.endpoint.numerology after (row_symbol r k) → ⊥)
    (IsRowSpan r after min)

-- a table of these frames in which nothing was marked
pub record IsBlankRow (first last : ℕ) (r : RowValue) : Type 0 where
  pub first_is : r.first ≡ first
  pub last_is : r.last ≡ last
  pub size : length r.marks ≡ symbol_count r.endpoint.numerology first last
  pub blank : (k : ℕ) → mark_at r k ≡ no_mark
