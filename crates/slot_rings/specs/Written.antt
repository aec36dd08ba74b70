-- Which cells of a slot may have been written, as a span of PRBs for each symbol, so that its lists are wiped there alone: this project's
-- means.
use Rattle.std.specs.Prelude.{◌≡◌, ℕ, ◌/◌, ◌%◌, ◌&&◌, nat_le, nat_lt, Bool, false, List, get_or}
use Rattle.slot_rings.specs.declared.rows.Span.{Span}

abbrev pub no_prbs : Span
no_prbs = record { first = 0; end = 0 }

abbrev pub is_in_span : Span → ℕ → Bool
is_in_span span n = nat_le span.first n && nat_lt n span.end

-- the cell with a number, on a carrier of so many PRBs: a symbol that is not in the list has none
abbrev pub is_written : ℕ → List Span → ℕ → Bool
is_written prbs spans k = is_in_span (get_or spans (k / prbs) no_prbs) (k % prbs)

-- all others are blank
pub record AreBlankElsewhere {A : Type 0} (blank : A) (prbs : ℕ) (spans : List Span) (items : List A) : Type 0 where
  pub each : (k : ℕ) → is_written prbs spans k ≡ false → get_or items k blank ≡ blank
