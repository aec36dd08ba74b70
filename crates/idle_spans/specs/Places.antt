-- Which symbols an endpoint has.
use Rattle.std.specs.Prelude.{ℕ, ◌<◌, Bool, false, ◌==◌, Option, Some, None}
use Rattle.fh_base.specs.declared.numerology.Numerology.{Numerology}
use Rattle.fh_base.specs.Numbering.{slots_of, symbols_of}
use Rattle.idle_spans.specs.declared.places.Place.{Place}

-- the place is one of an endpoint's symbols; its frame may be any
pub record IsSymbol (n : Numerology) (p : Place) : Type 0 where
  pub subframe : p.slot.subframe < 10
  pub slot : p.slot.slot < slots_of n
  pub symbol : p.symbol < symbols_of n

-- the index is the one that was found
abbrev pub is_index : Option ℕ → ℕ → Bool
is_index None k = false
is_index (Some i) k = i == k

-- the place is none, or one of an endpoint's symbols
abbrev pub IsNoneOrSymbol : Numerology → Option Place → Type 0
IsNoneOrSymbol n None = Unit {0}
IsNoneOrSymbol n (Some p) = IsSymbol n p
