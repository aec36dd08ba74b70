-- The symbols of an endpoint in some frames, in the order of slot and symbol.
use Rattle.std.specs.Prelude.{◌≡◌, ℕ, pos, ◌+◌, ◌-◌, ◌*◌, ◌/◌, ◌%◌, ◌<◌, ◌<ℤ◌, ◌⊎◌, Option, Some, None}
use Rattle.fh_base.specs.declared.numerology.Numerology.{Numerology}
use Rattle.fh_base.specs.Numbering.{slots_of, symbols_of}
use Rattle.idle_spans.specs.declared.places.Place.{Place}

-- how many symbols a frame has
unfoldable pub frame_symbols : Numerology → ℕ
frame_symbols n = 10 * slots_of n * symbols_of n

-- how many symbols the frames from one to another have
abbrev pub symbol_count : Numerology → ℕ → ℕ → ℕ
symbol_count n first last = (last + 1 - first) * frame_symbols n

-- the number of a symbol in its frame, 0 for the first
abbrev pub number_in_frame : Numerology → Place → ℕ
number_in_frame n p = (p.slot.subframe * slots_of n + p.slot.slot) * symbols_of n + p.symbol

-- the symbol with this number, 0 for the first symbol of a frame
unfoldable pub symbol_at : Numerology → ℕ → ℕ → Place
symbol_at n frame k = record {
  slot = record {
    frame = pos (frame + k / frame_symbols n);
    subframe = k % frame_symbols n / symbols_of n / slots_of n;
    slot = k % frame_symbols n / symbols_of n % slots_of n;
  };
  symbol = k % frame_symbols n % symbols_of n;
}

-- the second symbol is after the first one
abbrev pub ComesAfter : Numerology → Place → Place → Type 0
ComesAfter n p q = (p.slot.frame <ℤ q.slot.frame) ⊎ ((p.slot.frame ≡ q.slot.frame) × (number_in_frame n p < number_in_frame n q))

-- the symbol is after the place, where there is one
abbrev pub IsAfter : Numerology → Option Place → Place → Type 0
IsAfter n None q = Unit {0}
IsAfter n (Some p) q = ComesAfter n p q
