-- When slots and symbols begin in a subframe, and how long a symbol lasts, in ticks (3GPP TS 38.211, 5.3.1).
use Rattle.std.specs.Prelude.{ℕ, ◌+◌, ◌-◌, min}
use Rattle.fh_base.specs.Kinds.{kind_start, time_offset_of}
use Rattle.fh_base.specs.Numbering.{symbols_of}
use Rattle.fh_base.specs.Symbols.{ticks_of_ts}
use Rattle.fh_base.specs.declared.numerology.Numerology.{Numerology}

abbrev pub start_of : Numerology → ℕ → ℕ → ℕ
start_of n slot symbol = kind_start n.kind slot symbol

-- the start of a slot, without the offset after which an offset endpoint's symbols begin
abbrev pub slot_begin : Numerology → ℕ → ℕ
slot_begin n slot = start_of n slot 0 - ticks_of_ts (time_offset_of n.kind)

-- from the symbol to the next one, and for the last symbol of a slot from the one before it
abbrev pub duration_of : Numerology → ℕ → ℕ → ℕ
duration_of n slot symbol = let first = min symbol (symbols_of n - 2) in start_of n slot (first + 1) - start_of n slot first
