-- When a symbol is on the air, in ticks from the start of frame 0.
use Rattle.std.specs.Prelude.{ℕ, ℤ, pos, ◌+◌, ◌*◌, ◌+ℤ◌, ◌*ℤ◌, ◌≤ℤ◌, ◌⊎◌}
use Rattle.fh_base.specs.declared.numerology.Numerology.{Numerology}
use Rattle.fh_base.specs.declared.values.Slot.{Slot}
use Rattle.fh_base.specs.Kinds.{kind_start, kind_least_slot, kind_span}
use Rattle.fh_base.specs.declared.frames.TheConstants.{FRAME}
use Rattle.fh_base.specs.declared.symbols.TheConstants.{SUBFRAME}

-- the air time of a symbol: a frame is 10 ms, a subframe 1 ms (3GPP TS 38.211, 4.3.1)
abbrev pub air_of : Numerology → Slot → ℕ → ℤ
air_of n slot symbol = slot.frame *ℤ FRAME +ℤ pos (slot.subframe * SUBFRAME + kind_start n.kind slot.slot symbol)

-- the least time from one slot's start to another's, and a time after a slot's symbol 0 at which its last symbol has started
abbrev pub least_slot_of : Numerology → ℕ
least_slot_of n = kind_least_slot n.kind

abbrev pub span_of : Numerology → ℕ
span_of n = kind_span n.kind

-- two times are so far apart, whichever is the later
abbrev pub AreApart : ℕ → ℤ → ℤ → Type 0
AreApart least a b = ((a +ℤ pos least) ≤ℤ b) ⊎ ((b +ℤ pos least) ≤ℤ a)
