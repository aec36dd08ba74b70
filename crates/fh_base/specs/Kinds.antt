-- What tells the kinds of endpoint from one another. All other definitions hold of any kind.
use Rattle.std.specs.Prelude.{ℕ, ◌+◌, ◌*◌, ◌/◌, ◌^◌, Option, Some, None}
use Rattle.fh_base.specs.declared.kind.Kind.{Kind}
use Rattle.fh_base.specs.declared.kind.Kind.TheVariants.{Ordinary, Offset, Extended}
use Rattle.fh_base.specs.Spacing.{code_of_spacing, exponent_of}
use Rattle.fh_base.specs.Symbols.{ticks_of_ts, normal_start, prefixed}
use Rattle.fh_base.specs.declared.symbols.TheConstants.{SLOT_SYMBOLS}

abbrev pub kind_code : Kind → ℕ
kind_code (Ordinary spacing) = code_of_spacing spacing
kind_code (Offset spacing time_offset cp_length) = code_of_spacing spacing
kind_code Extended = 2

-- an offset endpoint's two numbers, and 0 of the other kinds
abbrev pub time_offset_of : Kind → ℕ
time_offset_of (Ordinary spacing) = 0
time_offset_of (Offset spacing time_offset cp_length) = time_offset
time_offset_of Extended = 0

abbrev pub cp_length_of : Kind → ℕ
cp_length_of (Ordinary spacing) = 0
cp_length_of (Offset spacing time_offset cp_length) = cp_length
cp_length_of Extended = 0

abbrev pub kind_offsets : Kind → Option (ℕ × ℕ)
kind_offsets (Ordinary spacing) = None
kind_offsets (Offset spacing time_offset cp_length) = Some (time_offset, cp_length)
kind_offsets Extended = None

-- the symbols of a slot, and the slots of a subframe (3GPP TS 38.211, 4.3.2)
abbrev pub kind_symbols : Kind → ℕ
kind_symbols (Ordinary spacing) = SLOT_SYMBOLS
kind_symbols (Offset spacing time_offset cp_length) = SLOT_SYMBOLS
kind_symbols Extended = 12

abbrev pub kind_slots : Kind → ℕ
kind_slots (Ordinary spacing) = 2 ^ exponent_of spacing
kind_slots (Offset spacing time_offset cp_length) = 2 ^ exponent_of spacing
kind_slots Extended = 4

-- the start of a symbol of a slot after its subframe's; an offset endpoint's slot starts as an ordinary one's of this u
abbrev pub kind_start : Kind → ℕ → ℕ → ℕ
kind_start (Ordinary spacing) slot symbol = normal_start (exponent_of spacing) (SLOT_SYMBOLS * slot + symbol)
kind_start (Offset spacing time_offset cp_length) slot symbol =
    normal_start (exponent_of spacing) (SLOT_SYMBOLS * slot) + ticks_of_ts time_offset + symbol * prefixed spacing cp_length
kind_start Extended slot symbol = ticks_of_ts ((12 * slot + symbol) * 640)

-- the length of the shortest slot
abbrev pub kind_least_slot : Kind → ℕ
kind_least_slot (Ordinary spacing) = ticks_of_ts (SLOT_SYMBOLS * 2192) / 2 ^ exponent_of spacing
kind_least_slot (Offset spacing time_offset cp_length) = ticks_of_ts (SLOT_SYMBOLS * 2192) / 2 ^ exponent_of spacing
kind_least_slot Extended = ticks_of_ts 7680

-- from symbol 0 of a slot to its last symbol, or more: thirteen symbols, and both longer ones of a subframe at an ordinary endpoint
abbrev pub kind_span : Kind → ℕ
kind_span (Ordinary spacing) = ticks_of_ts (13 * 2192) / 2 ^ exponent_of spacing + ticks_of_ts 32
kind_span (Offset spacing time_offset cp_length) = 13 * prefixed spacing cp_length
kind_span Extended = ticks_of_ts 7040
