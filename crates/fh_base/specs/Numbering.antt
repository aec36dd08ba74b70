-- What a numerology says of the symbols of a slot and the slots of a subframe.
use Rattle.std.specs.Prelude.{ℕ, ℤ, pos, ◌%◌, ◌^◌, ◌<◌, ◌+ℤ◌, ◌*ℤ◌, Option, None, if◌then◌else◌}
use Rattle.std.specs.Option.{option_map}
use Rattle.std.proofs.Math.Nat.{mod-lt, zero-lt-suc}
use Rattle.fh_base.specs.declared.spacing.Spacing.{Spacing}
use Rattle.fh_base.specs.declared.kind.Kind.TheVariants.{Ordinary, Offset, Extended}
use Rattle.fh_base.specs.declared.numerology.Numerology.{Numerology}
use Rattle.fh_base.specs.declared.values.Shape.{Shape}
use Rattle.fh_base.specs.declared.values.Slot.{Slot}
use Rattle.fh_base.specs.Spacing.{is_normal_code, spacing_of}
use Rattle.fh_base.specs.Kinds.{kind_code, kind_offsets, kind_symbols, kind_slots}

-- a number has its low 16 bits alone
pub low_bits_fit : (number : ℕ) → number % 2 ^ 16 < 2 ^ 16
low_bits_fit number = mod-lt number (zero-lt-suc 65535)

-- the numerologies of the three kinds; the two numbers of an offset one have 16 bits
abbrev pub ordinary_at : Spacing → Numerology
ordinary_at spacing = record { kind = Ordinary spacing; short_offset = zero-lt-suc 65535; short_prefix = zero-lt-suc 65535 }

abbrev pub offset_at : ℕ → ℕ → Spacing → Numerology
offset_at time_offset cp_length spacing = record {
  kind = Offset spacing (time_offset % 2 ^ 16) (cp_length % 2 ^ 16);
  short_offset = low_bits_fit time_offset;
  short_prefix = low_bits_fit cp_length;
}

abbrev pub extended_of : Numerology
extended_of = record { kind = Extended; short_offset = zero-lt-suc 65535; short_prefix = zero-lt-suc 65535 }

-- the numerology that these numbers make, if they make one
abbrev pub ordinary_of : ℕ → Option Numerology
ordinary_of code = if is_normal_code code then option_map ordinary_at (spacing_of code) else None

abbrev pub offset_of : ℕ → ℕ → ℕ → Option Numerology
offset_of code time_offset cp_length = option_map (offset_at time_offset cp_length) (spacing_of code)

-- the spacing code
abbrev pub code_of : Numerology → ℕ
code_of n = kind_code n.kind

-- timeOffset in Ts and cpLength in Ts over 2^u
abbrev pub offsets_of : Numerology → Option (ℕ × ℕ)
offsets_of n = kind_offsets n.kind

abbrev pub symbols_of : Numerology → ℕ
symbols_of n = kind_symbols n.kind

abbrev pub slots_of : Numerology → ℕ
slots_of n = kind_slots n.kind

abbrev pub shape_of : Numerology → Shape
shape_of n = record { symbols = symbols_of n; slots = slots_of n }

-- the slot is one of such an endpoint's; its frame may be any
pub record IsSlotOf (n : Numerology) (s : Slot) : Type 0 where
  pub subframe : s.subframe < 10
  pub slot : s.slot < slots_of n

-- the number of a slot in the order of slots, 0 for the first of frame 0
abbrev pub slot_number : Numerology → Slot → ℤ
slot_number n s = (s.frame *ℤ pos 10 +ℤ pos s.subframe) *ℤ pos (slots_of n) +ℤ pos s.slot
