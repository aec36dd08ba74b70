-- Each symbol is gone over at the tick at which it starts.
use Rattle.std.proofs.Common.{◌≡◌, ℕ, ℤ, pos, ◌+◌, ◌-◌, ◌*◌, ◌^◌, ◌<◌, ◌≤◌, ◌+ℤ◌, ◌-ℤ◌, ◌*ℤ◌, ◌≤ℤ◌, ◌<ℤ◌, refl, arith}
use Rattle.std.specs.Prelude.{IfSome}
use Rattle.std.proofs.lemmas.Int.{ints}
use Rattle.fh_base.specs.Air.{air_of}
use Rattle.fh_base.specs.Kinds.{kind_least_slot, kind_offsets, kind_slots, kind_span, kind_start}
use Rattle.fh_base.specs.Numbering.{IsSlotOf, symbols_of}
use Rattle.fh_base.specs.declared.kind.Kind.{Kind}
use Rattle.fh_base.specs.declared.kind.Kind.TheVariants.{Ordinary, Offset, Extended}
use Rattle.fh_base.specs.declared.numerology.Numerology.{Numerology}
use Rattle.fh_base.specs.declared.spacing.Spacing.{Spacing}
use Rattle.fh_base.specs.declared.spacing.Spacing.TheVariants.{Khz15, Khz30, Khz60, Khz120, Khz240, Khz1x25, Khz5}
use Rattle.fh_base.specs.declared.values.Slot.{Slot}
use Rattle.fh_base.proofs.Euclid.{frame_floor}
use Rattle.fh_base.proofs.Order.{kind_covers, kind_left}
use Rattle.unit_model.specs.Sweeps.{first_swept, frame_of_tick}
use Rattle.unit_laws.specs.Runs.{OffsetsFit, SymbolsAreSwept}
use Rattle.fh_base.specs.declared.frames.TheConstants.{FRAME}
use Rattle.fh_base.specs.declared.symbols.TheConstants.{SUBFRAME}

-- ---- how long after its frame a symbol starts

ordinary_short : (spacing : Spacing) → kind_start (Ordinary spacing) 0 0 + kind_span (Ordinary spacing) ≤ 76000000000
ordinary_short Khz15 = omega arith
ordinary_short Khz30 = omega arith
ordinary_short Khz60 = omega arith
ordinary_short Khz120 = omega arith
ordinary_short Khz240 = omega arith
ordinary_short Khz1x25 = omega arith
ordinary_short Khz5 = omega arith

offset_short : (spacing : Spacing) (time_offset cp_length : ℕ) → time_offset < 65536 → cp_length < 65536
    → kind_start (Offset spacing time_offset cp_length) 0 0 + kind_span (Offset spacing time_offset cp_length) ≤ 76000000000
offset_short Khz15 t c h k = omega arith
offset_short Khz30 t c h k = omega arith
offset_short Khz60 t c h k = omega arith
offset_short Khz120 t c h k = omega arith
offset_short Khz240 t c h k = omega arith
offset_short Khz1x25 t c h k = omega arith
offset_short Khz5 t c h k = omega arith

kind_short : (kind : Kind) → IfSome (kind_offsets kind) (λ p. (p.0 < 2 ^ 16) × (p.1 < 2 ^ 16)) → kind_start kind 0 0 + kind_span kind ≤ 76000000000
kind_short (Ordinary spacing) h = ordinary_short spacing
kind_short (Offset spacing time_offset cp_length) h = offset_short spacing time_offset cp_length h.0 h.1
kind_short Extended h = omega arith

six_frames : (subframe start slot first span left : ℕ) → subframe < 10 → start ≤ slot + span → slot + left ≤ SUBFRAME + first → first + span ≤ 76000000000
    → subframe * SUBFRAME + start < 92160000000
six_frames subframe start slot first span left a b c d = omega arith

pub symbol_short : (n : Numerology) (slot : Slot) (symbol : ℕ) → OffsetsFit n → IsSlotOf n slot → symbol < symbols_of n
    → slot.subframe * SUBFRAME + kind_start n.kind slot.slot symbol < 92160000000
symbol_short n slot symbol short is h =
    six_frames slot.subframe (kind_start n.kind slot.slot symbol) (kind_start n.kind slot.slot 0) (kind_start n.kind 0 0) (kind_span n.kind)
    ((kind_slots n.kind - slot.slot) * kind_least_slot n.kind) is.subframe (kind_covers n.kind slot.slot symbol h) (kind_left n.kind slot.slot is.slot) (kind_short n.kind short)

frames_near : (frame q : ℤ) (offset : ℕ) → offset < 92160000000 → (q *ℤ FRAME) ≤ℤ (frame *ℤ FRAME +ℤ pos offset)
    → (frame *ℤ FRAME +ℤ pos offset) <ℤ (q *ℤ FRAME +ℤ FRAME)
    → ((q -ℤ pos 5) ≤ℤ frame) × (frame <ℤ ((q -ℤ pos 5) +ℤ pos 6))
frames_near frame q offset h low high = (omega (arith, ints), omega (arith, ints))

pub frames_of_symbol : (n : Numerology) (slot : Slot) (symbol : ℕ) → OffsetsFit n → IsSlotOf n slot → symbol < symbols_of n
    → (first_swept (air_of n slot symbol) ≤ℤ slot.frame) × (slot.frame <ℤ (first_swept (air_of n slot symbol) +ℤ pos 6))
frames_of_symbol n slot symbol short is h =
    let floor = frame_floor (air_of n slot symbol) in
    frames_near slot.frame (frame_of_tick (air_of n slot symbol)) (slot.subframe * SUBFRAME + kind_start n.kind slot.slot symbol) (symbol_short n slot symbol short is h) floor.0 floor.1

pub symbols_are_swept : SymbolsAreSwept
symbols_are_swept es ep e slot symbol at short is h =
    let frames = frames_of_symbol e.numerology slot symbol short is h in
    record { endpoint = at; slot_is = is; symbol_is = h; frame_low = frames.0; frame_high = frames.1; starts = refl }

-- ---- the slots of six frames

record By (a b : ℤ) : Type 0 where
  steps : ℕ
  is : b ≡ a +ℤ pos steps
