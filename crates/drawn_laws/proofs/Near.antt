-- Times, and distances from the ends of windows, have at most 16 digits.
use Rattle.std.proofs.Common.{ℕ, ℤ, pos, negsuc, neg_ℤ, ◌^◌, ◌<◌, ◌≤◌, ◌+ℤ◌, ◌-ℤ◌, ◌*ℤ◌, ◌≤ℤ◌, ◌<ℤ◌, Bool, true, false, List, Option, Some, None, arith}
use Rattle.std.proofs.lemmas.Int.{ints}
use Rattle.std.specs.Int.{int_gap}
use Rattle.fh_base.specs.Air.{air_of}
use Rattle.fh_base.specs.Kinds.{cp_length_of, kind_slots, kind_symbols, time_offset_of}
use Rattle.fh_base.specs.Numbering.{slots_of, symbols_of}
use Rattle.fh_base.specs.declared.frames.TheConstants.{FRAME}
use Rattle.fh_base.specs.declared.kind.Kind.{Kind}
use Rattle.fh_base.specs.declared.kind.Kind.TheVariants.{Extended, Offset, Ordinary}
use Rattle.fh_base.specs.declared.numerology.Numerology.{Numerology}
use Rattle.fh_base.specs.declared.spacing.Spacing.TheVariants.{Khz120, Khz15, Khz1x25, Khz240, Khz30, Khz5, Khz60}
use Rattle.fh_base.specs.declared.values.Slot.{Slot}
use Rattle.air_source.specs.declared.events.Side.{Side}
use Rattle.air_source.specs.declared.events.Side.TheVariants.{Du, Ru}
use Rattle.window_config.specs.Limits.{IsBound, IsWithinLimits}
use Rattle.window_config.specs.Windows.{command_window_of}
use Rattle.window_config.specs.declared.delays.Delays.{Delays}
use Rattle.window_config.specs.declared.delays.Range.{Range}
use Rattle.window_config.specs.declared.verdicts.Class.{Class}
use Rattle.window_config.specs.declared.verdicts.Class.TheVariants.{Early, Late, OnTime}
use Rattle.unit_model.specs.Blocks.{data_slot, data_start}
use Rattle.unit_model.specs.Commands.{command_slot, command_start}
use Rattle.unit_model.specs.Proper.{IsProperCommand, IsSlot, IsTime}
use Rattle.unit_model.specs.declared.decoded.ControlSection.{ControlSection}
use Rattle.unit_model.proofs.ReachLaws.{IsShort as IsShortKind, symbol_soon}
use Rattle.unit_model.proofs.SlotLemmas.{absolute_near}
use Rattle.unit_model.specs.Headings.{IsSoundHeading}
use Rattle.unit_model.specs.declared.heading.DataHeading.{DataHeading}
use Rattle.drawn_laws.specs.Drawable.{IsDrawnTiming, IsNear, IsShort}
use Rattle.explain_model.specs.declared.places.Timing.{Timing}
use Rattle.explain_model.specs.Timings.{bare, control_timing, data_timing, heading_slot, timing_by, whole_ns, window_at}
use Rattle.explain_model.specs.Records.{distance_by, distance_in}
use Rattle.window_config.specs.declared.endpoints.EndpointConfig.{EndpointConfig}

-- ---- slots and symbols

short_kind : (kind : Kind) → time_offset_of kind < 2 ^ 16 → cp_length_of kind < 2 ^ 16 → IsShortKind kind
short_kind (Ordinary spacing) a b = tt
short_kind (Offset spacing time_offset cp_length) a b = (a, b)
short_kind Extended a b = tt

pub numerology_short : (n : Numerology) → IsShortKind n.kind
numerology_short n = short_kind n.kind n.short_offset n.short_prefix

kind_few : (kind : Kind) → (kind_slots kind ≤ 16) × (kind_symbols kind ≤ 14)
kind_few (Ordinary Khz15) = (omega arith, omega arith)
kind_few (Ordinary Khz30) = (omega arith, omega arith)
kind_few (Ordinary Khz60) = (omega arith, omega arith)
kind_few (Ordinary Khz120) = (omega arith, omega arith)
kind_few (Ordinary Khz240) = (omega arith, omega arith)
kind_few (Ordinary Khz1x25) = (omega arith, omega arith)
kind_few (Ordinary Khz5) = (omega arith, omega arith)
kind_few (Offset Khz15 a b) = (omega arith, omega arith)
kind_few (Offset Khz30 a b) = (omega arith, omega arith)
kind_few (Offset Khz60 a b) = (omega arith, omega arith)
kind_few (Offset Khz120 a b) = (omega arith, omega arith)
kind_few (Offset Khz240 a b) = (omega arith, omega arith)
kind_few (Offset Khz1x25 a b) = (omega arith, omega arith)
kind_few (Offset Khz5 a b) = (omega arith, omega arith)
kind_few Extended = (omega arith, omega arith)

pub slots_few : (n : Numerology) → slots_of n ≤ 16
slots_few n = (kind_few n.kind).0

pub symbols_few : (n : Numerology) → symbols_of n ≤ 14
symbols_few n = (kind_few n.kind).1

-- ---- times

pub record IsWithin (z : ℤ) : Type 0 where
  pub low : neg_ℤ (pos 18000000000000000) ≤ℤ z
  pub high : z ≤ℤ pos 18000000000000000

within : (f z : ℤ) → neg_ℤ (pos 1000000) ≤ℤ f → f ≤ℤ pos 1000000 → (f *ℤ FRAME) ≤ℤ z → z <ℤ (f *ℤ FRAME +ℤ pos 76800000000) → IsWithin z
within f z a b low high = record { low = omega (arith, ints, a, low); high = omega (arith, ints, b, high) }

pub air_within : (n : Numerology) (slot : Slot) (symbol : ℕ) → IsSlot n slot → symbol < symbols_of n → IsWithin (air_of n slot symbol)
air_within n slot symbol is h =
    let soon = symbol_soon n slot symbol (numerology_short n) (record { subframe = is.subframe; slot = is.slot_is }) h in
    within slot.frame (air_of n slot symbol) is.low is.high soon.0 soon.1

near_frame : (f : ℤ) → neg_ℤ (pos 1000000) ≤ℤ f → f ≤ℤ pos 1000000 → IsNear f
near_frame f a b = record { low = omega (arith, ints, a); high = omega (arith, ints, b) }

pub slot_near : (n : Numerology) (slot : Slot) → IsSlot n slot → IsNear slot.frame
slot_near n slot is = near_frame slot.frame is.low is.high

-- ---- windows

pub record IsDrawnRange (r : Range) : Type 0 where
  pub min : IsBound r.min
  pub max : IsBound r.max

sum_bound : (a b : ℤ) → pos 0 ≤ℤ a → a ≤ℤ pos 2000000 → pos 0 ≤ℤ b → b ≤ℤ pos 2000000 → IsBound (a +ℤ b)
sum_bound a b p q r s = record { low = omega (arith, ints, p, r); high = omega (arith, ints, q, s) }

single : (a : ℤ) → pos 0 ≤ℤ a → a ≤ℤ pos 2000000 → IsBound a
single a p q = record { low = p; high = omega (arith, ints, q) }

least : (k : ℕ) (a b : ℤ) → pos k ≤ℤ a → a ≤ℤ b → b ≤ℤ pos 2000000 → (pos 0 ≤ℤ a) × (pos 0 ≤ℤ b) × (a ≤ℤ pos 2000000)
least k a b p q r = (omega (arith, ints, p), omega (arith, ints, p, q), omega (arith, ints, q, r))

command_bound : (d : Delays) (down : Bool) → IsWithinLimits d → IsDrawnRange (command_window_of d down)
command_bound d true w =
    let up = least 1 d.t2a_up.min d.t2a_up.max w.t2a_up.low w.t2a_up.order w.t2a_up.high in
    record {
      min = sum_bound d.t2a_up.min d.advance up.0 up.2 w.advance.low w.advance.high;
      max = sum_bound d.t2a_up.max d.advance up.1 w.t2a_up.high w.advance.low w.advance.high;
    }
command_bound d false w =
    let up = least 1 d.t2a_cp_ul.min d.t2a_cp_ul.max w.t2a_cp_ul.low w.t2a_cp_ul.order w.t2a_cp_ul.high in
    record { min = single d.t2a_cp_ul.min up.0 up.2; max = single d.t2a_cp_ul.max up.1 w.t2a_cp_ul.high }

data_bound : (side : Side) (d : Delays) → IsWithinLimits d → IsDrawnRange (window_at side d)
data_bound Ru d w =
    let up = least 1 d.t2a_up.min d.t2a_up.max w.t2a_up.low w.t2a_up.order w.t2a_up.high in
    record { min = single d.t2a_up.min up.0 up.2; max = single d.t2a_up.max up.1 w.t2a_up.high }
data_bound Du d w =
    let up = least 0 d.ta4.min d.ta4.max w.ta4.low w.ta4.order w.ta4.high in
    record { min = single d.ta4.min up.0 up.2; max = single d.ta4.max up.1 w.ta4.high }

-- ---- distances

whole_near : (z : ℤ) → neg_ℤ (pos 30000000000000000) ≤ℤ z → z ≤ℤ pos 30000000000000000 → IsNear (whole_ns z)
whole_near (pos n) low high = record { low = omega (arith, ints); high = omega (arith, ints, high) }
whole_near (negsuc n) low high = record { low = omega (arith, ints, low); high = omega (arith, ints) }

apart : (a s w : ℤ) → neg_ℤ (pos 9007199254740992) ≤ℤ a → a ≤ℤ pos 9007199254740992 → IsWithin s → pos 0 ≤ℤ w → w ≤ℤ pos 4000000
    → IsNear (whole_ns (a -ℤ (s -ℤ (w *ℤ pos 1536)))) × IsNear (whole_ns ((s -ℤ (w *ℤ pos 1536)) -ℤ a))
    × IsNear (whole_ns (a -ℤ (s +ℤ (w *ℤ pos 1536)))) × IsNear (whole_ns ((s +ℤ (w *ℤ pos 1536)) -ℤ a))
apart a s w p q is r t =
    let low = is.low in
    let high = is.high in (
      whole_near (a -ℤ (s -ℤ (w *ℤ pos 1536))) (omega (arith, ints, p, q, r, t, low, high)) (omega (arith, ints, p, q, r, t, low, high)),
      whole_near ((s -ℤ (w *ℤ pos 1536)) -ℤ a) (omega (arith, ints, p, q, r, t, low, high)) (omega (arith, ints, p, q, r, t, low, high)),
      whole_near (a -ℤ (s +ℤ (w *ℤ pos 1536))) (omega (arith, ints, p, q, r, t, low, high)) (omega (arith, ints, p, q, r, t, low, high)),
      whole_near ((s +ℤ (w *ℤ pos 1536)) -ℤ a) (omega (arith, ints, p, q, r, t, low, high)) (omega (arith, ints, p, q, r, t, low, high)),
    )

timing_near : (side : Side) (window : Range) (first last start : ℤ) → IsTime first → IsTime last → IsWithin start → IsDrawnRange window → IsDrawnTiming (timing_by side window first last start)
timing_near Ru window first last start a b is w = record {
  since = (apart first start window.max a.low a.high is w.max.low w.max.high).0;
  until = (apart last start window.min b.low b.high is w.min.low w.min.high).1;
}
timing_near Du window first last start a b is w = record {
  since = (apart first start window.min a.low a.high is w.min.low w.min.high).2;
  until = (apart last start window.max b.low b.high is w.max.low w.max.high).3;
}

-- ---- sections

pub command_slot_in : (es : List EndpointConfig) (s : ControlSection) → IsProperCommand es s → IsSlot s.endpoint.numerology (command_slot s)
command_slot_in es s is =
    let frame = absolute_near s.head.frame_id s.at.0 is.at in record { low = frame.0; high = frame.1; subframe = is.subframe; slot_is = is.slot }

pub control_near : (es : List EndpointConfig) (d : Delays) (s : ControlSection) → IsWithinLimits d → IsProperCommand es s → IsDrawnTiming (control_timing d s)
unfolding control_timing
control_near es d s w is =
    timing_near Ru (command_window_of d s.head.down) s.at.0 s.at.0 (command_start s) is.at is.at
    (air_within s.endpoint.numerology (command_slot s) s.head.start_symbol (command_slot_in es s is) is.start_symbol) (command_bound d s.head.down w)

pub heading_slot_in : (h : DataHeading) → IsSoundHeading h → IsSlot h.endpoint.numerology (heading_slot h)
unfolding heading_slot
heading_slot_in h is =
    let frame = absolute_near h.head.frame_id h.last.0 is.last in record { low = frame.0; high = frame.1; subframe = is.subframe; slot_is = is.slot }

bare_slot_in : (h : DataHeading) → IsSoundHeading h → IsSlot h.endpoint.numerology (data_slot (bare h))
bare_slot_in h is =
    let frame = absolute_near h.head.frame_id h.last.0 is.last in record { low = frame.0; high = frame.1; subframe = is.subframe; slot_is = is.slot }

pub data_near : (side : Side) (d : Delays) (h : DataHeading) → IsWithinLimits d → IsSoundHeading h → IsDrawnTiming (data_timing side d h)
unfolding data_timing
data_near side d h w is =
    timing_near side (window_at side d) h.first.0 h.last.0 (data_start (bare h)) is.first is.last
    (air_within h.endpoint.numerology (data_slot (bare h)) h.section.symbol (bare_slot_in h is) is.symbol) (data_bound side d w)

-- ---- how far beyond an end

gap_short : (z : ℤ) → IsNear z → IsShort (int_gap z (pos 0))
gap_short (pos n) is = omega arith
gap_short (negsuc n) is = let low = is.low in omega (arith, ints, low)

pub distance_short : (k : Class) (t : Timing) → IsDrawnTiming t → IsShort (distance_in k t)
distance_short OnTime t is = omega arith
distance_short Late t is = gap_short t.until is.until
distance_short Early t is = gap_short t.since is.since

pub command_distance : (o : Option Class) (t : Timing) → IsDrawnTiming t → IsShort (distance_by o t)
command_distance None t is = omega arith
command_distance (Some k) t is = distance_short k t is
