-- Slots that are live, at times that a unit may be given.
use Rattle.std.proofs.Common.{ℕ, ℤ, pos, ◌+◌, ◌*◌, ◌≤ℤ◌, ◌+ℤ◌, ◌-ℤ◌, ◌*ℤ◌, ◌^◌, ◌<ℤ◌, neg_ℤ, List, arith}
use Rattle.std.proofs.lemmas.Int.{ints}
use Rattle.fh_base.specs.Kinds.{kind_start}
use Rattle.fh_base.specs.declared.values.Slot.{Slot}
use Rattle.window_config.specs.Limits.{IsWithinLimits}
use Rattle.window_config.specs.Rings.{ru_reach_of}
use Rattle.window_config.specs.declared.delays.Delays.{Delays}
use Rattle.window_config.specs.declared.endpoints.EndpointConfig.{EndpointConfig}
use Rattle.unit_model.specs.Proper.{IsSlot}
use Rattle.unit_model.specs.Radiated.{first_clock}
use Rattle.unit_model.specs.Sweeps.{frame_of_tick}
use Rattle.unit_model.specs.Swept.{IsSwept}
use Rattle.unit_laws.specs.Ticks.{IsLiveSlot}
use Rattle.fh_base.proofs.Euclid.{frame_floor}
use Rattle.fh_base.specs.declared.frames.TheConstants.{FRAME}
use Rattle.unit_laws.proofs.EndLemmas.{reach_small}
use Rattle.fh_base.specs.declared.nanoseconds.TheConstants.{NANOSECOND}
use Rattle.fh_base.specs.declared.symbols.TheConstants.{SUBFRAME}

pub frame_most : (frame clock before : ℤ) (offset : ℕ) → (frame *ℤ FRAME +ℤ pos offset -ℤ (before *ℤ pos NANOSECOND)) ≤ℤ clock → before ≤ℤ pos 4000000
    → clock ≤ℤ pos (2 ^ 53) → frame ≤ℤ pos 1000000
frame_most frame clock before offset a b c = omega (arith, ints)

pub frame_least : (frame q tick : ℤ) → (neg_ℤ FRAME) ≤ℤ tick → tick <ℤ (q *ℤ FRAME +ℤ FRAME) → (q -ℤ pos 5) ≤ℤ frame
    → neg_ℤ (pos 1000000) ≤ℤ frame
frame_least frame q tick a b c = omega (arith, ints)

-- a live slot of a symbol that starts after the first clock is one whose times can be told
pub swept_slot : (d : Delays) (es : List EndpointConfig) (ep : ℕ) (e : EndpointConfig) (slot : Slot) (symbol : ℕ) (tick clock : ℤ)
    → IsWithinLimits d → IsSwept es ep e slot symbol tick → first_clock ≤ℤ tick → clock ≤ℤ pos (2 ^ 53) → IsLiveSlot d e clock slot
    → IsSlot e.numerology slot
swept_slot d es ep e slot symbol tick clock limits swept begun small live = record {
  low = frame_least slot.frame (frame_of_tick tick) tick begun (frame_floor tick).1 swept.frame_low;
  high = frame_most slot.frame clock (ru_reach_of d).before (slot.subframe * SUBFRAME + kind_start e.numerology.kind slot.slot 0) live.begun (reach_small d limits) small;
  subframe = swept.slot_is.subframe;
  slot_is = swept.slot_is.slot;
}
