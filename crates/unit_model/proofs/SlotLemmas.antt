-- The frames and slots that sections name.
use Rattle.std.proofs.Common.{ℕ, ℤ, pos, neg_ℤ, ◌+ℤ◌, ◌-ℤ◌, ◌*ℤ◌, ◌≤ℤ◌, ◌<ℤ◌, refl, arith}
use Rattle.std.proofs.lemmas.Int.{ints}
use Rattle.std.specs.Int.{int_div_euclid, int_rem_euclid}
use Rattle.fh_base.specs.Frame.{IsFrame, absolute_frame, first_frame}
use Rattle.fh_base.proofs.Euclid.{frame_floor, frame_near, rest_small}
use Rattle.unit_model.specs.Blocks.{data_slot}
use Rattle.unit_model.specs.Commands.{command_slot}
use Rattle.unit_model.specs.Proper.{IsTime, IsSlot}
use Rattle.unit_model.specs.Sound.{IsSoundCommand, IsSoundData}
use Rattle.unit_model.specs.declared.decoded.ControlSection.{ControlSection}
use Rattle.unit_model.specs.declared.decoded.UserSection.{UserSection}
use Rattle.fh_base.specs.declared.frames.TheConstants.{FRAME}
use Rattle.unit_model.specs.Radiated.{first_clock}

-- the frame nearest to a time that a unit may be given is one whose symbols' times can be told
pub frame_low : (id : ℕ) (at f : ℤ) → IsTime at → IsFrame id at f → neg_ℤ (pos 1000000) ≤ℤ f
frame_low id at f time is = (frame_near id at f is time.low time.high).0

pub frame_high : (id : ℕ) (at f : ℤ) → IsTime at → IsFrame id at f → f ≤ℤ pos 1000000
frame_high id at f time is = (frame_near id at f is time.low time.high).1

pub ruleset slots = (frame_low, frame_high)

-- the same of the number that is defined
bounds : (at q r : ℤ) → neg_ℤ (pos 9007199254740992) ≤ℤ at → at ≤ℤ pos 9007199254740992 → (q *ℤ FRAME) ≤ℤ (at +ℤ (FRAME -ℤ pos 1))
    → (at +ℤ (FRAME -ℤ pos 1)) <ℤ (q *ℤ FRAME +ℤ FRAME) → pos 0 ≤ℤ r → r <ℤ pos 256
    → (neg_ℤ (pos 1000000) ≤ℤ (q -ℤ pos 128 +ℤ r)) × ((q -ℤ pos 128 +ℤ r) ≤ℤ pos 1000000)
bounds at q r low high under over some few = (omega (arith, ints), omega (arith, ints))

pub absolute_near : (id : ℕ) (at : ℤ) → IsTime at → (neg_ℤ (pos 1000000) ≤ℤ absolute_frame id at) × (absolute_frame id at ≤ℤ pos 1000000)
unfolding absolute_frame
absolute_near id at time =
    let floor = frame_floor (at +ℤ (FRAME -ℤ pos 1)) in
    let rest = rest_small (pos id -ℤ first_frame at) (int_rem_euclid (pos id -ℤ first_frame at) (pos 256)) refl in
    bounds at (int_div_euclid (at +ℤ (FRAME -ℤ pos 1)) FRAME) (int_rem_euclid (pos id -ℤ first_frame at) (pos 256)) time.low time.high floor.0 floor.1 rest.0 rest.1

pub command_slot_is : (c : ControlSection) → IsSoundCommand c → IsSlot c.endpoint.numerology (command_slot c)
command_slot_is c is =
    let frame = absolute_near c.head.frame_id c.at.0 is.at in record { low = frame.0; high = frame.1; subframe = is.subframe; slot_is = is.slot }

pub data_slot_is : (d : UserSection) → IsSoundData d → IsSlot d.endpoint.numerology (data_slot d)
data_slot_is d is =
    let frame = absolute_near d.head.frame_id d.last.0 is.last in record { low = frame.0; high = frame.1; subframe = is.subframe; slot_is = is.slot }

-- the first clock is a time
pub first_time : IsTime first_clock
first_time = record { low = omega (arith, ints); high = omega (arith, ints) }
