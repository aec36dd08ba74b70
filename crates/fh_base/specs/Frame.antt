-- The absolute frame that a frameId means at a time.
use Rattle.std.specs.Prelude.{◌≡◌, ℕ, ℤ, pos, ◌+ℤ◌, ◌-ℤ◌, ◌*ℤ◌, ◌≤ℤ◌, ◌<ℤ◌}
use Rattle.std.specs.Int.{int_div_euclid, int_rem_euclid}
use Rattle.fh_base.specs.declared.frames.TheConstants.{FRAME, HALF_CYCLE}

-- the start of a frame, in ticks
abbrev pub frame_start : ℤ → ℤ
frame_start frame = frame *ℤ FRAME

-- the frame has this frameId, the low 8 bits of its number, and starts from 1.28 s before the time to less than 1.28 s after it
pub record IsFrame (frame_id : ℕ) (at frame : ℤ) : Type 0 where
  pub id_is : int_rem_euclid frame (pos 256) ≡ pos frame_id
  pub low : (at -ℤ HALF_CYCLE) ≤ℤ frame_start frame
  pub high : frame_start frame <ℤ (at +ℤ HALF_CYCLE)

-- the least frame that starts no earlier than 1.28 s before the time
abbrev pub first_frame : ℤ → ℤ
first_frame at = int_div_euclid (at +ℤ (FRAME -ℤ pos 1)) FRAME -ℤ pos 128

-- the same frame as a number: `resolve` ensures that it is the one with the fact above
unfoldable pub absolute_frame : ℕ → ℤ → ℤ
absolute_frame frame_id at = first_frame at +ℤ int_rem_euclid (pos frame_id -ℤ first_frame at) (pos 256)
