-- The tone of a seed and an amplitude: a sample for each resource element, by a remainder of what names the element.
use Rattle.std.specs.Prelude.{ℕ, ℤ, pos, ◌+◌, ◌*◌, ◌%◌, ◌-ℤ◌, List, map, unsigned_abs}
use Rattle.std.specs.Int.{int_rem_euclid}
use Rattle.std.specs.List.{range_with_len}
use Rattle.air_source.specs.Answers.{place_at}
use Rattle.air_source.specs.declared.places.RePlace.{RePlace}
use Rattle.bfp_codec.specs.declared.samples.Wide.{Wide}
use Rattle.fh_base.specs.declared.values.Slot.{Slot}
use Rattle.air_source.specs.declared.tones.Tone.{Tone}

-- the remainder of a frame by 256, from 0 to 255 also where the frame is negative
abbrev pub frame_part : ℤ → ℕ
frame_part frame = unsigned_abs (int_rem_euclid frame (pos 256))

-- the number of a PRB in a symbol: that of its element 0
abbrev pub base_of : Tone → RePlace → ℕ
base_of t p = t.seed + 1009 * p.id + 613 * frame_part p.slot.frame + 409 * p.slot.subframe + 307 * p.slot.slot + 211 * p.symbol + 101 * p.prb

-- the number of an element
abbrev pub number_of : Tone → RePlace → ℕ
number_of t p = base_of t p + 17 * p.re

-- a number as one from -A up to A - 1, by its remainder by twice the amplitude A
abbrev pub wave : ℕ → ℕ → ℤ
wave amplitude v = pos (v % (2 * amplitude)) -ℤ pos amplitude

-- the sample of an element: I by its number, Q by three times that and 7
unfoldable pub tone_of : Tone → RePlace → Wide
tone_of t p = record { i = wave t.amplitude (number_of t p); q = wave t.amplitude (3 * number_of t p + 7) }

-- the twelve samples of a PRB in a symbol
unfoldable pub tone_block : Tone → ℕ → Slot → ℕ → ℕ → List Wide
tone_block t id slot symbol prb = map (λ re. tone_of t (place_at id slot symbol prb re)) (range_with_len 0 12)
