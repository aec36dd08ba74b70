-- The twelve samples of a PRB.
use Rattle.std.proofs.Common.{◌≡◌, ℕ, ◌<◌, length, get_or, arith}
use Rattle.std.proofs.lemmas.List.FromFn.{length-map-range_with_len, get_or-map-range_with_len}
use Rattle.air_source.specs.Answers.{place_at}
use Rattle.bfp_codec.specs.declared.samples.Wide.{Wide}
use Rattle.fh_base.specs.declared.values.Slot.{Slot}
use Rattle.air_source.specs.Tones.{tone_of, tone_block}
use Rattle.air_source.specs.declared.tones.Tone.{Tone}

pub length-tone_block : (t : Tone) (id : ℕ) (slot : Slot) (symbol prb : ℕ) → length (tone_block t id slot symbol prb) ≡ 12
unfolding tone_block
length-tone_block t id slot symbol prb = length-map-range_with_len (λ re. tone_of t (place_at id slot symbol prb re)) 0 12

-- sample re of the block
pub get_or-tone_block : (t : Tone) (id : ℕ) (slot : Slot) (symbol prb re : ℕ) (d : Wide) → re < 12
    → get_or (tone_block t id slot symbol prb) re d ≡ tone_of t (place_at id slot symbol prb re)
unfolding tone_block
get_or-tone_block t id slot symbol prb re d lt = get_or-map-range_with_len (λ k. tone_of t (place_at id slot symbol prb k)) 0 12 re re d lt (omega arith)
