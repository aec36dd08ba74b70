-- The samples of a tone have 16 bits.
use Rattle.std.proofs.Common.{ℕ, pos, ◌+◌, ◌*◌, ◌%◌, ◌<◌, ◌≤◌, ◌-ℤ◌, sym, ap, ◌∙◌, subst, arith}
use Rattle.std.proofs.lemmas.Int.{ints}
use Rattle.std.proofs.lemmas.Nat.{mod_below}
use Rattle.air_source.proofs.Blocks.{get_or-block_of}
use Rattle.air_source.specs.Answers.{block_of, place_at}
use Rattle.air_source.specs.declared.places.RePlace.{RePlace}
use Rattle.bfp_codec.proofs.Blocks.{by_pairs, component_i, component_q}
use Rattle.bfp_codec.specs.Exponent.{Within}
use Rattle.bfp_codec.specs.Samples.{component, no_iq}
use Rattle.bfp_codec.specs.declared.samples.Iq.{Iq}
use Rattle.fh_document.specs.Proper.{IsTone}
use Rattle.fh_base.specs.declared.values.Slot.{Slot}
use Rattle.air_source.specs.Tones.{number_of, tone_of, wave}
use Rattle.air_source.specs.declared.tones.Tone.{Tone}

rest_fits : (rest amplitude : ℕ) → rest < 2 * amplitude → amplitude ≤ 32768 → Within 16 (pos rest -ℤ pos amplitude)
rest_fits rest amplitude below high = record { low = omega (arith, ints, below, high); high = omega (arith, ints, below, high) }

wave_fits : (amplitude v : ℕ) → 1 ≤ amplitude → amplitude ≤ 32768 → Within 16 (wave amplitude v)
wave_fits amplitude v low high = rest_fits (v % (2 * amplitude)) amplitude (mod_below v (2 * amplitude) (omega (arith, low))) high

sample_fits : (t : Tone) → IsTone t → (p : RePlace) → Within 16 (tone_of t p).i × Within 16 (tone_of t p).q
unfolding tone_of
sample_fits t is p = (wave_fits t.amplitude (number_of t p) is.low is.high, wave_fits t.amplitude (3 * number_of t p + 7) is.low is.high)

-- so has each number of a cell's block
pub tone_fits : (t : Tone) → IsTone t → (id : ℕ) (slot : Slot) (symbol prb : ℕ) → (k : ℕ) → k < 24 → Within 16 (component (block_of (tone_of t) id slot symbol prb) k)
tone_fits t is id slot symbol prb =
    let block = block_of (tone_of t) id slot symbol prb in
    by_pairs (λ k. Within 16 (component block k)) 12 (λ j lt.
    let at = get_or-block_of (tone_of t) id slot symbol prb j no_iq lt in
    let fits = sample_fits t is (place_at id slot symbol prb j) in
    (subst (Within 16) (sym (component_i block j ∙ ap (λ (s : Iq). s.i) at)) fits.0, subst (Within 16) (sym (component_q block j ∙ ap (λ (s : Iq). s.q) at)) fits.1))
