-- Closures that answer a tone: what `Samples` want of them.
use Rattle.std.proofs.Common.{ℕ, ◌*◌, ◌%◌, ◌≤◌, ◌<◌, pos, negsuc, ◌-ℤ◌, ◌≤ℤ◌, sym, subst, ◌∙◌, arith}
use Rattle.std.proofs.lemmas.Int.{ints}
use Rattle.std.proofs.Math.Nat.{mod-lt}
use Rattle.air_source.specs.Answers.{InRange, Fits16, IsGrid, AnswersBy}
use Rattle.air_source.specs.declared.places.RePlace.{RePlace}
use Rattle.bfp_codec.specs.declared.samples.Wide.{Wide}
use Rattle.air_source.specs.Tones.{number_of, wave, tone_of}
use Rattle.air_source.specs.declared.tones.Tone.{Tone}

shifted_low : (a r : ℕ) → a ≤ 32768 → negsuc 32767 ≤ℤ (pos r -ℤ pos a)
shifted_low a r most = omega (arith, ints)

shifted_high : (a r : ℕ) → a ≤ 32768 → r < 2 * a → (pos r -ℤ pos a) ≤ℤ pos 32767
shifted_high a r most small = omega (arith, ints)

pub wave_low : (a v : ℕ) → a ≤ 32768 → negsuc 32767 ≤ℤ wave a v
wave_low a v most = shifted_low a (v % (2 * a)) most

pub wave_high : (a v : ℕ) → 1 ≤ a → a ≤ 32768 → wave a v ≤ℤ pos 32767
wave_high a v some most = shifted_high a (v % (2 * a)) most (mod-lt v (omega arith))

-- a tone's numbers fit 16 bits at every place
pub tone_fits : (t : Tone) (p : RePlace) → 1 ≤ t.amplitude → t.amplitude ≤ 32768 → Fits16 (tone_of t p)
unfolding tone_of
tone_fits t p some most = record {
  i_low = wave_low t.amplitude (number_of t p) most;
  i_high = wave_high t.amplitude (number_of t p) some most;
  q_low = wave_low t.amplitude _ most;
  q_high = wave_high t.amplitude _ some most;
}

-- what may be called in range and answers a tone there can be kept by samples
pub tone_grid : {F : Type 0} (pre : F → RePlace → Type 0) (post : F → RePlace → Wide → Type 0) (f : F) (t : Tone) → 1 ≤ t.amplitude → t.amplitude ≤ 32768
    → ((p : RePlace) → InRange p → pre f p) → AnswersBy (post f) (tone_of t) → IsGrid pre post f
tone_grid pre post f t some most callable answers = record {
  callable = callable;
  one = λ p v w range a b. answers p v range a ∙ sym (answers p w range b);
  narrow = λ p w range a. subst Fits16 (sym (answers p w range a)) (tone_fits t p some most);
}
