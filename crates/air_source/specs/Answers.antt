-- What is known of a closure that answers samples, and the block of its answers.
use Rattle.std.specs.Prelude.{◌≡◌, ℕ, ◌<◌, ◌^◌, ◌-◌, List, map, pos, negsuc, ◌≤ℤ◌, slice_index_or}
use Rattle.std.specs.List.{range_with_len}
use Rattle.bfp_codec.specs.Samples.{iq_of, no_iq}
use Rattle.bfp_codec.specs.declared.samples.Iq.{Iq}
use Rattle.bfp_codec.specs.declared.samples.Wide.{Wide}
use Rattle.fh_base.specs.declared.values.Slot.{Slot}
use Rattle.air_source.specs.declared.places.RePlace.{RePlace}
use Rattle.fh_base.specs.declared.symbols.TheConstants.{SLOT_SYMBOLS}
use Rattle.fh_base.specs.declared.carrier.TheConstants.{CARRIER_PRBS}

-- a resource element of a carrier: symbol 0 to 13, PRB 0 to 272, element 0 to 11, and any id and slot
pub record InRange (p : RePlace) : Type 0 where
  pub id : p.id < 2 ^ 16
  pub frame_low : negsuc (2 ^ 63 - 1) ≤ℤ p.slot.frame
  pub frame_high : p.slot.frame ≤ℤ pos (2 ^ 63 - 1)
  pub subframe : p.slot.subframe < 2 ^ 8
  pub slot : p.slot.slot < 2 ^ 8
  pub symbol : p.symbol < SLOT_SYMBOLS
  pub prb : p.prb < CARRIER_PRBS
  pub re : p.re < 12

-- both numbers fit 16 bits: they lie from -32,768 to 32,767
pub record Fits16 (w : Wide) : Type 0 where
  pub i_low : negsuc 32767 ≤ℤ w.i
  pub i_high : w.i ≤ℤ pos 32767
  pub q_low : negsuc 32767 ≤ℤ w.q
  pub q_high : w.q ≤ℤ pos 32767

-- at each place in range the closure may be called and has one answer, and its numbers fit 16 bits
pub record IsGrid {F : Type 0} (pre : F → RePlace → Type 0) (post : F → RePlace → Wide → Type 0) (f : F) : Type 0 where
  pub callable : (p : RePlace) → InRange p → pre f p
  pub one : (p : RePlace) (v w : Wide) → InRange p → post f p v → post f p w → v ≡ w
  pub narrow : (p : RePlace) (w : Wide) → InRange p → post f p w → Fits16 w

-- a sample of 16 bits as a wide one
abbrev pub widened : Iq → Wide
widened s = record { i = s.i; q = s.q }

abbrev pub place_at : ℕ → Slot → ℕ → ℕ → ℕ → RePlace
place_at id slot symbol prb re = record { id = id; slot = slot; symbol = symbol; prb = prb; re = re }

-- sample re of the block is the answer at element re
abbrev pub IsBlock : (RePlace → Wide → Type 0) → ℕ → Slot → ℕ → ℕ → List Iq → Type 0
IsBlock post id slot symbol prb block = (re : ℕ) → re < 12 → post (place_at id slot symbol prb re) (widened (slice_index_or block re no_iq))

-- in range, what is answered is what this function says
abbrev pub AnswersBy : (RePlace → Wide → Type 0) → (RePlace → Wide) → Type 0
AnswersBy post answer = (p : RePlace) (w : Wide) → InRange p → post p w → w ≡ answer p

-- the twelve samples of a PRB by such a function, as samples of 16 bits
unfoldable pub block_of : (RePlace → Wide) → ℕ → Slot → ℕ → ℕ → List Iq
block_of answer id slot symbol prb = map (λ re. iq_of (answer (place_at id slot symbol prb re))) (range_with_len 0 12)
