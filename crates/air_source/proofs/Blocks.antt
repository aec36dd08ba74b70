-- The block of a closure's answers, where these are known.
use Rattle.std.proofs.Common.{◌≡◌, ℕ, ◌<◌, List, length, get_or, sym, ap, ◌∙◌, arith}
use Rattle.std.proofs.lemmas.List.{ext_get_or}
use Rattle.std.proofs.lemmas.List.FromFn.{length-map-range_with_len, get_or-map-range_with_len}
use Rattle.bfp_codec.specs.declared.samples.Iq.{Iq}
use Rattle.bfp_codec.specs.declared.samples.Wide.{Wide}
use Rattle.bfp_codec.specs.Samples.{no_iq, iq_of}
use Rattle.fh_base.specs.declared.values.Slot.{Slot}
use Rattle.air_source.specs.declared.places.RePlace.{RePlace}
use Rattle.air_source.specs.Answers.{InRange, IsBlock, AnswersBy, place_at, widened, block_of}

pub length-block_of : (answer : RePlace → Wide) (id : ℕ) (slot : Slot) (symbol prb : ℕ) → length (block_of answer id slot symbol prb) ≡ 12
unfolding block_of
length-block_of answer id slot symbol prb = length-map-range_with_len (λ re. iq_of (answer (place_at id slot symbol prb re))) 0 12

-- sample re of the block
pub get_or-block_of : (answer : RePlace → Wide) (id : ℕ) (slot : Slot) (symbol prb re : ℕ) (d : Iq) → re < 12
    → get_or (block_of answer id slot symbol prb) re d ≡ iq_of (answer (place_at id slot symbol prb re))
unfolding block_of
get_or-block_of answer id slot symbol prb re d lt = get_or-map-range_with_len (λ k. iq_of (answer (place_at id slot symbol prb k))) 0 12 re re d lt (omega arith)

-- where the answers are those of a function, the block is its block
pub block_answered : (post : RePlace → Wide → Type 0) (answer : RePlace → Wide) (id : ℕ) (slot : Slot) (symbol prb : ℕ) (block : List Iq)
    → length block ≡ 12 → ((re : ℕ) → re < 12 → InRange (place_at id slot symbol prb re)) → IsBlock post id slot symbol prb block → AnswersBy post answer
    → block ≡ block_of answer id slot symbol prb
block_answered post answer id slot symbol prb block size range answers by =
    ext_get_or no_iq block (block_of answer id slot symbol prb) (size ∙ sym (length-block_of answer id slot symbol prb)) (λ re lt.
    let below : re < 12 = omega (arith, lt, size) in
    ap iq_of (by (place_at id slot symbol prb re) (widened (get_or block re no_iq)) (range re below) (answers re below))
    ∙ sym (get_or-block_of answer id slot symbol prb re no_iq below))
