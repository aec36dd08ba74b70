-- Pieces of a message, one after the other.
use Rattle.std.proofs.Common.{◌≡◌, ℕ, suc, ◌+◌, ◌<◌, List, [], ◌∷◌, ◌++◌, length, take, sym, ap, ◌∙◌, length-append, append-nil, append_assoc}
use Rattle.std.specs.Prelude.{slice_index_or}
use Rattle.std.proofs.Math.Seq.{take-suc}
use Rattle.ecpri_fragments.specs.Pieces.{joined}

joined_last : (ps : List (List ℕ)) (p : List ℕ) → joined (ps ++ p ∷ []) ≡ joined ps ++ p
joined_last [] p = append-nil p
joined_last (q ∷ ps) p = ap (λ (xs : List ℕ). q ++ xs) (joined_last ps p) ∙ sym (append_assoc q (joined ps) p)

-- the bytes of one piece more
pub total_next : (ps : List (List ℕ)) (k : ℕ) → k < length ps → length (joined (take (suc k) ps)) ≡ length (joined (take k ps)) + length (slice_index_or ps k [])
total_next ps k within =
    ap (λ (xs : List (List ℕ)). length (joined xs)) (take-suc ps k [] within) ∙ ap length (joined_last (take k ps) (slice_index_or ps k []))
    ∙ length-append (joined (take k ps)) (slice_index_or ps k [])
