use Rattle.std.proofs.Common.{◌≡◌, ◌++◌, ◌≤◌, ℕ, List, length}
use Rattle.bfp_codec.specs.declared.samples.Iq.{Iq}
use Rattle.frame_bytes.specs.Messages.{AnswersAt, packed_prbs}
use Rattle.frame_bytes.specs.Written.{Stands}
use Rattle.frame_bytes.proofs.pieces.write_prbs.Given as goal

abbrev pub invariant-loop-k : goal.invariant-loop-k
invariant-loop-k g l =
    (length l.into ≡ length l.fn.into)
    × (l.begin ≤ l.k)
    × ((block : ℕ → List Iq) → AnswersAt l.carrier.prbs (goal.F-post g l.source l.number) block
    → (before : List ℕ) → length before ≡ l.place → Stands l.span before l.fn.into
    → Stands l.span (before ++ packed_prbs l.carrier.format.method block l.first l.k) l.into)
