use Rattle.std.proofs.Common.{◌≡◌, ◌+◌, ◌++◌, ℕ, List, length, take}
use Rattle.bfp_codec.specs.declared.samples.Iq.{Iq}
use Rattle.frame_bytes.specs.Spelled.{in_bytes}
use Rattle.frame_bytes.specs.Messages.{AnswersBy, head_fields, sections_of, sections_size}
use Rattle.frame_bytes.specs.Written.{Stands}
use Rattle.frame_bytes.proofs.pieces.write_message.Given as goal

abbrev pub invariant-loop-number : goal.invariant-loop-number
invariant-loop-number g l =
    (length l.into ≡ length l.fn.into)
    × (l.place ≡ 4 + sections_size l.message.carrier (take l.number l.message.sections.now))
    × ((blocks : ℕ → ℕ → List Iq) → AnswersBy (length l.message.sections.now) l.message.carrier.prbs (goal.F-post g l.source) blocks
    → Stands l.span (in_bytes (head_fields l.message.head) ++ sections_of l.message.carrier blocks 0 (take l.number l.message.sections.now)) l.into)
