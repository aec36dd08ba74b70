use Rattle.std.proofs.Common.{◌≤◌, ◌∙◌, List, ℕ, length, ap, subst}
use Rattle.uplane_sections.specs.States.{tells}
use Rattle.uplane_messages.specs.Joined.{pieces_of, piece_of}
use Rattle.uplane_messages.proofs.Pieces.{part_skipped, skipped}
use Rattle.uplane_messages.proofs.walk.DataWalk.skip_used.Goals as goal

pub loop-self-preserved : goal.loop-self-preserved
loop-self-preserved c =
    let it = c.loop-self.self in
    let ps = pieces_of it.lease.now in
    let all : length (piece_of ps it.piece) ≤ it.at = subst (λ (p : List ℕ). length p ≤ it.at) c.piece.ensures c.if-self-piece.true in
    record {
      telling = ap (tells it.walker) (skipped ps it.piece it.at all) ∙ c.loop-self.invariant.telling;
      lease = c.loop-self.invariant.lease;
      walker = c.loop-self.invariant.walker;
      part = part_skipped ps it.piece it.at all ∙ c.loop-self.invariant.part;
    }
