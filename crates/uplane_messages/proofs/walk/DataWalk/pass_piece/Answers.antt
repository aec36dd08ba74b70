use Rattle.uplane_messages.specs.Joined.{pieces_of}
use Rattle.uplane_messages.proofs.Pieces.{passed}
use Rattle.uplane_messages.proofs.walk.DataWalk.pass_piece.Goals as goal

pub returns-clause-refusal : goal.returns-clause-refusal
returns-clause-refusal c =
    let it = c.args.self.now in
    passed it.walker c.pass.new.self (pieces_of it.lease.now) it.piece it.at c.min-from.result c.piece-piece.result.now c.piece-piece.ensures c.min-from.ensures c.pass.ensures.refusal
