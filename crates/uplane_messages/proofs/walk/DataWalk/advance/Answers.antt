use Rattle.std.proofs.Common.{◌+◌, ◌∙◌, sym, ap, arith}
use Rattle.uplane_sections.specs.Messages.{Telling}
use Rattle.uplane_sections.specs.Phases.{feed_told}
use Rattle.uplane_messages.specs.Joined.{pieces_of, bytes_from}
use Rattle.uplane_messages.specs.Left.{telling_of}
use Rattle.uplane_messages.proofs.Pieces.{fed_piece, refused_ends, nothing_ends, at_end, one_told}
use Rattle.uplane_messages.proofs.walk.DataWalk.advance.Goals as goal

pub returns-in-Refused : goal.returns-in-Refused
returns-in-Refused c =
    let it = c.loop-self.self in
    let ps = pieces_of it.lease.now in
    let s = c.feed-step in
    let on = fed_piece it.walker s.new.self ps it.piece it.at s.result.used (feed_told s.result.what) c.piece-piece.result.now c.piece-piece.ensures s.ensures.tells in
    let ends = refused_ends (telling_of c.args.self.now) s.new.self (bytes_from ps it.piece (it.at + s.result.used)) s.result.what s.result.used c.in-Refused.field-0
    (c.loop-self.invariant.telling ∙ on) c.in-Refused.is s.ensures.answers in
    record { gives = (ends.left, ends.refusal, c.loop-self.invariant.lease); end = ends.end }

pub returns-in_default : goal.returns-in_default
returns-in_default c =
    let it = c.loop-self.self in
    let ps = pieces_of it.lease.now in
    let s = c.feed-step in
    let on = c.loop-self.invariant.telling ∙ fed_piece it.walker s.new.self ps it.piece it.at s.result.used (feed_told s.result.what) c.piece-piece.result.now c.piece-piece.ensures s.ensures.tells in
    let h = c.in_default in
    record {
      gives = (
        record { one = one_told s.result.what h.not-More h.not-Refused; first = ap (λ (t : Telling). t.items) on },
        ap (λ (t : Telling). t.refusal) (sym on),
        c.loop-self.invariant.lease,
      );
      end = tt;
    }

pub returns-clause-gives : goal.returns-clause-gives
returns-clause-gives c =
    let it = c.loop-self.self in
    let ps = pieces_of it.lease.now in
    let ends = nothing_ends (telling_of c.args.self.now) it.walker (bytes_from ps it.piece it.at) c.loop-self.invariant.telling (at_end ps it.piece it.at (omega (arith, c.count.ensures, c.loop-self-test.false))) in
    (ends.left, ends.refusal, c.loop-self.invariant.lease)
