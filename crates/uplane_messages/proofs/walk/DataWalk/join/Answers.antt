use Rattle.std.proofs.Common.{◌≡◌, ℕ, ◌+◌, ◌∙◌, sym, ap, subst, arith}
use Rattle.uplane_sections.specs.Messages.{Telling, after, blocks}
use Rattle.uplane_sections.specs.States.{tells, held_by, BeginsWithout}
use Rattle.uplane_messages.specs.Joined.{pieces_of, bytes_from}
use Rattle.uplane_messages.specs.Left.{telling_of}
use Rattle.uplane_messages.proofs.Pieces.{fed_piece, none_joined, nothing_ends, at_end}
use Rattle.uplane_messages.proofs.walk.DataWalk.join.Goals as goal

pub returns-then-step-gt0-clause-gives : goal.returns-then-step-gt0-clause-gives
returns-then-step-gt0-clause-gives c =
    let it = c.loop-self.self in
    let ps = pieces_of it.lease.now in
    let s = c.join-step in
    let r = s.result in
    let kept = held_by s.new.self in
    let rest = bytes_from ps it.piece (it.at + r.used) in
    let on = c.loop-self.invariant.telling ∙ fed_piece it.walker s.new.self ps it.piece it.at r.used (blocks r.method r.prb r.count kept) c.piece-piece.result.now c.piece-piece.ensures s.ensures.tells in
    let one : r.count ≡ 1 = omega (arith, s.ensures.most, c.if-step-gt0.true) in
    let told = on ∙ ap (λ (n : ℕ). after (blocks r.method r.prb n kept) (tells s.new.self rest)) one in
    record { first = ap (λ (t : Telling). t.items) told; refusal = ap (λ (t : Telling). t.refusal) (sym told); lease = c.loop-self.invariant.lease }

pub returns-then-step-eq0 : goal.returns-then-step-eq0
returns-then-step-eq0 c =
    let it = c.loop-self.self in
    let ps = pieces_of it.lease.now in
    let s = c.join-step in
    let r = s.result in
    let rest = bytes_from ps it.piece (it.at + r.used) in
    let on = c.loop-self.invariant.telling ∙ fed_piece it.walker s.new.self ps it.piece it.at r.used (blocks r.method r.prb r.count (held_by s.new.self)) c.piece-piece.result.now c.piece-piece.ensures s.ensures.tells in
    let same = none_joined r.method r.prb r.count (held_by s.new.self) _ (tells s.new.self rest) (omega (arith, c.if-step-gt0.false)) on in
    let begins = s.ensures.other (omega (arith, c.if-step-eq0.true)) (bytes_from ps it.piece it.at) in
    record {
      gives = record { first = ap (λ (t : Telling). t.items) same; refusal = ap (λ (t : Telling). t.refusal) (sym same); lease = c.loop-self.invariant.lease };
      width = tt {0};
      none = subst (λ (t : Telling). BeginsWithout t.items) (sym c.loop-self.invariant.telling) begins;
    }

pub loop-self-preserved-else-step-eq0 : goal.loop-self-preserved-else-step-eq0
loop-self-preserved-else-step-eq0 c =
    let it = c.loop-self.self in
    let ps = pieces_of it.lease.now in
    let s = c.join-step in
    let r = s.result in
    let on = c.loop-self.invariant.telling ∙ fed_piece it.walker s.new.self ps it.piece it.at r.used (blocks r.method r.prb r.count (held_by s.new.self)) c.piece-piece.result.now c.piece-piece.ensures s.ensures.tells in
    record {
      telling = none_joined r.method r.prb r.count (held_by s.new.self) _ (tells s.new.self (bytes_from ps it.piece (it.at + r.used))) (omega (arith, c.if-step-gt0.false)) on;
      lease = c.loop-self.invariant.lease;
    }

pub returns : goal.returns
returns c =
    let it = c.loop-self.self in
    let ps = pieces_of it.lease.now in
    let ends = nothing_ends (telling_of c.args.self.now) it.walker (bytes_from ps it.piece it.at) c.loop-self.invariant.telling (at_end ps it.piece it.at (omega (arith, c.count.ensures, c.loop-self-test.false))) in
    record {
      gives = record { first = ends.left.before ∙ sym ends.left.behind; refusal = ends.refusal; lease = c.loop-self.invariant.lease };
      width = tt {0};
      none = subst BeginsWithout (sym ends.left.before) (tt {0});
    }
