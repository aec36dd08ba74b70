use Rattle.std.proofs.Common.{length, drop, ◌+◌, arith, length-drop, ap}
use Rattle.ecpri_frames.specs.Left.{left_of}
use Rattle.ecpri_frames.proofs.Walking.{fed_refusal, fed_whole, held_of, empty_given, header_held, payload_given, payload_passed, unfinished, nothing_left, frame_ends, stops, first_whole, lies}
use Rattle.ecpri_frames.proofs.whole.MessagesIterator.next.Goals as goal

pub invariant_of-self : goal.invariant_of-self
invariant_of-self c =
    let it = c.loop-self.self in
    record {
      within = omega (arith, length-drop it.at it.frame.now);
      used = omega arith;
      refusal = fed_refusal it.pdu c.feed-step.new.self it.frame.now it.at c.feed-step.result.used c.feed-step.result.what it.refusal c.feed-step.ensures.tells;
    }

pub returns-then-head-eq0-clause-steps : goal.returns-then-head-eq0-clause-steps
returns-then-head-eq0-clause-steps c =
    let it = c.loop-self.self in
    let e = fed_whole it.pdu c.feed-step.new.self it.frame.now it.at c.feed-step.result.used c.feed-step.result.what (held_of c.loop-self.held) (left_of c.args.self.now) (omega arith) c.loop-self.invariant.left c.feed-step.ensures.tells in
    (empty_given e c.in-Message.head c.in-Message.is c.if-head-eq0.true, c.loop-self.invariant.frame, let a = rw c.in-Message.is at c.feed-step.ensures.answers in omega (arith, a.1, length-drop it.at it.frame.now, ap length c.loop-self.invariant.frame))

pub returns-then-head-eq0-clause-goes : goal.returns-then-head-eq0-clause-goes
returns-then-head-eq0-clause-goes c = record { on = λ f. (tt, tt, omega (arith, ap length (returns-then-head-eq0-clause-steps c).0)); keeps = tt; rests = λ f. tt }

pub loop-self-preserved-in-Message : goal.loop-self-preserved-in-Message
loop-self-preserved-in-Message c =
    let it = c.loop-self.self in
    let e = fed_whole it.pdu c.feed-step.new.self it.frame.now it.at c.feed-step.result.used c.feed-step.result.what (held_of c.loop-self.held) (left_of c.args.self.now) (omega arith) c.loop-self.invariant.left c.feed-step.ensures.tells in
    record {
      frame = c.loop-self.invariant.frame;
      held = let a = rw c.in-Message.is at c.feed-step.ensures.answers in omega (arith, a.1);
      left = header_held e c.in-Message.head c.in-Message.is c.if-head-eq0.false;
    }

pub returns-then-not-last-clause-steps : goal.returns-then-not-last-clause-steps
returns-then-not-last-clause-steps c =
    let it = c.loop-self.self in
    let e = fed_whole it.pdu c.feed-step.new.self it.frame.now it.at c.feed-step.result.used c.feed-step.result.what (held_of c.loop-self.held) (left_of c.args.self.now) (omega arith) c.loop-self.invariant.left c.feed-step.ensures.tells in
    let a = rw c.in-Body.is at c.feed-step.ensures.answers in (
      nothing_left e (rw c.in-Body.is (unfinished (it.at + c.feed-step.result.used) c.in-Body.from c.in-Body.to c.in-Body.last (drop it.at it.frame.now) (held_of c.loop-self.held) c.if-not-last.true))
          (frame_ends c.feed-step.new.self it.frame.now it.at c.feed-step.result.used (a.3 c.if-not-last.true)),
      c.loop-self.invariant.frame,
      tt,
    )

pub loop-self-preserved : goal.loop-self-preserved
loop-self-preserved c =
    let it = c.loop-self.self in
    let e = fed_whole it.pdu c.feed-step.new.self it.frame.now it.at c.feed-step.result.used c.feed-step.result.what (held_of c.loop-self.held) (left_of c.args.self.now) (omega arith) c.loop-self.invariant.left c.feed-step.ensures.tells in
    record {
      frame = c.loop-self.invariant.frame;
      held = rw c.in_default.is tt;
      left = payload_passed e c.in-Body.from c.in-Body.to c.in-Body.last c.in-Body.is c.in_default.is;
    }

pub invariant_of-result-in-Some : goal.invariant_of-result-in-Some
invariant_of-result-in-Some c =
    let it = c.loop-self.self in
    let e = fed_whole it.pdu c.feed-step.new.self it.frame.now it.at c.feed-step.result.used c.feed-step.result.what (held_of c.loop-self.held) (left_of c.args.self.now) (omega arith) c.loop-self.invariant.left c.feed-step.ensures.tells in
    let old = c.args.self.now in
    record { whole = first_whole old.pdu (drop old.at old.frame.now) _ _ (payload_given e c.in-Some.place c.in-Body.from c.in-Body.to c.in-Some.head c.in-Body.last c.in-Body.is c.if-not-last.false c.in-Some.is) }

pub returns-in-Some-clause-steps : goal.returns-in-Some-clause-steps
returns-in-Some-clause-steps c =
    let it = c.loop-self.self in
    let e = fed_whole it.pdu c.feed-step.new.self it.frame.now it.at c.feed-step.result.used c.feed-step.result.what (held_of c.loop-self.held) (left_of c.args.self.now) (omega arith) c.loop-self.invariant.left c.feed-step.ensures.tells in
    let a = rw c.in-Body.is at c.feed-step.ensures.answers in (
      payload_given e c.in-Some.place c.in-Body.from c.in-Body.to c.in-Some.head c.in-Body.last c.in-Body.is c.if-not-last.false c.in-Some.is,
      c.loop-self.invariant.frame,
      rw (← c.loop-self.invariant.frame) (lies it.frame.now c.in-Some.place it.at c.in-Body.from c.in-Body.to (rw c.in-Some.is at c.loop-self.invariant.held) (omega (arith, a.2, length-drop it.at it.frame.now))),
    )

pub returns-in-Some-clause-goes : goal.returns-in-Some-clause-goes
returns-in-Some-clause-goes c = record { on = λ f. (tt, tt, omega (arith, ap length (returns-in-Some-clause-steps c).0)); keeps = tt; rests = λ f. tt }

pub returns-in-More-clause-steps : goal.returns-in-More-clause-steps
returns-in-More-clause-steps c =
    let it = c.loop-self.self in
    let e = fed_whole it.pdu c.feed-step.new.self it.frame.now it.at c.feed-step.result.used c.feed-step.result.what (held_of c.loop-self.held) (left_of c.args.self.now) (omega arith) c.loop-self.invariant.left c.feed-step.ensures.tells in (
      stops it.pdu c.feed-step.new.self it.frame.now it.at c.feed-step.result.used c.feed-step.result.what (held_of c.loop-self.held) (left_of c.args.self.now) e c.feed-step.ensures.answers c.feed-step.ensures.tells c.in-More.is,
      c.loop-self.invariant.frame,
      tt,
    )
