use Rattle.std.proofs.Common.{inl, subst}
use Rattle.std.proofs.lemmas.Result.{on_ok_weaker}
use Rattle.frame_ways.specs.Leaving.{Leaving}
use Rattle.frame_ways.specs.Ways.{StandsFor, having_sent}
use Rattle.frame_sending.proofs.DueLemmas.{gives_one, has_rest, leaves_as, leaves_then, may_be_sent}
use Rattle.frame_sending.proofs.due.send_next.Goals as goal

pub send-requires-clause-begun : goal.send-requires-clause-begun
send-requires-clause-begun g c =
    let some = c.requires.some in
    (may_be_sent some.0 some.1 some.2 some.3 c.args.plan.now c.in-Some.frame some.4 (c.in-Some.ensures.gives some.0 some.1 some.2 some.4.plan some.3 some.4.answers)).time.begun

pub send-requires-clause-ended : goal.send-requires-clause-ended
send-requires-clause-ended g c =
    let some = c.requires.some in
    (may_be_sent some.0 some.1 some.2 some.3 c.args.plan.now c.in-Some.frame some.4 (c.in-Some.ensures.gives some.0 some.1 some.2 some.4.plan some.3 some.4.answers)).time.ended

pub send-requires-clause-short : goal.send-requires-clause-short
send-requires-clause-short g c =
    let some = c.requires.some in
    (may_be_sent some.0 some.1 some.2 some.3 c.args.plan.now c.in-Some.frame some.4 (c.in-Some.ensures.gives some.0 some.1 some.2 some.4.plan some.3 some.4.answers)).short

pub returns-in-Some-clause-rest : goal.returns-in-Some-clause-rest
returns-in-Some-clause-rest g c e lines f rest h =
    has_rest e lines f rest c.args.plan.now c.next_frame.follows.lender-at-none c.next_frame.result c.in-Some.frame c.in-Some.is c.next_frame.follows.holds-at-none h

pub returns-in-None-clause-rest : goal.returns-in-None-clause-rest
returns-in-None-clause-rest g c e lines f rest h =
    absurd (gives_one e lines f rest c.args.plan.now c.next_frame.follows.lender-at-none c.next_frame.result c.in-None.is c.next_frame.follows.holds-at-none h)

pub returns-in-Some-clause-sent : goal.returns-in-Some-clause-sent
returns-in-Some-clause-sent g c e lines f rest answer v now may low stands =
    let s = c.in-Some.frame in
    let gives = c.in-Some.ensures.gives e lines _ may.plan answer may.answers in
    on_ok_weaker c.send.result
    (λ sent. subst (λ (x : Leaving). StandsFor (having_sent v x) now c.send.new.self) (leaves_as e answer s c.class_of.result f rest c.class_of.ensures gives) sent)
    (c.send.ensures.sent v now (inl (leaves_then e answer s f rest now gives low)) stands)

pub returns-in-None-clause-sent : goal.returns-in-None-clause-sent
returns-in-None-clause-sent g c e lines f rest answer v now may low stands =
    absurd (gives_one e lines f rest c.args.plan.now c.next_frame.follows.lender-at-none c.next_frame.result c.in-None.is c.next_frame.follows.holds-at-none may.plan)
