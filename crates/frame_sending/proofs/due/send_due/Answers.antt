use Rattle.std.proofs.Common.{refl, subst, sym, ◌∙◌}
use Rattle.air_source.specs.Kept.{closure_of}
use Rattle.fh_document.specs.Proper.{IsDocument}
use Rattle.frame_sending.proofs.DueLemmas.{all_gone, fewer_frames, none_gone, one_gone, plan_is}
use Rattle.frame_sending.proofs.due.send_due.Goals as goal

pub loop-tick-init : goal.loop-tick-init
loop-tick-init g c = record {
  document = refl;
  going = λ e lines left answer may. none_gone (goal.F-post g (closure_of c.args.source.now)) e lines left answer c.args.tick c.args.way.now c.args.plan.now may;
}

pub leaves_at-requires : goal.leaves_at-requires
leaves_at-requires g c =
    let some = c.requires.some in
    plan_is (goal.F-post g (closure_of c.args.source.now)) some.0 some.1 some.2 some.3 c.args.tick c.args.way.now c.loop-tick.plan c.loop-tick.way
    (c.loop-tick.invariant.going some.0 some.1 some.2 some.3 some.4)

pub send_next-requires-clause-document : goal.send_next-requires-clause-document
send_next-requires-clause-document g c = subst IsDocument (sym c.loop-tick.invariant.document) c.requires.document

pub send_next-requires-clause-some : goal.send_next-requires-clause-some
send_next-requires-clause-some g c =
    let some = c.requires.some in
    let so_far = c.loop-tick.invariant.going some.0 some.1 some.2 some.3 some.4 in
    (some.0, some.1, so_far.rest, some.3, so_far.may)

pub loop-tick-smaller : goal.loop-tick-smaller
loop-tick-smaller g c =
    let some = c.requires.some in
    let so_far = c.loop-tick.invariant.going some.0 some.1 some.2 some.3 some.4 in
    fewer_frames (goal.F-post g (closure_of c.args.source.now)) some.0 some.1 some.2 some.3 c.args.tick c.args.way.now c.loop-tick.plan c.loop-tick.way so_far
    (c.leaves_at.ensures.yes c.loop-tick-test.true some.0 some.1 so_far.rest so_far.may.plan) c.send_next.new.plan (λ f rest h. c.send_next.ensures.rest some.0 some.1 f rest h)

pub loop-tick-preserved : goal.loop-tick-preserved
loop-tick-preserved g c = record {
  document = c.send_next.ensures.document ∙ c.loop-tick.invariant.document;
  going = λ e lines left answer may.
      let so_far = c.loop-tick.invariant.going e lines left answer may in
      one_gone (goal.F-post g (closure_of c.args.source.now)) e lines left answer c.args.tick c.args.way.now c.loop-tick.plan c.loop-tick.way so_far
      (c.leaves_at.ensures.yes c.loop-tick-test.true e lines so_far.rest so_far.may.plan) c.send_next.new.plan (λ f rest h. c.send_next.ensures.rest e lines f rest h)
      c.send_next.new.way (λ f rest v has low stands. c.in_ok-send_next.ensures.sent e lines f rest answer v c.args.tick.0 has low stands);
}

pub returns-clause-sent : goal.returns-clause-sent
returns-clause-sent g c e lines left answer v may from stands =
    let so_far = c.loop-tick.invariant.going e lines left answer may in
    all_gone (goal.F-post g (closure_of c.args.source.now)) e lines left answer c.args.tick c.args.way.now c.loop-tick.plan c.loop-tick.way so_far v from stands
    (c.leaves_at.ensures.no c.loop-tick-test.false e lines so_far.rest so_far.may.plan)
