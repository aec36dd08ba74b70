use Rattle.std.proofs.Common.{◌+◌, List, drop, subst}
use Rattle.std.proofs.lemmas.List.{drop_all}
use Rattle.explain_heard.specs.declared.judged.Judged.{Judged}
use Rattle.explain_records.specs.Records.{SoFar}
use Rattle.explain_records.proofs.StoryLemmas.{loop_next, story_kept, taken}
use Rattle.explain_records.proofs.heard_records.HeardRecords.keep.Goals as goal

pub loop-one-init : goal.loop-one-init
loop-one-init c = λ cf ss s side number h. h

pub loop-one-preserved : goal.loop-one-preserved
loop-one-preserved c = λ cf ss s side number start.
    let i = c.loop-one.one-index in
    let all = c.args.judged.now in
    taken c.args.side c.args.number cf cf.endpoints ss s c.one-item.result (drop (i + 1) all) c.loop-one.self c.take.new.self side number c.in_ok-take.ensures
    (subst (λ (hs : List Judged). SoFar cf cf.endpoints ss s hs c.loop-one.self) (loop_next all i c.one-item.result c.loop-one-test.true c.one-item.is) (c.loop-one.invariant cf ss s side number start))

pub returns : goal.returns
returns c = λ cf ss s side number heard is have.
    story_kept c.args.side cf ss s c.args.self.now c.loop-one.self c.args.judged.now side heard is have
    (λ start. subst (λ (hs : List Judged). SoFar cf cf.endpoints ss s hs c.loop-one.self) (drop_all c.loop-one.one-index c.args.judged.now c.loop-one-test.false) (c.loop-one.invariant cf ss s side number start))
