use Rattle.std.proofs.Common.{[], ◌∙◌, subst, ap, sym, arith, length-drop}
use Rattle.fh_base.specs.declared.values.Shape.{Shape}
use Rattle.fh_base.specs.Numbering.{shape_of}
use Rattle.uplane_sections.specs.Messages.{Telling}
use Rattle.uplane_sections.specs.States.{StandsBehind}
use Rattle.unit_model.specs.Decoding.{nothing_told, gathered}
use Rattle.plain_units.proofs.Told.{gathered_none, gathered_on, stands_on, refused_here}
use Rattle.plain_units.proofs.decoding.tell.Goals as goal

pub loop-at-init : goal.loop-at-init
loop-at-init c =
    let e = c.args.endpoint.now in
    record {
      within = omega arith;
      used = c.new-walker.ensures.used;
      stands =
          let P : Shape → Type 0 = λ (x : Shape). StandsBehind e.format e.prbs x c.new-walker.result [] in
          subst P c.shape.ensures c.new-walker.ensures.stands;
      told_so_far = c.new-gathered.ensures ∙ sym (gathered_none nothing_told);
    }

pub returns-in-Refused-clause-items : goal.returns-in-Refused-clause-items
returns-in-Refused-clause-items c =
    let e = c.args.endpoint.now in
    let i = c.loop-at.invariant in
    let s = c.feed-step.ensures in
    let shape = shape_of e.numerology in
    let bytes = c.args.bytes.now in
    let all = refused_here e.format e.prbs shape c.feed-step.new.self bytes c.loop-at.at c.feed-step.result.used c.in-Refused.refusal
    (s.stands e.format e.prbs shape _ i.stands) (rw c.in-Refused.is at s.answers).stays (rw c.in-Refused.is at (s.told e.format e.prbs shape _ i.stands)) in
    i.told_so_far ∙ ap (λ (t : Telling). gathered nothing_told t.items) (sym all)

pub returns-in-Refused-clause-refusal : goal.returns-in-Refused-clause-refusal
returns-in-Refused-clause-refusal c =
    let e = c.args.endpoint.now in
    let i = c.loop-at.invariant in
    let s = c.feed-step.ensures in
    let shape = shape_of e.numerology in
    let bytes = c.args.bytes.now in
    let all = refused_here e.format e.prbs shape c.feed-step.new.self bytes c.loop-at.at c.feed-step.result.used c.in-Refused.refusal
    (s.stands e.format e.prbs shape _ i.stands) (rw c.in-Refused.is at s.answers).stays (rw c.in-Refused.is at (s.told e.format e.prbs shape _ i.stands)) in
    ap (λ (t : Telling). t.refusal) (sym all)

pub loop-at-preserved : goal.loop-at-preserved
loop-at-preserved c =
    let e = c.args.endpoint.now in
    let i = c.loop-at.invariant in
    let s = c.feed-step.ensures in
    let shape = shape_of e.numerology in
    let bytes = c.args.bytes.now in
    record {
      within = omega (arith, length-drop c.loop-at.at bytes);
      used = omega arith;
      stands = stands_on e.format e.prbs shape c.feed-step.new.self bytes c.loop-at.at c.feed-step.result.used (s.stands e.format e.prbs shape _ i.stands);
      told_so_far = gathered_on e.format e.prbs shape c.loop-at.gathered c.put.new.self bytes c.loop-at.at c.feed-step.result.used c.feed-step.result.what i.told_so_far c.in_ok-put.ensures (s.told e.format e.prbs shape _ i.stands);
    }
