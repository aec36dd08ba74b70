use Rattle.std.proofs.Common.{◌≡◌, ◌++◌, ap, ◌∙◌, arith}
use Rattle.fh_base.specs.declared.values.Slot.{Slot}
use Rattle.fh_base.specs.Lists.{each}
use Rattle.plain_units.specs.ClaimedStarts.{claimed_start}
use Rattle.unit_model.specs.Sweeps.{of_subframe, of_frame}
use Rattle.plain_units.proofs.starts.push_frame.Goals as goal
use Rattle.fh_base.proofs.EachLemmas.{none_yet, one_more}

pub loop-subframe-init : goal.loop-subframe-init
loop-subframe-init c = none_yet c.args.found.now.items _

pub loop-subframe-preserved : goal.loop-subframe-preserved
loop-subframe-preserved c =
    let e = c.args.sought.now.endpoint.now in
    let g = claimed_start c.args.sought.now.accepted.now c.args.sought.now.down c.args.sought.now.ep e in
    one_more c.args.found.now.items c.loop-subframe.found.items c.push_subframe.new.found.items c.loop-subframe.subframe
    (of_subframe g e c.args.sought.now.start.0 c.args.first.frame)
    (c.in_ok-push_subframe.ensures ∙ ap (λ (x : Slot). c.loop-subframe.found.items ++ of_subframe g e c.args.sought.now.start.0 x.frame x.subframe) c.subframe_at.ensures)
    c.loop-subframe.invariant

pub returns : goal.returns
unfolding of_frame
returns c =
    let e = c.args.sought.now.endpoint.now in
    let all : c.loop-subframe.subframe ≡ 10 = omega arith in
    c.loop-subframe.invariant
    ∙ ap (λ n. c.args.found.now.items ++ each 0 n (of_subframe (claimed_start c.args.sought.now.accepted.now c.args.sought.now.down c.args.sought.now.ep e) e c.args.sought.now.start.0 c.args.first.frame)) all
