use Rattle.std.proofs.Common.{◌≡◌, ℕ, pos, ◌+ℤ◌, ◌++◌, ap, ◌∙◌, arith}
use Rattle.fh_base.specs.declared.values.Slot.{Slot}
use Rattle.fh_base.specs.Lists.{each}
use Rattle.plain_units.specs.ClaimedStarts.{claimed_start}
use Rattle.unit_model.specs.Sweeps.{first_swept, of_frame, of_endpoint}
use Rattle.plain_units.proofs.starts.push_endpoint.Goals as goal
use Rattle.fh_base.proofs.EachLemmas.{none_yet, one_more}

pub loop-k-init : goal.loop-k-init
loop-k-init c = none_yet c.args.found.now.items _

pub loop-k-preserved : goal.loop-k-preserved
loop-k-preserved c =
    let e = c.args.sought.now.endpoint.now in
    let g = claimed_start c.args.sought.now.accepted.now c.args.sought.now.down c.args.sought.now.ep e in
    one_more c.args.found.now.items c.loop-k.found.items c.push_named_frame.new.found.items c.loop-k.k
    (λ (k : ℕ). of_frame g e c.args.sought.now.start.0 (first_swept c.args.sought.now.start.0 +ℤ pos k))
    (c.in_ok-push_named_frame.ensures ∙ ap (λ (x : Slot). c.loop-k.found.items ++ of_frame g e c.args.sought.now.start.0 x.frame) c.frame_at.ensures.value)
    c.loop-k.invariant

pub returns : goal.returns
unfolding of_endpoint
returns c =
    let e = c.args.sought.now.endpoint.now in
    let g = claimed_start c.args.sought.now.accepted.now c.args.sought.now.down c.args.sought.now.ep e in
    let all : c.loop-k.k ≡ 6 = omega arith in
    c.loop-k.invariant ∙ ap (λ n. c.args.found.now.items ++ each 0 n (λ (k : ℕ). of_frame g e c.args.sought.now.start.0 (first_swept c.args.sought.now.start.0 +ℤ pos k))) all
