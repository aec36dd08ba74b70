use Rattle.std.proofs.Common.{◌≡◌, ℕ, ◌++◌, ap, ◌∙◌, arith}
use Rattle.fh_base.specs.Numbering.{slots_of}
use Rattle.fh_base.specs.declared.values.Shape.{Shape}
use Rattle.fh_base.specs.declared.values.Slot.{Slot}
use Rattle.fh_base.specs.Lists.{each}
use Rattle.plain_units.specs.ClaimedStarts.{claimed_start}
use Rattle.unit_model.specs.Sweeps.{slot_at, of_slot, of_subframe}
use Rattle.plain_units.proofs.starts.push_subframe.Goals as goal
use Rattle.fh_base.proofs.EachLemmas.{none_yet, one_more}

pub loop-slot-init : goal.loop-slot-init
loop-slot-init c = none_yet c.args.found.now.items _

pub loop-slot-preserved : goal.loop-slot-preserved
loop-slot-preserved c =
    let e = c.args.sought.now.endpoint.now in
    let g = claimed_start c.args.sought.now.accepted.now c.args.sought.now.down c.args.sought.now.ep e in
    one_more c.args.found.now.items c.loop-slot.found.items c.push_slot.new.found.items c.loop-slot.slot
    (λ (slot : ℕ). of_slot g e c.args.sought.now.start.0 (slot_at c.args.first.frame c.args.first.subframe slot))
    (c.in_ok-push_slot.ensures ∙ ap (λ (x : Slot). c.loop-slot.found.items ++ of_slot g e c.args.sought.now.start.0 x) c.slot_at.ensures) c.loop-slot.invariant

pub returns : goal.returns
unfolding of_subframe
returns c =
    let e = c.args.sought.now.endpoint.now in
    let g = claimed_start c.args.sought.now.accepted.now c.args.sought.now.down c.args.sought.now.ep e in
    let all : c.loop-slot.slot ≡ slots_of e.numerology = omega (arith, ap (λ (x : Shape). x.slots) c.shape-shape.ensures) in
    c.loop-slot.invariant
    ∙ ap (λ n. c.args.found.now.items ++ each 0 n (λ (slot : ℕ). of_slot g e c.args.sought.now.start.0 (slot_at c.args.first.frame c.args.first.subframe slot))) all
