use Rattle.std.proofs.Common.{List, Contains, ap, sym, ◌∙◌, subst}
use Rattle.uplane_messages.specs.Left.{left_of}
use Rattle.uplane_sections.specs.Messages.{Item, Block}
use Rattle.calling_examples.proofs.Items.{is_found, no_block, none_ahead, other_block, still_ahead, still_among}
use Rattle.calling_examples.proofs.data.samples_of.Goals as goal

pub loop-item-preserved-else-prb-wanted : goal.loop-item-preserved-else-prb-wanted
loop-item-preserved-else-prb-wanted c =
    let all = left_of c.into_iter-item-iterator.result in
    let old = left_of c.loop-item.item-iterator in
    let new = left_of c.next.new.self in
    let what = c.in-Some.item in
    let known = c.loop-item.invariant in
    let first = c.in-Some.ensures.steps.0 in
    let other = other_block c.args.wanted what c.in-Block.prb c.in-Block.samples c.in-Block.is c.if-prb-wanted.false in
    record { among = still_among all old new what first known.among; ahead = still_ahead all old new what first c.args.wanted other known.ahead }

pub loop-item-preserved : goal.loop-item-preserved
loop-item-preserved c =
    let all = left_of c.into_iter-item-iterator.result in
    let old = left_of c.loop-item.item-iterator in
    let new = left_of c.next.new.self in
    let what = c.in-Some.item in
    let known = c.loop-item.invariant in
    let first = c.in-Some.ensures.steps.0 in
    let other = no_block c.args.wanted what c.in_default.not-Block in
    record { among = still_among all old new what first known.among; ahead = still_ahead all old new what first c.args.wanted other known.ahead }

pub returns-then-prb-wanted-clause-block : goal.returns-then-prb-wanted-clause-block
returns-then-prb-wanted-clause-block c =
    let all = left_of c.into_iter-item-iterator.result in
    let same = ap left_of c.into_iter-item-iterator.ensures.into_iter_gives ∙ c.new-item-items.ensures.left in
    let found = is_found all (left_of c.loop-item.item-iterator) (left_of c.next.new.self) c.in-Some.item c.in-Some.ensures.steps.0 c.in-Block.prb c.args.wanted c.in-Block.samples c.in-Block.is c.if-prb-wanted.true
    c.loop-item.invariant.among in
    subst (λ (xs : List Item). Contains xs (Block c.args.wanted c.in-Block.samples)) same found

pub returns-clause-block : goal.returns-clause-block
returns-clause-block c samples here =
    let same = ap left_of c.into_iter-item-iterator.ensures.into_iter_gives ∙ c.new-item-items.ensures.left in
    let there = subst (λ (xs : List Item). Contains xs (Block c.args.wanted samples)) (sym same) here in
    none_ahead (left_of c.loop-item.item-iterator) (Block c.args.wanted samples) c.in-None.ensures.steps.0.before (c.loop-item.invariant.ahead samples there)
