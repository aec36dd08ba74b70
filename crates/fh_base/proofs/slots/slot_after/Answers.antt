use Rattle.std.proofs.Common.{pos, ◌+◌, ◌+ℤ◌, arith, rules, to_z, of_z}
use mir.Syntax.{w64}
use Rattle.std.proofs.lemmas.Int.{ints}
use Rattle.fh_base.proofs.Order.{next_in_subframe, next_subframe, only_next}
use Rattle.fh_base.proofs.slots.slot_after.Goals as goal

pub returns-then-slot-shape-clause-only : goal.returns-then-slot-shape-clause-only
returns-then-slot-shape-clause-only c =
    only_next c.args.n.now c.args.slot _ (search rules)
    (next_in_subframe c.args.n.now c.args.slot (to_z w64 (of_z w64 c.args.slot.frame)) (omega (arith, ints)))

pub returns-then-slot-lt9-clause-next : goal.returns-then-slot-lt9-clause-next
returns-then-slot-lt9-clause-next c =
    next_subframe c.args.n.now c.args.slot (to_z w64 (of_z w64 c.args.slot.frame)) (c.args.slot.subframe + 1)
    c.requires.slot (rw c.shape.ensures at c.if-slot-shape.false) (omega (arith, ints))

pub returns-then-slot-lt9-clause-only : goal.returns-then-slot-lt9-clause-only
returns-then-slot-lt9-clause-only c = only_next c.args.n.now c.args.slot _ (search rules) (returns-then-slot-lt9-clause-next c)

pub returns-else-slot-lt9-clause-next : goal.returns-else-slot-lt9-clause-next
returns-else-slot-lt9-clause-next c =
    next_subframe c.args.n.now c.args.slot (to_z w64 (of_z w64 (to_z w64 (of_z w64 c.args.slot.frame) +ℤ pos 1))) 0
    c.requires.slot (rw c.shape.ensures at c.if-slot-shape.false) (omega (arith, ints))

pub returns-else-slot-lt9-clause-only : goal.returns-else-slot-lt9-clause-only
returns-else-slot-lt9-clause-only c = only_next c.args.n.now c.args.slot _ (search rules) (returns-else-slot-lt9-clause-next c)
