use Rattle.std.proofs.Common.{arith, Some}
use Rattle.slot_rings.proofs.BlockLemmas.{is_zero, not_zero, put_are, put_here, put_kept, put_others, put_room, put_small}
use Rattle.slot_rings.proofs.blocks.Blocks.put.Goals as goal

pub push-requires : goal.push-requires
push-requires c =
    let i = c.self.inside in
    let room = put_room c.args.self.now i.cells i.numbers.items i.list.items c.args.k c.self.view_is c.self.invariant.2 c.requires (is_zero _ _ c.is_free.ensures c.if-is_free.true) in
    record { room = omega (arith, room, i.list.ok.0, c.self.invariant.1) }

pub overflow_cast-len : goal.overflow_cast-len
overflow_cast-len c =
    let i = c.self.inside in
    let small = put_small c.args.self.now i.cells i.numbers.items i.list.items c.args.k c.self.view_is c.self.invariant.2 c.requires (is_zero _ _ c.is_free.ensures c.if-is_free.true)
    c.push.new.list.items c.args.block.now c.len.result c.push.ensures.items (omega (arith, c.len.ensures, c.push.new.list.ok.0)) in
    omega (arith, small)

pub invariant_of-self : goal.invariant_of-self
invariant_of-self c =
    let i = c.self.inside in (
      c.self.invariant.0,
      omega (arith, c.self.invariant.1, c.push.ensures.capacity),
      put_are c.args.self.now i.cells i.numbers.items i.list.items c.args.k c.self.view_is c.self.invariant.2 c.requires (is_zero _ _ c.is_free.ensures c.if-is_free.true)
          c.push.new.list.items c.args.block.now c.len.result c.push.ensures.items (omega (arith, c.len.ensures, c.push.new.list.ok.0)),
    )

pub returns-then-is_free-clause-here : goal.returns-then-is_free-clause-here
returns-then-is_free-clause-here c =
    let i = c.self.inside in
    put_here c.args.self.now i.cells i.numbers.items i.list.items c.args.k c.self.view_is c.self.invariant.2 c.requires (is_zero _ _ c.is_free.ensures c.if-is_free.true)
    c.push.new.list.items c.args.block.now c.len.result c.push.ensures.items (omega (arith, c.len.ensures, c.push.new.list.ok.0))

pub returns-then-is_free-clause-others : goal.returns-then-is_free-clause-others
returns-then-is_free-clause-others c =
    let i = c.self.inside in
    put_others c.args.self.now i.cells i.numbers.items i.list.items c.args.k c.self.view_is c.self.invariant.2 c.requires (is_zero _ _ c.is_free.ensures c.if-is_free.true)
    c.push.new.list.items c.args.block.now c.len.result c.push.ensures.items (omega (arith, c.len.ensures, c.push.new.list.ok.0))

pub returns-else-is_free-clause-here : goal.returns-else-is_free-clause-here
returns-else-is_free-clause-here c =
    let i = c.self.inside in
    put_kept c.args.self.now i.cells i.numbers.items i.list.items c.args.k c.self.view_is c.self.invariant.2 c.requires
    (Some c.args.block.now) (not_zero _ _ c.is_free.ensures c.if-is_free.false)
