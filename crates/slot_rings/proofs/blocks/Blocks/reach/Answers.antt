use Rattle.std.proofs.Common.{◌≤◌, ◌+◌, ◌∙◌, ap, arith, get_or, None}
use Rattle.slot_rings.specs.Blocks.{BlocksValue}
use Rattle.slot_rings.proofs.BlockLemmas.{reach_are, reach_most, reach_same}
use Rattle.slot_rings.proofs.blocks.Blocks.reach.Goals as goal

pub invariant_of-self : goal.invariant_of-self
invariant_of-self c =
    let i = c.self.inside in
    let are = c.self.invariant.2 in
    let fits : c.args.from + c.args.count ≤ i.cells = omega (arith, c.requires, ap (λ (v : BlocksValue). v.cells) c.self.view_is) in
    let most = reach_most i.numbers.len c.reach.new.list.len (c.args.from + c.args.count) i.cells c.reach.ensures.exact c.reach.ensures.stays
    (omega (arith, are.most, i.numbers.ok.0)) fits in (
      omega (arith, c.self.invariant.0, c.reach.ensures.capacity),
      c.self.invariant.1,
      reach_are i.cells i.numbers.items c.reach.new.list.items i.list.items are c.reach.ensures.same (omega (arith, most, c.reach.new.list.ok.0)),
    )

pub returns-clause-same : goal.returns-clause-same
returns-clause-same c k =
    let i = c.self.inside in
    reach_same i.cells i.numbers.items c.reach.new.list.items i.list.items c.self.invariant.2 c.reach.ensures.same k
    ∙ ap (λ (v : BlocksValue). get_or v.items k None) c.self.view_is
