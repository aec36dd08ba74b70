use Rattle.std.proofs.Common.{◌∙◌, ap, arith, get_or, None}
use Rattle.slot_rings.specs.Blocks.{BlocksValue}
use Rattle.slot_rings.proofs.BlockLemmas.{unnumbered, wiped_are, wiped_none}
use Rattle.slot_rings.proofs.blocks.Blocks.wipe.Goals as goal

pub wipe-requires : goal.wipe-requires
wipe-requires c = record {
  each = λ k none.
      let i = c.self.inside in
      unnumbered i.cells i.numbers.items i.list.items k c.self.invariant.2 (ap (λ (v : BlocksValue). get_or v.items k None) c.self.view_is ∙ c.requires.each k none);
}

pub invariant_of-self : goal.invariant_of-self
invariant_of-self c =
    let i = c.self.inside in (
      omega (arith, c.self.invariant.0, c.wipe.ensures.capacity),
      omega (arith, c.self.invariant.1, c.clear.ensures.capacity),
      wiped_are i.cells i.numbers.items c.wipe.new.list.items i.list.items c.clear.new.self.items c.self.invariant.2
          (omega (arith, c.wipe.ensures.len, c.wipe.new.list.ok.0, i.numbers.ok.0)) c.clear.ensures.items c.wipe.ensures.blank,
    )

pub returns-clause-none : goal.returns-clause-none
returns-clause-none c =
    let i = c.self.inside in
    wiped_none i.cells i.numbers.items c.wipe.new.list.items i.list.items c.clear.new.self.items c.self.invariant.2
    (omega (arith, c.wipe.ensures.len, c.wipe.new.list.ok.0, i.numbers.ok.0)) c.clear.ensures.items c.wipe.ensures.blank
