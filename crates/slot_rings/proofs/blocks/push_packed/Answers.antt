use Rattle.std.proofs.Common.{◌∙◌, sym, arith}
use Rattle.slot_rings.proofs.BlockLemmas.{unpacked_last}
use Rattle.slot_rings.proofs.blocks.push_packed.Goals as goal

pub returns-clause-items : goal.returns-clause-items
returns-clause-items c = unpacked_last c.args.list.now.items c.push.new.self.items _ c.index_mut.result.now c.len-last.result c.unpack_into.new.into _ _
    c.push.ensures.items (sym c.is_ok-pushed.ensures.value ∙ c.if-prove.false) (omega (arith, c.len-last.ensures, c.args.list.now.ok.0))
    c.index_mut.ensures.value c.unpack_into.ensures
