use Rattle.std.proofs.Common.{◌<◌, arith, ap, length}
use Rattle.slot_rings.proofs.CountLemmas.{counted_less}
use Rattle.slot_rings.proofs.pending.Flags.clear.Goals as goal

pub invariant_of-self : goal.invariant_of-self
invariant_of-self c =
    let within : c.args.index < length c.self.inside.symbols.items = omega (arith, c.requires.index, ap length c.self.view_is) in
    counted_less c.self.inside.symbols.items c.self.inside.places.items c.self.inside.count c.args.index c.index_mut.result.now c.args.symbol
    c.index_mut-then-flag.result.now c.self.invariant within c.index_mut.ensures.value c.index_mut-then-flag.ensures.value c.requires.symbol c.if-flag.true
