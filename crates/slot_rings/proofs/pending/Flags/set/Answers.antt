use Rattle.std.proofs.Common.{◌<◌, arith, ap, length}
use Rattle.slot_rings.proofs.CountLemmas.{counted_more, place_few, set_most}
use Rattle.slot_rings.proofs.pending.Flags.set.Goals as goal

pub overflow_add-self : goal.overflow_add-self
overflow_add-self c =
    let most = set_most c.self.inside.symbols.items c.self.invariant.rows in
    omega (arith, c.self.invariant.few, c.self.invariant.number, most)

pub overflow_add-index_mut : goal.overflow_add-index_mut
overflow_add-index_mut c =
    let within : c.args.index < length c.self.inside.symbols.items = omega (arith, c.requires.index, ap length c.self.view_is) in
    let few = place_few c.self.inside.symbols.items c.self.inside.places.items c.self.inside.count c.args.index c.index_mut.result.now
    c.index_mut-then-not-flag.result.now c.self.invariant within c.index_mut.ensures.value c.index_mut-then-not-flag.ensures.value in
    omega (arith, few)

pub invariant_of-self : goal.invariant_of-self
invariant_of-self c =
    let within : c.args.index < length c.self.inside.symbols.items = omega (arith, c.requires.index, ap length c.self.view_is) in
    counted_more c.self.inside.symbols.items c.self.inside.places.items c.self.inside.count c.args.index c.index_mut.result.now c.args.symbol
    c.index_mut-then-not-flag.result.now c.self.invariant within c.index_mut.ensures.value c.index_mut-then-not-flag.ensures.value c.requires.symbol
    c.if-not-flag.true
